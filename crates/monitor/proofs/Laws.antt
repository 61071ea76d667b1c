-- Laws, for proofs.
pub mod SetUp
