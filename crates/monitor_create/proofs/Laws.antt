-- Laws, for proofs.
pub mod Create
