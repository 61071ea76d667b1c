-- Laws, for proofs.
pub mod Invalidated
