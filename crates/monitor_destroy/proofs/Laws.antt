-- Laws, for proofs.
pub mod Destroy
