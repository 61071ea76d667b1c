-- Laws, for proofs.
pub mod Unmap
