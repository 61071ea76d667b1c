-- Laws, for proofs.
pub mod Invariant
