-- Laws, for proofs.
pub mod Invariant
pub mod Laws
