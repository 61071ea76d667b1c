-- Laws, for proofs.
pub mod Laws
