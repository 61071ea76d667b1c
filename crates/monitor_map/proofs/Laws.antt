-- Laws, for proofs.
pub mod Map
