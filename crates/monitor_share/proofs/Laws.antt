-- Laws, for proofs.
pub mod Share
