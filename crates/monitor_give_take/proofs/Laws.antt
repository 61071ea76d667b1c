-- Laws, for proofs.
pub mod Give
pub mod Take
