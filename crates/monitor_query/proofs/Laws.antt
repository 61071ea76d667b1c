-- Laws, for proofs.
pub mod Questions
