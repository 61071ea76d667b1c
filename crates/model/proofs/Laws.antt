-- Laws, for proofs.
pub mod Base
pub mod Entry
pub mod Ways
