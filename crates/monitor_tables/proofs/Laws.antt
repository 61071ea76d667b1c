-- Laws, for proofs.
pub mod Entries
pub mod Way
pub mod NewTable
