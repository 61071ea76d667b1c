-- Laws, for proofs.
pub mod Words
pub mod Bytes
pub mod Ram
