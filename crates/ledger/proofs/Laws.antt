-- Laws, for proofs.
pub mod Fields
pub mod Cells
pub mod FreeSet
pub mod Kinds
pub mod Words
pub mod Sound
pub mod Stores
pub mod Beside
pub mod LedgerSound
