-- Words of two of the crate's theorems. The theorems stand in proofs/Theorems, where an edit of a word is refused by a proof that fails.
pub mod Integrity
pub mod TwoComputers
