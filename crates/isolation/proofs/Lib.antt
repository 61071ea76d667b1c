-- The theorems of the third demand.
pub mod Theorems
