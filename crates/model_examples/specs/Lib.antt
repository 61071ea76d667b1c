-- Nothing is said of nothing: states that are reached, computed by the checker.
-- Choices exist.
pub mod Lowest
-- The run of document 03, section 5, and the machine over it; one that shares for writing and destroys a guest; two that differ in what
-- others did.
pub mod Runs
pub mod Machine
pub mod Writing
pub mod Apart
pub mod Theorems
