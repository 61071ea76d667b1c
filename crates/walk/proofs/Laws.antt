-- One level of a walk, and how the walk goes on from it.
pub mod OneLevel
pub mod Level
-- What bounds the addresses and the numbers of descriptors.
pub mod Bounds
pub mod Within
pub mod Short
pub mod Answers
-- How the numbers add up, and the loops of the code.
pub mod Counts
pub mod Walk
pub mod Arguments
-- For crates above: that arguments fit, and where both stages found something.
pub mod Fits
pub mod Found
-- The long proofs of walk_theorems.
pub mod Refused
pub mod Complete
pub mod Local
