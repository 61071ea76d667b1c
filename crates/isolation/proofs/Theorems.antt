-- The third demand on one page (Isolation), of the two slices that the code works on; a file for each sentence; what a guest reads on two
-- computers (TwoComputers); and that the steps can be made (Possible, BesideItself).
pub mod Reach
pub mod TwoGuests
pub mod BeyondShared
pub mod Hidden
pub mod ChangesHands
pub mod BecomesTable
pub mod TakenOut
pub mod NewGuest
pub mod Integrity
pub mod OneTranslation
pub mod Isolation
pub mod Possible
pub mod TwoComputers
pub mod BesideItself
