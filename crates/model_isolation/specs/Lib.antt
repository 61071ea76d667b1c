-- The third demand of every run of moves, looks, reports and stores, from a start where nothing was kept: a file for each sentence.
-- A run is any list of steps (model_moves, Machine); the processor may have looked after every single store. Crate isolation says the
-- same of the two slices.
pub mod Reach
pub mod Hidden
pub mod TwoGuests
pub mod BeyondShared
pub mod ChangesHands
pub mod Integrity
pub mod Monitors
pub mod OneTranslation
pub mod OneTable
pub mod TwoComputers
pub mod ClosedLoop
pub mod Group
