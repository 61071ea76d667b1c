-- Why what a space reads is the same on both.
pub mod Side
pub mod Half
pub mod Paired
pub mod Reading
pub mod TwoComputers
pub mod Paths
pub mod Acts
pub mod Group
pub mod BesideItself
pub mod Example
