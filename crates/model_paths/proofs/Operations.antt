-- The paths of the nine operations.
pub mod Frames
pub mod GiveTake
pub mod Create
pub mod Unmap
pub mod Share
pub mod Destroy
pub mod Invalidated
pub mod Map
