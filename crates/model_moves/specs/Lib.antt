-- What the monitor does, store by store, and what a processor may keep meanwhile. A reader begins with Spaces.
pub mod Spaces
pub mod Cache
pub mod Moves
pub mod Machine
pub mod Path
pub mod Terms
