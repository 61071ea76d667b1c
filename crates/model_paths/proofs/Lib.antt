-- Each of the nine operations is a path of moves: a file for one or two of them. Ready gathers them.
pub mod Laws
pub mod Operations
pub mod Ended
pub mod Ready
pub mod Stored
pub mod Given
