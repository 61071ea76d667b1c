-- Laws of specs/Coarse.
pub mod Joined
pub mod Steps
pub mod Runs
