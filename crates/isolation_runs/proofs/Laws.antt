-- Laws of specs/.
pub mod Calls
pub mod Answered
pub mod StoredByte
pub mod Steps
pub mod Runs
pub mod Possible
