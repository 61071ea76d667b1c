-- What is proved of document 01's walk, each sentence in a file of its own.
pub mod Refused
pub mod Low
pub mod Few
pub mod Complete
pub mod Local
