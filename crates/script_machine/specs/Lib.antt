-- What a command does to the machine of a script, and what it is told.
pub mod Operations
pub mod Machine
pub mod Printable
