-- The script language: its words, and the command that a line asks for.
pub mod Names
pub mod Commands
