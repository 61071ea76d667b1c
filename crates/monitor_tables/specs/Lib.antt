-- The way of a page through its guest's tables, where an entry leads, the numbers of rights, a new table and what linking it asks for.
pub mod Entries
pub mod Rights
pub mod Way
pub mod NewTable
