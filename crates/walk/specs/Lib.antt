-- Document 01, section by section: what an address translates to.
pub mod Memory
pub mod Both
-- Not part of the document: what the code's functions hand to each other, and the walks that a walk is made of.
pub mod Steps
pub mod Walks
