-- Document 01, section 1: a word in a slice of bytes, and which frames from which address RAM can have.
pub mod Word
pub mod Ram
