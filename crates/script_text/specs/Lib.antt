-- Words, numbers and digits in bytes, and what printing leaves.
pub mod Text
pub mod Words
pub mod Bases
pub mod Number
pub mod Digits
pub mod Wrote
