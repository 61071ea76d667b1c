-- What is there between two bytes of input.
pub mod Progress
