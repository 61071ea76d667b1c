-- What is printed of a walk's answer, a guest and a frame.
pub mod Answer
pub mod Guest
pub mod Frame
