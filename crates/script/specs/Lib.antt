-- What is printed for a line, and what the line did.
pub mod Printed
pub mod LineAnswered
