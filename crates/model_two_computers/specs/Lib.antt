-- Words for what a guest reads on two computers (Terms), and for a program on them (Programs).
pub mod Terms
pub mod Programs
pub mod Group
