-- Laws, and that every move keeps the invariant. No statement is read here.
pub mod Laws
pub mod Invariant
