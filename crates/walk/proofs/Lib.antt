-- What follows from the definitions: laws for the proofs of the code and for crates above.
pub mod Laws
