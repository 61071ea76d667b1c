-- Laws of the definitions, for the proofs of the code.
pub mod Names
pub mod Parsing
