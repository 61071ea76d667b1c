-- Laws of the definitions, for the proofs of the code here and above.
pub mod Parts
pub mod Printable
pub mod Based
pub mod Effects
