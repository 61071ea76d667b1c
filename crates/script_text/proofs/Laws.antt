-- Laws of the definitions, for the proofs of the code here and above.
pub mod Scanning
pub mod Reading
pub mod Printing
