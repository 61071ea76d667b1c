-- Proofs of the functions of src/, each in its folder, and the laws that they use.
pub mod Laws
