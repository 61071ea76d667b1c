-- Document 03 as definitions, to be read in this order; Terms has the words of the theorems (crate model_theorems), Invariant what every
-- operation keeps. Laws of all of it stand in proofs/.
pub mod Base
pub mod State
pub mod Entry
pub mod Translate
pub mod Changes
pub mod Operations
pub mod Cache
pub mod Machine
pub mod Bytes
pub mod Terms
pub mod Invariant
