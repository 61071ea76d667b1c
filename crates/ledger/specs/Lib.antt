-- Layout says how the state lies in the ledger, by the names of Columns; Sound, what every operation counts on.
-- Fields and LedgerSound are the words of the contracts. Laws of all of it stand in proofs/Laws.
pub mod Columns
pub mod Cells
pub mod Layout
pub mod FreeSet
pub mod Fields
pub mod Kinds
pub mod Words
pub mod Sound
pub mod LedgerSound
