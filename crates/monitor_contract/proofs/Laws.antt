-- Laws, for proofs.
pub mod Refusals
pub mod Answers
pub mod Found
pub mod EachFrame
pub mod LedgerOnly
