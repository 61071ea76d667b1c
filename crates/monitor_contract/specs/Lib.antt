-- The numbers of refusals (Refusals); what every operation promises (Answers; of map and unmap, Found too); and the words of loops and
-- checks that several operations share.
pub mod Refusals
pub mod Answers
pub mod Found
pub mod EachFrame
pub mod LedgerOnly
