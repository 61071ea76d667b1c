-- The free frames as the ledger keeps them: a frame that leaves or joins them, and all of them right after set-up.
pub mod Moves
pub mod Start
