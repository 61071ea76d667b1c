-- Laws, for proofs.
pub mod Exchange
pub mod Moves
pub mod Start
