-- The statements of crate isolation, of one moment (Fit) or one step, from those on moves.
pub mod Words
pub mod Hands
pub mod TakenOut
pub mod Contents
