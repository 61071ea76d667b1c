-- That the steps of the two slices are runs of moves, and what the operations count on holds before each.
pub mod Laws
pub mod Isolation
pub mod Coarse
