-- The state of document 03 as one over spaces (View), and what it means that an operation goes along a path of moves (Goes).
pub mod View
pub mod Goes
