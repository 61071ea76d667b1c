-- invalidated: what the contracts cite.
pub mod Invalidated
