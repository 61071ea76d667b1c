-- unmap: what the contracts cite.
pub mod Unmap
