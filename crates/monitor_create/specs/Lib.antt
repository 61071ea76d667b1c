-- create: what the contracts cite.
pub mod Create
