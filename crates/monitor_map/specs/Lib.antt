-- map: what the contracts cite.
pub mod Map
