-- destroy: what the contracts cite.
pub mod Destroy
