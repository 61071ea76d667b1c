-- A run with sharing, a stale cache, draining and reuse; one with sharing for writing and a destroyed guest.
pub mod NotEmpty
