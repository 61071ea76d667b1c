-- What a host is told: what the contracts cite.
pub mod Questions
