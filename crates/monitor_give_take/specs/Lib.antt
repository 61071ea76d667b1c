-- give and take: what the contracts cite.
pub mod Give
pub mod Take
