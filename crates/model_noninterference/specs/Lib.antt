-- What a guest reads depends on nothing that another does: the words of the two theorems, which stand in crate model_theorems.
pub mod TwoRunsTerms
pub mod ApartTerms
