-- Laws of specs/.
pub mod View
pub mod Reads
pub mod Guests
