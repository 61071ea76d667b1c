-- Laws of specs/.
pub mod Paths
