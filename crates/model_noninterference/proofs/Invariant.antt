-- What two runs have in common after every pair of steps. A reader of the theorems can skip this folder.
pub mod Agrees
pub mod Alike
pub mod Apart
pub mod ApartKept
pub mod ApartSteps
pub mod ApartFrames
pub mod ApartAnswers
pub mod ApartRuns
pub mod Beside
pub mod SameAnswers
