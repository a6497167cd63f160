pub mod OfRows
pub mod Passed
