pub mod Least
pub mod Turns
