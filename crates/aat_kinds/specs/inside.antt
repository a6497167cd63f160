pub mod Run
pub mod Taken
