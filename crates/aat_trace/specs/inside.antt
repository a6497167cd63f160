pub mod Split
pub mod Telling
