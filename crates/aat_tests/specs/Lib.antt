pub mod Counting
pub mod facts
