pub mod Chunks
pub mod Marks
