pub mod Filling
pub mod Inside
