pub mod Drawn
pub mod Inside
