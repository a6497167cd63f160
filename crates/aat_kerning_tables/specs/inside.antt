pub mod Lefts
pub mod Rights
pub mod Rows
