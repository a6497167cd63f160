pub mod Growing
pub mod Making
pub mod Marks
pub mod Walks
