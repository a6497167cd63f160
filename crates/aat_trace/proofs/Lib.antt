pub mod SplitActs
pub mod ToldMore
