pub mod FoundRows
pub mod ListFalls
pub mod PassedRows
pub mod Singles
