pub mod Grid
pub mod Kept
