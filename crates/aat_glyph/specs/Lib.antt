pub mod Directions
pub mod Errors
pub mod placement
