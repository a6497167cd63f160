pub mod PlaceSteps
pub mod Texts
