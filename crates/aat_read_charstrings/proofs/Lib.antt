pub mod Refusals
pub mod RunSteps
pub mod Splits
