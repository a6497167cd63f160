pub mod HeldSteps
pub mod Steps
pub mod Waiting
