pub mod Bounds
pub mod ComponentSteps
pub mod Contours
pub mod Drawn
pub mod FlagSteps
pub mod Refusals
pub mod Steps
