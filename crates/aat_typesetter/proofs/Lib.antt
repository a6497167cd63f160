pub mod BreaksHeld
pub mod Counted
pub mod EndsKept
pub mod FeaturesRead
pub mod Hanging
pub mod NotFound
pub mod Plain
pub mod Refusals
mod Unhidden
