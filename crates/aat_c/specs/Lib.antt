pub mod Handles
pub mod Slots
