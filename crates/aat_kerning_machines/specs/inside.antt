pub mod Passing
pub mod RunStates
pub mod StackValues
