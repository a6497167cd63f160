pub mod AppliedCut
pub mod AsleepClosing
pub mod ClosingChained
pub mod ClosingRoom
pub mod Examples
pub mod IdleClosing
pub mod Ran
pub mod ToldInOrder
