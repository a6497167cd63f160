pub mod Ends
pub mod Sound
