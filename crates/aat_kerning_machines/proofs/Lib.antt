pub mod Coming
pub mod LowBits
pub mod Passed
pub mod Popping
