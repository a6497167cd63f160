pub mod Bisected
pub mod Coming
pub mod Digits
pub mod FewTurns
pub mod FloorUnseen
pub mod Passing
pub mod Ran
pub mod Stretched
