pub mod Appended
pub mod Bounded
pub mod Outside
