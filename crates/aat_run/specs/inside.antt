pub mod Branches
pub mod Near
pub mod Passing
pub mod Places
pub mod Standing
