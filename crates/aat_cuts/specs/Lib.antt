pub mod Fonts
pub mod Held
pub mod Kinds
pub mod Labels
pub mod Reached
pub mod Settled
pub mod inside
