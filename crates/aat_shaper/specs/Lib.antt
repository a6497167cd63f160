pub mod Examples
pub mod Lines
pub mod Named
pub mod Shaper
pub mod inside
