pub mod Arenas
pub mod Exposed
pub mod Stops
pub mod Stretches
pub mod Sums
pub mod Texts
pub mod Told
pub mod Widths
