pub mod Beside
pub mod Pens
pub mod Within
