pub mod Bisections
pub mod FoundKeys
pub mod Longs
pub mod Parts
pub mod Ranges
