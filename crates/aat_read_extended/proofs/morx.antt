pub mod Bounded
pub mod Counted
pub mod OfBytes
pub mod ReadParts
