pub mod AddedUp
pub mod Counts
pub mod OffsetClasses
pub mod OffsetSums
pub mod RisingPairs
