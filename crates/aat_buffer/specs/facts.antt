pub mod Cases
pub mod Clusters
pub mod Ids
pub mod Lines
pub mod MergedTwice
pub mod Order
pub mod Removed
pub mod Small
