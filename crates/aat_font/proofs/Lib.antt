pub mod ClearBits
pub mod MoreBits
pub mod MoreWakers
pub mod Numbered
pub mod SegmentBits
pub mod SummedWords
