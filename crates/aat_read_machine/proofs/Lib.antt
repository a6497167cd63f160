pub mod Bounded
pub mod Counting
pub mod Entries
pub mod Headers
pub mod Listed
pub mod OfBytes
pub mod OfRows
pub mod Walks
