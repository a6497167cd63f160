pub mod Listed
pub mod KnownBases
