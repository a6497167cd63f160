pub mod ClusterStarts
pub mod KnownGlyphs
pub mod Lone
pub mod Plain
pub mod Turning
