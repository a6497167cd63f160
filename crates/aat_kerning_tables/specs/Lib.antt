pub mod AnchorPoints
pub mod Classes
pub mod KerningTableExamples
pub mod KerningTables
pub mod LeftGlyphs
pub mod Pairs
pub mod inside
