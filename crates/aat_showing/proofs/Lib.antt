pub mod HiddenGlyphs
pub mod HiddenParts
pub mod PlacedMarks
pub mod RunsAlone
pub mod RunsBegun
pub mod Scanned
pub mod Shown
