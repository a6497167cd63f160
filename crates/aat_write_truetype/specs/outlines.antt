pub mod Examples
pub mod GlyphData
pub mod LawExamples
pub mod OutlineLaws
pub mod OutlineWriteErrors
pub mod Tables
pub mod inside
