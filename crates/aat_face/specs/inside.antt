pub mod GlyphRows
