-- Pairs of a glyph and its value that do harm, or are of no use. Apple's TrueType Reference Manual, "Font Tables",
-- section on lookup tables, and "The 'maxp' table".
use Rattle.std.specs.Prelude.{ℕ, ◌==◌, ◌&&◌, Bool, not, nat_le, is_some, List}
use Rattle.aat_lookup.specs.Keys.{value_in}
use Rattle.aat_findings.specs.declared.glyphs.PairKind.{PairKind}
use Rattle.aat_findings.specs.declared.glyphs.PairKind.TheVariants.{GlyphPast, ValuePast, Deletes, Restores}

-- a pair is of a kind, in a font of so many glyphs: its glyph or its value is not below their number, and is not the
-- deleted glyph, 0xFFFF; or one of the two is that glyph, and not the other
abbrev pub is_of : PairKind → ℕ → ℕ × ℕ → Bool
is_of GlyphPast count p = nat_le count p.0 && not (p.0 == 0xFFFF)
is_of ValuePast count p = nat_le count p.1 && not (p.1 == 0xFFFF)
is_of Deletes _ p = (p.1 == 0xFFFF) && not (p.0 == 0xFFFF)
is_of Restores _ p = (p.0 == 0xFFFF) && not (p.1 == 0xFFFF)

-- pairs list a value for the deleted glyph, which a state table does not ask: its class is 2
abbrev pub lists_deleted : List (ℕ × ℕ) → Bool
lists_deleted pairs = is_some (value_in pairs 0xFFFF)
