-- How rules of insertion are told: those of marked states.
use Rattle.std.specs.Prelude.{ℕ, ◌&&◌, Bool, List}
use Rattle.aat_lookup.specs.declared.glyph_id.GlyphId.{GlyphId}
use Rattle.aat_machine_tables.specs.Table.{Rule, TableValue}
use Rattle.aat_findings.specs.Growth.{Entry, is_inserting}
use Rattle.aat_findings.specs.inside.Marks.{is_marked}
use Rattle.aat_findings.specs.declared.growth.InsertionKind.{InsertionKind}

-- a rule is one of a marked state, and of a kind
abbrev pub is_told : TableValue Entry → List GlyphId → List ℕ → InsertionKind → Rule Entry → Bool
is_told table glyphs marks kind r = is_marked marks r.0 && is_inserting table glyphs kind r
