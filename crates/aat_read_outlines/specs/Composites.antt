-- Outlines of glyphs, also of those that are made of others. Apple's TrueType Reference Manual, "The 'glyf' table".
use Rattle.std.specs.Prelude.{ℕ, zero, suc, ◌+◌, ◌-◌, ◌==◌, ◌++◌, List, [], ◌∷◌, length, map, Option, Some, None, Result, Ok, Err, if◌then◌else◌, nat_lt, nat_le}
use Rattle.aat_bytes.specs.Faults.{after}
use Rattle.aat_bytes.specs.Numbers.{be16}
use Rattle.aat_bytes.specs.declared.error.Fault.{Fault}
use Rattle.aat_read_outlines.specs.Components.{components_from, placed}
use Rattle.aat_read_outlines.specs.Glyphs.{GlyphBytes, past}
use Rattle.aat_read_outlines.specs.Offsets.{OutlineTables, glyph_bytes}
use Rattle.aat_read_outlines.specs.Outlines.{PointLists, no_points}
use Rattle.aat_read_outlines.specs.SimpleGlyphs.{simple_outline}
use Rattle.aat_read_outlines.specs.declared.components.Component.{Component}

-- an outline, and how many more components may be read
pub record Drawing : Type 0 where
  pub outline : PointLists
  pub left : ℕ

-- the outline of a glyph that is not composite, or nothing for one that is, whose number of contours is below 0
abbrev pub plain_outline : GlyphBytes → Result (Option PointLists) Fault
plain_outline glyph =
    if length glyph.bytes == 0 then Ok (Some no_points) else
    if nat_lt (length glyph.bytes) 10 then Err (past glyph 0) else
    if nat_le 32768 (be16 glyph.bytes 0) then Ok None else
    if be16 glyph.bytes 0 == 0 then Ok (Some no_points) else
    after (simple_outline glyph (be16 glyph.bytes 0)) (λ outline. Ok (Some outline))

-- an outline with that of a component behind it, unless both have more than 65,536 points
abbrev pub joined : PointLists → Component → PointLists → PointLists
joined outline component inner =
    if nat_lt 65536 (length outline.points + length inner.points) then outline else
    record {
      points = outline.points ++ map (placed component) inner.points;
      ends = outline.ends ++ map (λ end. length outline.points + end) inner.ends;
    }

-- a drawing with components behind it, each of whose glyphs is drawn with as many components as are left
abbrev pub drawn_with : (ℕ → ℕ → Result Drawing Fault) → List Component → Drawing → Result Drawing Fault
drawn_with draw [] drawing = Ok drawing
drawn_with draw (component ∷ components) drawing =
    after (draw drawing.left component.glyph) (λ inner.
    drawn_with draw components (record {
      outline = joined drawing.outline component inner.outline;
      left = inner.left;
    }))

-- the drawing of a glyph that is not composite, or else what is drawn of its bytes
abbrev pub drawn_or : OutlineTables → ℕ → ℕ → (GlyphBytes → Result Drawing Fault) → Result Drawing Fault
drawn_or tables left glyph composite =
    after (glyph_bytes tables glyph) (λ bytes.
    after (plain_outline bytes) (λ plain. elim plain [
      | Some outline ↦ Ok (record { outline = outline; left = left })
      | None ↦ composite bytes
    ]))

-- the drawing of a glyph: a composite one so many levels deep has no points, and those above it count the components of
-- a glyph before those within them
unfoldable pub drawn_at : OutlineTables → ℕ → ℕ → ℕ → Result Drawing Fault
drawn_at tables zero left glyph = drawn_or tables left glyph (λ bytes. Ok (record { outline = no_points; left = left }))
drawn_at tables (suc depth) left glyph =
    drawn_or tables left glyph (λ bytes.
    after (components_from bytes 10 left) (λ components.
    drawn_with (drawn_at tables depth) components (record {
      outline = no_points;
      left = left - length components;
    })))

-- the outline of a glyph, with composite glyphs up to 8 deep and of up to 64 components in all
abbrev pub outline_of : OutlineTables → ℕ → Result PointLists Fault
outline_of tables glyph = after (drawn_at tables 8 64 glyph) (λ drawing. Ok drawing.outline)
