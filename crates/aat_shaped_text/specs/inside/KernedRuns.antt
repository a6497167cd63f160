-- The runs of the subtables that kern a text, one after another, and what is told of the places of its line.
use Rattle.std.specs.Prelude.{◌≡◌, ℕ, ◌<◌, ◌&&◌, ◌||◌, Bool, false, List, [], ◌∷◌, length, map, get_or, is_some, if◌then◌else◌}
use Rattle.aat_buffer.specs.Buffer.{Buffer}
use Rattle.aat_glyph.specs.declared.glyph.Direction.{Direction}
use Rattle.aat_font.specs.Face.{kern_in, kerx_in, tables_of}
use Rattle.aat_font.specs.declared.face.hb_font_t.{hb_font_t}
use Rattle.aat_font.specs.declared.plan.Feature.{Feature}
use Rattle.aat_kerning.specs.Cut.{ordered_line}
use Rattle.aat_kerning.specs.Positioning.{is_for_direction}
use Rattle.aat_cut_kinds.specs.KernedTables.{KernedSubtable, of_kern, of_kerx, runs_over}
use Rattle.aat_cut_kinds.specs.KerningCuts.{KernedRun, kerned_by_all}
use Rattle.aat_shaped_text.specs.Breaks.{may_break_by}
use Rattle.aat_shaped_text.specs.KernedBreaks.{kerning_opens}
use Rattle.aat_shaped_text.specs.declared.breaks.BreakRules.{BreakRules}

-- the runs of one subtable in its turn: attaching, where it is the first with cross-stream, and its own
abbrev pub runs_of : Bool → Direction → Bool → KernedSubtable → List KernedRun
runs_of requested d is_attached s = runs_over requested d is_attached (s ∷ [])

-- whether all glyphs are attached behind its turn
abbrev pub is_attached_behind : Direction → Bool → KernedSubtable → Bool
is_attached_behind d is_attached s =
    if is_for_direction s.kerning d then is_attached || s.kerning.has_cross_stream else is_attached

-- the runs of all of them, of the kerning table in use, over a line in processing order
abbrev pub all_runs : Bool → Direction → hb_font_t → KernedRun
all_runs requested d face =
    if is_some (tables_of face).kerx
    then kerned_by_all (runs_over requested d false
    (map (of_kerx 8 (tables_of face).ankr) (kerx_in (tables_of face).kerx)))
    else kerned_by_all (runs_over requested d false (map (of_kern 8) (kern_in (tables_of face).kern)))

-- A run kerns a line, and of its places that were open those are left that are open to the run too. Of place 0, where no
-- line is cut, nothing changes.
pub record Kerns (r : KernedRun) (b : Buffer) (old : List Bool) (c : Buffer) (new : List Bool) : Type 0 where
  pub left : c ≡ r.left b
  pub direction : c.direction ≡ b.direction
  pub count : length c.line ≡ length b.line
  pub long : length new ≡ length old
  pub first : get_or new 0 false ≡ get_or old 0 false
  pub opens :
      (q : ℕ) → 0 < q → q < length b.line → get_or new q false ≡ (get_or old q false && r.opens q b)

-- of the places of a line in drawing order those are left that kerning leaves open too
pub record ClosesKerned (face : hb_font_t) (features : List Feature) (b : Buffer) (old new : List Bool) : Type 0
  where
    pub long : length new ≡ length old
    pub first : get_or new 0 false ≡ get_or old 0 false
    pub opens :
        (i : ℕ) → 0 < i → i < length b.line
        → get_or new i false ≡ (get_or old i false && kerning_opens face b.direction features b i)

-- of each place of a line in drawing order it is told whether the line may be broken there by its glyphs
pub record TellsByGlyphs (rules : BreakRules) (b : Buffer) (told : List Bool) : Type 0 where
  pub long : length told ≡ length b.line
  pub opens : (i : ℕ) → i < length b.line → get_or told i false ≡ may_break_by rules (ordered_line b) i
