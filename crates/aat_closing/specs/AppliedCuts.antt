-- Where the line that the closing runs of a font leave can be cut. (No chapter of the manual: where a line can be broken is
-- the shaper's own.)
use Rattle.std.specs.Prelude.{◌≡◌, ℕ, ◌<◌, true, false, List, Option}
use Rattle.aat_buffer.specs.Buffer.{Buffer}
use Rattle.aat_buffer.specs.Marks.{produces_concat}
use Rattle.aat_font.specs.Face.{chains_in, tables_of}
use Rattle.aat_font.specs.declared.face.hb_font_t.{hb_font_t}
use Rattle.aat_run.specs.Budget.{operations_left}
use Rattle.aat_run.specs.declared.ranges.range_flags_t.{range_flags_t}
use Rattle.aat_map.specs.Map.{lists_for}
use Rattle.aat_map.specs.SwitchedChains.{switched_by}
use Rattle.aat_kinds.specs.Kinds.{Sizes}
use Rattle.aat_cut_kinds.specs.Open.{is_open}
use Rattle.aat_cut_kinds.specs.Parts.{LeftInParts, back_part, front_part}
use Rattle.aat_closing.specs.ClosingApplied.{closing_applied_by}
use Rattle.aat_closing.specs.CutsAbout.{AreEvenAbout}
use Rattle.aat_closing.specs.ToldParts.{HasBetween, IsRise}

-- What the closing runs of all chains under a map left of a line can be cut at each rise to c that they left open, with some
-- budget, and a glyph whose cluster is from low on and below c: it is what they leave of the parts. The map switches each
-- subtable evenly from low through c; the cursor was at the front, and no marks against joining were asked for.
abbrev pub CanBeCut : Sizes → hb_font_t → Option (List (List range_flags_t)) → Buffer → Buffer → Type 0
CanBeCut z face m b left =
    b.cursor ≡ 0 → produces_concat b.flags ≡ false
    → (low c q : ℕ)
    → AreEvenAbout low c b.direction
    (switched_by (chains_in (tables_of face).morx) (lists_for m (chains_in (tables_of face).morx)))
    → IsRise c q b → is_open c left.line ≡ true → 0 < operations_left left.max_ops → HasBetween low c left.line
    → LeftInParts left (closing_applied_by z face m (front_part q b)).buffer
    (closing_applied_by z face m (back_part q b)).buffer
