-- A glyph that begins a run of a base and its marks.
use Rattle.std.proofs.Common.{◌≡◌, ap, refl, sym, true≢false, ◌==◌, Bool, true, false, not, if◌then◌else◌}
use Rattle.std.proofs.lemmas.Bool.{and_parts}
use Rattle.aat_shaped_text.specs.declared.text.CharacterKind.{CharacterKind}
use Rattle.aat_shaped_text.specs.declared.text.CharacterKind.TheVariants.{Mark, Other, Space}
use Rattle.aat_shaped_text.specs.declared.text.ShapedGlyph.{ShapedGlyph}
use Rattle.aat_showing.specs.MarkBoxes.{MarkPlacing, begins_run, class_of, is_mark, placed, set_on}
use Rattle.aat_showing.specs.Marks.{zeroed_mark}
use Rattle.aat_showing.specs.declared.mark_bases.MarkBase.{MarkBase}
use Rattle.aat_showing.specs.declared.mark_bases.MarkBase.TheVariants.{Boxed, Missing, Unboxed}

-- what is no mark has no class
pub classless : (kind : CharacterKind) → not (is_mark kind) ≡ true → (class_of kind == 0) ≡ true
classless Other h = refl
classless (Space width) h = refl
classless (Mark class) h = absurd (true≢false (sym h))

-- it stays as it is, whatever the base before it
pub run_stays : (p : MarkPlacing) (base : MarkBase) (g : ShapedGlyph) → begins_run g ≡ true → placed p base g ≡ g
run_stays p Missing g begun = refl
run_stays p Unboxed g begun = ap (λ (t : Bool). if t then g else zeroed_mark p.moves g) begun
run_stays p (Boxed b) g begun =
    ap (λ (t : Bool). if t then g else set_on p.direction p.gap b (class_of g.kind) (p.box g.glyph_id) g)
    (classless g.kind (and_parts (not g.is_ignorable) (not (is_mark g.kind)) begun).1)
