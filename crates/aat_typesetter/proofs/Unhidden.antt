-- Glyphs of which none is ignorable are shown as they are, where the font has a space, or they are attached among one
-- another.
use Rattle.std.proofs.Common.{◌≡◌, ◌∙◌, ap, arith, cond, refl, sym, ℕ, zero, suc, ◌+◌, ◌-◌, ◌<◌, ◌≤◌, ◌&&◌, Bool, true, false, not, List, [], ◌∷◌, length, map, take, Option, Some, None, if◌then◌else◌}
use Rattle.std.specs.List.{count_by, filter, list_all, list_any, range_with_len}
use Rattle.std.specs.Prelude.{option_and_then}
use Rattle.std.proofs.lemmas.Bool.{or_parts}
use Rattle.std.proofs.lemmas.Bool.Decides.{nat_tests}
use Rattle.std.proofs.lemmas.List.FromFn.{fill_by_all}
use Rattle.std.proofs.lemmas.List.Sums.{AllPass-from_list_all, count_by_more_yes}
use Rattle.std.proofs.lemmas.Option.{slice_get-get_or}
use Rattle.aat_glyph.specs.declared.glyph.Direction.{Direction}
use Rattle.aat_lookup.specs.declared.glyph_id.GlyphId.{GlyphId}
use Rattle.aat_shaped_text.specs.Parts.{no_shaped_glyph, shaped_at}
use Rattle.aat_shaped_text.specs.declared.text.ShapedGlyph.{ShapedGlyph}
use Rattle.aat_showing.specs.Ignorables.{as_space, drawn_without_ignorables, kept_glyph, kept_glyphs, kept_place, stays}
use Rattle.aat_typesetter.specs.inside.Drawn.{is_within, keeps_all}

-- where each of some places passes a test, all do
all_pass :
    (p : ℕ → Bool) (a n : ℕ) → ((j : ℕ) → j < n → p (a + j) ≡ true) → filter p (range_with_len a n) ≡ range_with_len a n
all_pass p a zero each = refl
all_pass p a (suc n) each =
    let here : a + 0 ≡ a = omega arith in
    let rest = filter p (range_with_len (a + 1) n) in
    ap (λ (t : Bool). cond t (a ∷ rest) rest) (sym (ap p here) ∙ each 0 (omega arith))
    ∙ ap (λ (is : List ℕ). a ∷ is)
    (all_pass p (a + 1) n (λ j lt. let next : (a + 1) + j ≡ a + suc j = omega arith in ap p next ∙ each (suc j) (omega (arith, lt))))

none_at : (gs : List ShapedGlyph) → list_any (λ g. g.is_ignorable) gs ≡ false → (i : ℕ) → i < length gs → (shaped_at gs i).is_ignorable ≡ false
none_at [] none i lt = absurd (omega (arith, lt))
none_at (g ∷ gs) none zero lt = (or_parts g.is_ignorable (list_any (λ h. h.is_ignorable) gs) none).0
none_at (g ∷ gs) none (suc i) lt = none_at gs (or_parts g.is_ignorable (list_any (λ h. h.is_ignorable) gs) none).1 i (omega (arith, lt))

module _ (gs : List ShapedGlyph) (each : (i : ℕ) → i < length gs → (shaped_at gs i).is_ignorable ≡ false)
    (within : list_all (λ g. is_within (length gs) g.attached_to) gs ≡ true) where
  -- as many stay before a place as stand there
  counted : (i : ℕ) → i ≤ length gs → count_by stays (take i gs) ≡ i
  counted zero le = refl
  counted (suc i) le =
      let next : i + 1 ≡ suc i = omega arith in
      ap (λ (n : ℕ). count_by stays (take n gs)) (sym next)
      ∙ (count_by_more_yes stays gs i no_shaped_glyph (omega (arith, le)) (ap not (each i (omega (arith, le))))
      ∙ (ap (λ (n : ℕ). n + 1) (counted i (omega (arith, le))) ∙ next))

  placed : (p : ℕ) → p < length gs → kept_place gs p ≡ Some p
  placed p lt =
      ap (λ (o : Option ShapedGlyph). option_and_then (λ (g : ShapedGlyph). if g.is_ignorable then None else Some (count_by stays (take p gs))) o)
      (slice_get-get_or gs p no_shaped_glyph lt)
      ∙ (ap (λ (t : Bool). if t then None else Some (count_by stays (take p gs))) (each p lt) ∙ ap (λ (n : ℕ). Some n) (counted p (omega (arith, lt))))

  attached : (o : Option ℕ) → is_within (length gs) o ≡ true → option_and_then (kept_place gs) o ≡ o
  attached None is = refl
  attached (Some p) is = placed p (grind (arith, nat_tests, is))

  open_before : (t : Bool) (i : ℕ) → i < length gs → (t && stays (shaped_at gs (i - 1))) ≡ t
  open_before false i lt = refl
  open_before true i lt = ap not (each (i - 1) (omega (arith, lt)))

  kept_at : (i : ℕ) → i < length gs → shaped_at gs i ≡ kept_glyph gs i
  kept_at i lt =
      let g = shaped_at gs i in
      sym (ap (λ (o : Option ℕ). record g { attached_to = o; may_break_before = g.may_break_before && stays (shaped_at gs (i - 1)) })
      (attached g.attached_to (AllPass-from_list_all (λ h. is_within (length gs) h.attached_to) gs within i no_shaped_glyph lt))
      ∙ ap (λ (t : Bool). record g { may_break_before = t }) (open_before g.may_break_before i lt))

  all_kept : kept_glyphs gs ≡ gs
  all_kept =
      ap (map (kept_glyph gs))
      (all_pass (λ (i : ℕ). stays (shaped_at gs i)) 0 (length gs)
      (λ j lt. let here : 0 + j ≡ j = omega arith in ap (λ (n : ℕ). stays (shaped_at gs n)) here ∙ ap not (each j lt)))
      ∙ sym (fill_by_all (kept_glyph gs) gs (length gs) no_shaped_glyph refl kept_at)

with_space : (d : Direction) (s : GlyphId) (glyphs : List ShapedGlyph) → list_any (λ g. g.is_ignorable) glyphs ≡ false → drawn_without_ignorables d (Some s) glyphs ≡ glyphs
with_space d s [] none = refl
with_space d s (g ∷ glyphs) none =
    let both = or_parts g.is_ignorable (list_any (λ h. h.is_ignorable) glyphs) none in
    ap (λ (t : Bool). (if t then as_space d s g else g) ∷ drawn_without_ignorables d (Some s) glyphs) both.0
    ∙ ap (λ (gs : List ShapedGlyph). g ∷ gs) (with_space d s glyphs both.1)

pub unhidden :
    (d : Direction) (space : Option GlyphId) (glyphs : List ShapedGlyph) → list_any (λ g. g.is_ignorable) glyphs ≡ false
    → keeps_all space glyphs ≡ true → drawn_without_ignorables d space glyphs ≡ glyphs
unhidden d None glyphs none kept = all_kept glyphs (none_at glyphs none) kept
unhidden d (Some s) glyphs none kept = with_space d s glyphs none
