-- A text and its two parts, kerned by all subtables of a font that kerns pairs along the line: each glyph of a part is
-- marked only where that of the text is.
use Rattle.std.proofs.Common.{◌≡◌, ◌∙◌, sym, ap, refl, ℕ, ◌&&◌, ◌||◌, Bool, true, false, not, cond, List, [], ◌∷◌, map, fold, true≢false, is_some, subst}
use Rattle.std.proofs.lemmas.Bool.{and_parts}
use Rattle.std.specs.List.{list_all}
use Rattle.std.specs.Prelude.{Option}
use Rattle.aat_glyph.specs.Directions.{is_backward}
use Rattle.aat_glyph.specs.declared.glyph.Direction.{Direction}
use Rattle.aat_buffer.specs.Buffer.{Buffer, reversed}
use Rattle.aat_kerning_tables.specs.AnchorPoints.{Points}
use Rattle.aat_kerning_tables.specs.Classes.{kerning_by_classes}
use Rattle.aat_kerning_tables.specs.declared.kern.KernKind.{KernKind}
use Rattle.aat_kerning_tables.specs.declared.kern.KernKind.TheVariants as kind
use Rattle.aat_kerning_tables.specs.declared.kern.KernSubtable.{KernSubtable}
use Rattle.aat_kerning_tables.specs.declared.kerx.KerxFormat.{KerxFormat}
use Rattle.aat_kerning_tables.specs.declared.kerx.KerxFormat.TheVariants.{Format0, Format1, Format2, Format2Classes, Format4, Format6, Format6Classes}
use Rattle.aat_kerning_tables.specs.declared.kerx.KerxSubtable.{KerxSubtable}
use Rattle.aat_font.specs.Face.{kern_in, kerx_in, tables_of}
use Rattle.aat_font.specs.declared.face.hb_font_t.{hb_font_t}
use Rattle.aat_font.specs.declared.plan.Feature.{Feature}
use Rattle.aat_run.specs.Outcome.{Outcome}
use Rattle.aat_kerning.specs.Cut.{ordered_line}
use Rattle.aat_kerning.specs.PairKerning.{value_of}
use Rattle.aat_kerning.specs.Pairs.{kern_skips, kerx_skips}
use Rattle.aat_kerning.specs.Positioning.{Kerning, Positioned, in_processing_order, is_for_direction, is_kern_pairs, is_kerx_pairs, is_turned_round, kern_positioning, kerning_of_kern_subtable, kerning_of_kerx_subtable, kerx_positioning, positioned, positioning, run_of_kern_subtable, run_of_kerx_subtable, run_turned_round}
use Rattle.aat_kerning.proofs.Positioned.{ordered_twice}
use Rattle.aat_shaped_text.specs.Breaks.{kerns_apart, kerns_pairs_along, skips_of}
use Rattle.aat_shaped_text.specs.TextFeatures.{requests_kerning}
use Rattle.aat_shaped_text.specs.ShapedText.{text_kerning}
use Rattle.aat_shaped_text.proofs.KernedPairs.{AreInTwo, AreTexts, IsPlainText, pair_texts, unmarked}

-- a subtable of pairs along the line keeps what holds of a text and its parts
abbrev RunsInTwo : ℕ → ℕ → ℕ → Direction → Kerning → Type 0
RunsInTwo skips q n d k =
    k.is_pairs ≡ true → k.has_cross_stream ≡ false → (w f s : Buffer) → AreTexts skips q n d w f s
    → AreTexts skips q n d (k.run w).buffer (k.run f).buffer (k.run s).buffer

module _ (q n : ℕ) (d : Direction) where
  kerx_texts :
      (points : Option Points) (cross last : Bool) (tuple : ℕ) (format : KerxFormat) → is_kerx_pairs format ≡ true → cross ≡ false
      → (w f s : Buffer) → AreTexts kerx_skips q n d w f s
      → AreTexts kerx_skips q n d (run_turned_round (is_turned_round last format) (run_of_kerx_subtable 8 points cross tuple format) w).buffer
      (run_turned_round (is_turned_round last format) (run_of_kerx_subtable 8 points cross tuple format) f).buffer
      (run_turned_round (is_turned_round last format) (run_of_kerx_subtable 8 points cross tuple format) s).buffer
  kerx_texts points true last tuple format pairs along w f s texts = absurd (true≢false along)
  kerx_texts points false last tuple (Format0 listed) pairs along w f s texts = pair_texts kerx_skips q n d false (value_of listed) w f s texts
  kerx_texts points false last tuple (Format1 m) pairs along w f s texts = absurd (true≢false (sym pairs))
  kerx_texts points false last tuple (Format2 listed) pairs along w f s texts = pair_texts kerx_skips q n d true (value_of listed) w f s texts
  kerx_texts points false last tuple (Format2Classes classes) pairs along w f s texts = pair_texts kerx_skips q n d true (kerning_by_classes classes) w f s texts
  kerx_texts points false last tuple (Format4 m) pairs along w f s texts = absurd (true≢false (sym pairs))
  kerx_texts points false last tuple (Format6 listed) pairs along w f s texts = pair_texts kerx_skips q n d false (value_of listed) w f s texts
  kerx_texts points false last tuple (Format6Classes classes) pairs along w f s texts = pair_texts kerx_skips q n d false (kerning_by_classes classes) w f s texts

  kern_texts :
      (cross : Bool) (kind : KernKind) → is_kern_pairs kind ≡ true → cross ≡ false → (w f s : Buffer) → AreTexts kern_skips q n d w f s
      → AreTexts kern_skips q n d (run_of_kern_subtable 8 cross kind w).buffer (run_of_kern_subtable 8 cross kind f).buffer (run_of_kern_subtable 8 cross kind s).buffer
  kern_texts true kind pairs along w f s texts = absurd (true≢false along)
  kern_texts false (kind.Pairs listed) pairs along w f s texts = pair_texts kern_skips q n d true (value_of listed) w f s texts
  kern_texts false (kind.Classes classes) pairs along w f s texts = pair_texts kern_skips q n d true (kerning_by_classes classes) w f s texts
  kern_texts false (kind.Machine m) pairs along w f s texts = absurd (true≢false (sym pairs))

module _ (skips q n : ℕ) (d : Direction) where
  abbrev AreStates : Positioned → Positioned → Positioned → Type 0
  AreStates w f s = AreTexts skips q n d w.buffer f.buffer s.buffer

  step_texts :
      (requested : Bool) (k : Kerning) (w f s : Positioned) → RunsInTwo skips q n d k → kerns_pairs_along d k ≡ true → AreStates w f s
      → AreStates (positioned requested k w) (positioned requested k f) (positioned requested k s)
  unfolding positioned
  step_texts requested k w f s runs holds texts =
      by (is_for_direction k d) refl (ap (is_for_direction k) texts.whole_text.direction) (ap (is_for_direction k) texts.first_text.direction)
      (ap (is_for_direction k) texts.second_text.direction) k.is_pairs refl k.has_cross_stream refl holds requested
    where
      by :
          (v : Bool) → is_for_direction k d ≡ v → is_for_direction k w.buffer.direction ≡ is_for_direction k d
          → is_for_direction k f.buffer.direction ≡ is_for_direction k d → is_for_direction k s.buffer.direction ≡ is_for_direction k d
          → (u : Bool) → k.is_pairs ≡ u → (x : Bool) → k.has_cross_stream ≡ x → (not v || (u && not x)) ≡ true → (requested : Bool)
          → AreStates (positioned requested k w) (positioned requested k f) (positioned requested k s)
      by false for a b c u pairs x cross holds requested = rw (a ∙ for, b ∙ for, c ∙ for) texts
      by true for a b c false pairs x cross holds requested = absurd (true≢false (sym holds))
      by true for a b c true pairs true cross holds requested = absurd (true≢false (sym holds))
      by true for a b c true pairs false cross holds true =
          rw (a ∙ for, b ∙ for, c ∙ for, pairs, cross) (runs pairs cross w.buffer f.buffer s.buffer texts)
      by true for a b c true pairs false cross holds false = rw (a ∙ for, b ∙ for, c ∙ for, pairs, cross) texts

  ordered_text : (b : Buffer) → IsPlainText d b → IsPlainText d (in_processing_order b)
  ordered_text b text = by (is_backward b.direction)
    where
      by : (t : Bool) → IsPlainText d (cond t (reversed b) b)
      by true = record { direction = text.direction; flags = text.flags }
      by false = text

  module _ {X : Type 0} (h : X → Kerning) (runs : (x : X) → RunsInTwo skips q n d (h x)) (requested : Bool) where
    fold_texts :
        (xs : List X) (w f s : Positioned) → list_all (kerns_pairs_along d) (map h xs) ≡ true → AreStates w f s
        → AreStates (fold (λ p k. positioned requested k p) w (map h xs)) (fold (λ p k. positioned requested k p) f (map h xs))
        (fold (λ p k. positioned requested k p) s (map h xs))
    fold_texts [] w f s all texts = texts
    fold_texts (x ∷ xs) w f s all texts =
        let both = and_parts (kerns_pairs_along d (h x)) (list_all (kerns_pairs_along d) (map h xs)) all in
        fold_texts xs (positioned requested (h x) w) (positioned requested (h x) f) (positioned requested (h x) s) both.1
        (step_texts requested (h x) w f s (runs x) both.0 texts)

    positioning_texts :
        (xs : List X) (w f s : Buffer) → list_all (kerns_pairs_along d) (map h xs) ≡ true
        → IsPlainText d w → IsPlainText d f → IsPlainText d s → AreInTwo skips q n (ordered_line w) (ordered_line f) (ordered_line s)
        → AreInTwo skips q n (ordered_line (positioning requested (map h xs) w).buffer) (ordered_line (positioning requested (map h xs) f).buffer)
        (ordered_line (positioning requested (map h xs) s).buffer)
    unfolding positioning
    positioning_texts xs w f s all whole first second lines =
        let before : Buffer → Positioned = λ b. record { buffer = in_processing_order b; turns = 0; is_attached = false } in
        let left : Buffer → Buffer = λ b. (fold (λ p k. positioned requested k p) (before b) (map h xs)).buffer in
        let end : AreTexts skips q n d (left w) (left f) (left s) =
        fold_texts xs (before w) (before f) (before s) all
        (record { lines = lines; whole_text = ordered_text w whole; first_text = ordered_text f first; second_text = ordered_text s second }) in
        let back : (b : Buffer) → b.line ≡ ordered_line (in_processing_order b) = λ b. sym (ap (λ (c : Buffer). c.line) (ordered_twice b)) in
        subst (λ gs. AreInTwo skips q n gs (ordered_line (in_processing_order (left f))) (ordered_line (in_processing_order (left s)))) (back (left w))
        (subst (λ gs. AreInTwo skips q n (left w).line gs (ordered_line (in_processing_order (left s)))) (back (left f))
        (subst (λ gs. AreInTwo skips q n (left w).line (left f).line gs) (back (left s)) end.lines))

module _ (q n : ℕ) (d : Direction) where
  kerx_in_two :
      (requested : Bool) (points : Option Points) (subtables : List KerxSubtable) (w f s : Buffer)
      → list_all (kerns_pairs_along d) (map (kerning_of_kerx_subtable 8 points) subtables) ≡ true
      → IsPlainText d w → IsPlainText d f → IsPlainText d s → AreInTwo kerx_skips q n (ordered_line w) (ordered_line f) (ordered_line s)
      → AreInTwo kerx_skips q n (ordered_line (kerx_positioning requested 8 points subtables w).buffer)
      (ordered_line (kerx_positioning requested 8 points subtables f).buffer) (ordered_line (kerx_positioning requested 8 points subtables s).buffer)
  unfolding kerx_positioning
  kerx_in_two requested points subtables w f s all whole first second lines =
      rw (unmarked d w whole, unmarked d f first, unmarked d s second)
      (positioning_texts kerx_skips q n d (kerning_of_kerx_subtable 8 points)
      (λ x pairs along b c e texts. kerx_texts q n d points x.has_cross_stream x.is_last_to_first x.tuple_count x.format pairs along b c e texts)
      requested subtables w f s all whole first second lines)

  kern_in_two :
      (requested : Bool) (subtables : List KernSubtable) (w f s : Buffer)
      → list_all (kerns_pairs_along d) (map (kerning_of_kern_subtable 8) subtables) ≡ true
      → IsPlainText d w → IsPlainText d f → IsPlainText d s → AreInTwo kern_skips q n (ordered_line w) (ordered_line f) (ordered_line s)
      → AreInTwo kern_skips q n (ordered_line (kern_positioning requested 8 subtables w).buffer)
      (ordered_line (kern_positioning requested 8 subtables f).buffer) (ordered_line (kern_positioning requested 8 subtables s).buffer)
  unfolding kern_positioning
  kern_in_two requested subtables w f s all whole first second lines =
      positioning_texts kern_skips q n d (kerning_of_kern_subtable 8)
      (λ x pairs along b c e texts. kern_texts q n d x.has_cross_stream x.kind pairs along b c e texts)
      requested subtables w f s all whole first second lines

-- a text is kerned by the table in use
pub text_in_two :
    (face : hb_font_t) (features : List Feature) (q n : ℕ) (d : Direction) (w f s : Buffer) → kerns_apart face d ≡ true
    → IsPlainText d w → IsPlainText d f → IsPlainText d s → AreInTwo (skips_of face) q n (ordered_line w) (ordered_line f) (ordered_line s)
    → AreInTwo (skips_of face) q n (ordered_line (text_kerning face features w).buffer) (ordered_line (text_kerning face features f).buffer)
    (ordered_line (text_kerning face features s).buffer)
text_in_two face features q n d w f s all whole first second lines = by (is_some (tables_of face).kerx) all lines
  where
    by_kerx : Buffer → Outcome
    by_kerx b = kerx_positioning (requests_kerning features) 8 (tables_of face).ankr (kerx_in (tables_of face).kerx) b

    by_kern : Buffer → Outcome
    by_kern b = kern_positioning (requests_kerning features) 8 (kern_in (tables_of face).kern) b

    kerxs : List Kerning
    kerxs = map (kerning_of_kerx_subtable 8 (tables_of face).ankr) (kerx_in (tables_of face).kerx)

    kerns : List Kerning
    kerns = map (kerning_of_kern_subtable 8) (kern_in (tables_of face).kern)

    by :
        (t : Bool) → list_all (kerns_pairs_along d) (cond t kerxs kerns) ≡ true
        → AreInTwo (cond t kerx_skips kern_skips) q n (ordered_line w) (ordered_line f) (ordered_line s)
        → AreInTwo (cond t kerx_skips kern_skips) q n (ordered_line (cond t (by_kerx w) (by_kern w)).buffer)
        (ordered_line (cond t (by_kerx f) (by_kern f)).buffer) (ordered_line (cond t (by_kerx s) (by_kern s)).buffer)
    by true all lines = kerx_in_two q n d (requests_kerning features) (tables_of face).ankr (kerx_in (tables_of face).kerx) w f s all whole first second lines
    by false all lines = kern_in_two q n d (requests_kerning features) (kern_in (tables_of face).kern) w f s all whole first second lines
