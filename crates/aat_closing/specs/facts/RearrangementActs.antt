-- The rearrangement act on a line that more glyphs stand behind, or before, and what it leaves of open clusters.
use Rattle.std.proofs.Common.{◌≡◌, ◌∙◌, ℕ, ℤ, ◌+◌, ◌-◌, ◌<◌, ◌≤◌, ◌&&◌, Bool, true, false, cond, List, ◌++◌, length, min, nat_lt, refl, ap, arith, length-append}
use Rattle.std.proofs.lemmas.Bool.Decides.{nat_tests}
use Rattle.std.specs.Prelude.{All, slice_range}
use Rattle.aat_buffer.specs.Buffer.{Buffer}
use Rattle.aat_buffer.specs.Clusters.{IsRisingLine}
use Rattle.aat_buffer.specs.Marks.{merge_clusters, on_line_span, on_span}
use Rattle.aat_buffer.specs.facts.Cases.{chosen}
use Rattle.aat_buffer.specs.facts.Lines.{length_merge, length_slice}
use Rattle.aat_buffer.specs.facts.Order.{comes_of_merge, order_of_any_merge}
use Rattle.aat_glyph.specs.declared.glyph.hb_glyph_info_t.{hb_glyph_info_t}
use Rattle.aat_machine_tables.specs.Entries.{has_flag}
use Rattle.aat_machine_tables.specs.Judged.{rearrangement_acts}
use Rattle.aat_run.specs.Context.{Moved}
use Rattle.aat_kinds.specs.Rearrangement.{Entry, IsFit, Registers, act, actionable, is_within, moved, rearranged, verb_of, with_marks}
use Rattle.aat_kinds.specs.facts.Permutation.{rearranged_permutes}
use Rattle.aat_kinds.specs.facts.RearrangementLaws.{of_act}
use Rattle.aat_cut_kinds.specs.CutLaws.{left_before}
use Rattle.aat_cut_kinds.specs.Open.{is_open}
use Rattle.aat_cut_kinds.specs.Parts.{followed_by, moved_on}
use Rattle.aat_cut_kinds.specs.facts.MergedOpens.{merge_open_rising}
use Rattle.aat_cut_kinds.specs.facts.MergedParts.{merge_in_back, merge_in_front}
use Rattle.aat_cut_kinds.specs.facts.Opens.{moved_open}
use Rattle.aat_cut_kinds.specs.facts.Spans.{span_in_back, span_in_front}
use Rattle.aat_cut_kinds.specs.facts.CutSides.{all_from}

-- the span behind what an entry sets at the cursor
abbrev pub set_at : Entry → Registers → Buffer → Registers
set_at e r b = with_marks e r b.cursor (length b.line)

-- whether an entry moves a span
abbrev can_move : ℕ → Entry → Registers → Bool
can_move bound e s = actionable e s 0 0 && is_within bound (verb_of e) s

-- a span that moves is not empty
some_moves : (bound : ℕ) (e : Entry) (s : Registers) → can_move bound e s ≡ true → s.start < s.end
some_moves bound e s is = grind (arith, nat_tests, is)

-- the end of a span stays within the line
end_within : (e : Entry) (r : Registers) (b : Buffer) → r.end ≤ length b.line → (set_at e r b).end ≤ length b.line
end_within e r b fit = chosen (λ (k : ℕ). k ≤ length b.line) (has_flag e 0x2000) (min (b.cursor + 1) (length b.line)) r.end (λ _. omega arith) (λ _. fit)

-- an entry without a verb sets places alone
pub idle_act : (bound : ℕ) (e : Entry) (r : Registers) (b : Buffer) → rearrangement_acts e ≡ false → act bound e r b ≡ record { registers = set_at e r b; buffer = b }
unfolding act
idle_act bound e r b none = rw none refl

-- inside a line an entry sets the same places with more glyphs behind the line
pub set_in_front : (gs : List hb_glyph_info_t) (e : Entry) (r : Registers) (b : Buffer) → b.cursor < length b.line → set_at e r (followed_by gs b) ≡ set_at e r b
set_in_front gs e r b below =
    let same : min (b.cursor + 1) (length (b.line ++ gs)) ≡ min (b.cursor + 1) (length b.line) = omega (arith, below, length-append b.line gs) in
    ap (λ (n : ℕ). record { start = cond (has_flag e 0x8000) b.cursor r.start; end = cond (has_flag e 0x2000) n r.end }) same

-- Glyphs behind the line, whose clusters are of another sort than those of the line
module _ (P Q : ℕ → Type 0) (apart : (x : ℕ) → P x → Q x → ⊥) (gs : List hb_glyph_info_t) (behind : All (λ (g : hb_glyph_info_t). Q g.cluster) gs) where
  moved_in_front : (e : Entry) (s : Registers) (b : Buffer) → All (λ (g : hb_glyph_info_t). P g.cluster) b.line → b.cursor < length b.line → s.start < s.end → s.end ≤ length b.line
      → moved (verb_of e) s (followed_by gs b) ≡ followed_by gs (moved (verb_of e) s b)
  unfolding moved
  moved_in_front e s b front below some high =
      let i : ℕ = s.start in
      let j : ℕ = s.end in
      let k : ℕ = min (b.cursor + 1) (length b.line) in
      let f : List hb_glyph_info_t → List hb_glyph_info_t = rearranged (verb_of e) in
      let one : Buffer = merge_clusters b i k in
      let two : Buffer = merge_clusters one i j in
      let long_one : length one.line ≡ length b.line = length_merge b i k in
      let long : length two.line ≡ length b.line = length_merge one i j ∙ long_one in
      let front_one : All (λ (g : hb_glyph_info_t). P g.cluster) one.line = all_from P b.line one.line (comes_of_merge b i k) front in
      let ends : min (b.cursor + 1) (length (b.line ++ gs)) ≡ k = omega (arith, below, length-append b.line gs) in
      let first : merge_clusters (followed_by gs b) i k ≡ followed_by gs one = merge_in_front P Q apart gs b i k front behind (omega arith) in
      let second : merge_clusters (followed_by gs one) i j ≡ followed_by gs two = merge_in_front P Q apart gs one i j front_one behind (omega (arith, long_one, high)) in
      let span : on_span f i j (two.line ++ gs) ≡ on_span f i j two.line ++ gs = span_in_front f i j two.line gs (omega (arith, some)) (omega (arith, long, high)) in
      ap (λ (n : ℕ). on_line_span f i j (merge_clusters (merge_clusters (followed_by gs b) i n) i j)) ends
      ∙ (ap (λ (d : Buffer). on_line_span f i j (merge_clusters d i j)) first
      ∙ (ap (λ (d : Buffer). on_line_span f i j d) second
      ∙ ap (λ (line : List hb_glyph_info_t). record two { line = line }) span))

  -- an act at a glyph, the same with them there
  pub act_in_front : (bound : ℕ) (e : Entry) (r : Registers) (b : Buffer) → All (λ (g : hb_glyph_info_t). P g.cluster) b.line → b.cursor < length b.line → r.end ≤ length b.line
      → act bound e r (followed_by gs b) ≡ left_before gs (act bound e r b)
  unfolding act
  act_in_front bound e r b front below fit =
      ap (λ (t : Registers). record { registers = t; buffer = cond (can_move bound e t) (moved (verb_of e) t (followed_by gs b)) (followed_by gs b) }) (set_in_front gs e r b below)
      ∙ by_move (can_move bound e (set_at e r b)) refl
    where
      by_move : (t : Bool) → can_move bound e (set_at e r b) ≡ t
          → ◌≡◌ {A = Moved Registers} (record { registers = set_at e r b; buffer = cond t (moved (verb_of e) (set_at e r b) (followed_by gs b)) (followed_by gs b) })
          (record { registers = set_at e r b; buffer = followed_by gs (cond t (moved (verb_of e) (set_at e r b) b) b) })
      by_move true is = ap (λ (d : Buffer). record { registers = set_at e r b; buffer = d }) (moved_in_front e (set_at e r b) b front below (some_moves bound e (set_at e r b) is) (end_within e r b fit))
      by_move false is = refl

-- a span that has moved on by n places
abbrev pub span_on : ℕ → Registers → Registers
span_on n s = record { start = n + s.start; end = n + s.end }

-- Glyphs before the line
module _ (gs : List hb_glyph_info_t) (z : ℤ) where
  moved_in_back : (e : Entry) (s : Registers) (b : Buffer) → moved (verb_of e) (span_on (length gs) s) (moved_on gs z b) ≡ moved_on gs z (moved (verb_of e) s b)
  unfolding moved
  moved_in_back e s b =
      let i : ℕ = s.start in
      let j : ℕ = s.end in
      let k : ℕ = min (b.cursor + 1) (length b.line) in
      let f : List hb_glyph_info_t → List hb_glyph_info_t = rearranged (verb_of e) in
      let one : Buffer = merge_clusters b i k in
      let two : Buffer = merge_clusters one i j in
      let ends : min (length gs + b.cursor + 1) (length (gs ++ b.line)) ≡ length gs + k = omega (arith, length-append gs b.line) in
      let first : merge_clusters (moved_on gs z b) (length gs + i) (length gs + k) ≡ moved_on gs z one = merge_in_back gs z b i k in
      let second : merge_clusters (moved_on gs z one) (length gs + i) (length gs + j) ≡ moved_on gs z two = merge_in_back gs z one i j in
      let span : on_span f (length gs + i) (length gs + j) (gs ++ two.line) ≡ gs ++ on_span f i j two.line = span_in_back f i j gs two.line in
      ap (λ (n : ℕ). on_line_span f (length gs + i) (length gs + j) (merge_clusters (merge_clusters (moved_on gs z b) (length gs + i) n) (length gs + i) (length gs + j))) ends
      ∙ (ap (λ (d : Buffer). on_line_span f (length gs + i) (length gs + j) (merge_clusters d (length gs + i) (length gs + j))) first
      ∙ (ap (λ (d : Buffer). on_line_span f (length gs + i) (length gs + j) d) second
      ∙ ap (λ (line : List hb_glyph_info_t). record (moved_on gs z two) { line = line }) span))

  -- whether a span moves does not depend on where it stands
  same_move : (bound : ℕ) (e : Entry) (s : Registers) → can_move bound e (span_on (length gs) s) ≡ can_move bound e s
  same_move bound e s =
      let lower : nat_lt (length gs + s.start) (length gs + s.end) ≡ nat_lt s.start s.end = grind (arith, nat_tests) in
      let wide : length gs + s.end - (length gs + s.start) ≡ s.end - s.start = omega arith in
      rw (lower, wide) refl

  -- an act where both ends of the span have moved on
  pub act_in_back : (bound : ℕ) (e : Entry) (r s : Registers) (b : Buffer)
      → (set_at e r (moved_on gs z b)).start ≡ length gs + (set_at e s b).start → (set_at e r (moved_on gs z b)).end ≡ length gs + (set_at e s b).end
      → (act bound e r (moved_on gs z b)).buffer ≡ moved_on gs z (act bound e s b).buffer
  unfolding act
  act_in_back bound e r s b first last =
      let spans : set_at e r (moved_on gs z b) ≡ span_on (length gs) (set_at e s b) = λ i. record { start = first i; end = last i } in
      ap (λ (t : Registers). cond (can_move bound e t) (moved (verb_of e) t (moved_on gs z b)) (moved_on gs z b)) spans
      ∙ (ap (λ (t : Bool). cond t (moved (verb_of e) (span_on (length gs) (set_at e s b)) (moved_on gs z b)) (moved_on gs z b)) (same_move bound e (set_at e s b))
      ∙ by_move (can_move bound e (set_at e s b)))
    where
      by_move : (t : Bool) → cond t (moved (verb_of e) (span_on (length gs) (set_at e s b)) (moved_on gs z b)) (moved_on gs z b) ≡ moved_on gs z (cond t (moved (verb_of e) (set_at e s b) b) b)
      by_move true = moved_in_back e (set_at e s b) b
      by_move false = refl

-- an act opens no cluster of a line that rises
pub act_opens : (c bound : ℕ) (e : Entry) (r : Registers) (b : Buffer) → IsFit r b.cursor (length b.line) → IsRisingLine b.line → is_open c (act bound e r b).buffer.line ≡ true → is_open c b.line ≡ true
unfolding moved
act_opens c bound e r b fit rising =
    of_act bound (λ d. is_open c d.line ≡ true → is_open c b.line ≡ true) e r b fit (λ is. is)
    (λ v s room some within is.
    let i : ℕ = s.start in
    let j : ℕ = s.end in
    let k : ℕ = min (b.cursor + 1) (length b.line) in
    let one : Buffer = merge_clusters b i k in
    let two : Buffer = merge_clusters one i j in
    let long : length two.line ≡ length b.line = length_merge one i j ∙ length_merge b i k in
    let span : length (slice_range two.line i j) ≡ j - i = length_slice i j two.line (omega (arith, some)) (omega (arith, long, within)) in
    let rising_one : IsRisingLine one.line = order_of_any_merge (λ x y. x ≤ y) (λ x y same. omega (arith, same)) b i k rising in
    merge_open_rising c b i k rising
    (merge_open_rising c one i j rising_one
    (moved_open c (rearranged v) i j two.line (omega (arith, some)) (rearranged_permutes v (slice_range two.line i j) (omega (arith, span, room))) is)))
