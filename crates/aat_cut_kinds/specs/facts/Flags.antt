-- The driver's mark at a cut flags the glyph with the greater cluster, and no mark takes a flag away.
use Rattle.std.proofs.Common.{◌≡◌, ◌≢◌, ◌∙◌, ◌⊎◌, inl, inr, ℕ, zero, suc, ◌+◌, ◌-◌, ◌<◌, ◌≤◌, ◌==◌, Bool, true, false, cond, List, [], ◌∷◌, ◌++◌, length, take, drop, map, min, nat_le, nat_lt, Option, Some, refl, ap, sym, arith, length-take, get_or}
use Rattle.std.proofs.Math.ListN.{get_or-map}
use Rattle.std.proofs.Math.Seq.{drop-cons}
use Rattle.std.proofs.lemmas.Bool.{cases_lt}
use Rattle.std.proofs.lemmas.Bool.Decides.{nat_tests}
use Rattle.std.proofs.lemmas.List.{get_or-append_right, take-append-drop}
use Rattle.std.proofs.lemmas.List.Folds.{drop_split}
use Rattle.std.proofs.lemmas.Nat.Bits.{bit_at-zero, bit_at_and, bit_at_lowest, bit_at_or}
use Rattle.std.specs.Int.{bit_at}
use Rattle.std.specs.Prelude.{bit_and, bit_or, slice_range}
use Rattle.aat_buffer.specs.Buffer.{Buffer, glyph_at, no_glyph}
use Rattle.aat_buffer.specs.Marks.{break_marked, cluster_at, end_place, least_of, marked_above, on_span, start_place, unsafe_to_break, with_mask_bits}
use Rattle.aat_buffer.specs.facts.Cases.{chosen}
use Rattle.aat_glyph.specs.declared.glyph.hb_glyph_info_t.{hb_glyph_info_t}
use Rattle.aat_run.specs.Machine.{break_marked_at}
use Rattle.aat_cut_kinds.specs.Greater.{IsFlaggedAt, IsUnflagged, clusters, greater_at}
use Rattle.aat_cut_kinds.specs.facts.MarksOnly.{of_unsafe, same_at}

-- a glyph with the marks has the flag
pub flagged : (mask : ℕ) → bit_and (bit_or mask 3) 1 ≡ 0 → ⊥
flagged mask none =
    let low : bit_at (bit_and (bit_or mask 3) 1) 0 ≡ bit_at 0 0 = ap (λ n. bit_at n 0) none in
    let three : bit_at 3 0 ≡ 1 = bit_at_lowest 3 in
    let one : bit_at 1 0 ≡ 1 = bit_at_lowest 1 in
    omega (arith, low, bit_at_and (bit_or mask 3) 1 0, bit_at_or mask 3 0, three, one, bit_at-zero 0)

-- glyphs without the flag had none before
abbrev pub IsCalm : List hb_glyph_info_t → List hb_glyph_info_t → Type 0
IsCalm old new = (k : ℕ) → IsUnflagged (glyph_at new k) → IsUnflagged (glyph_at old k)

calm_glyph : (least : ℕ) (g : hb_glyph_info_t) → IsUnflagged (marked_above least 3 g) → IsUnflagged g
calm_glyph least g = chosen (λ (h : hb_glyph_info_t). IsUnflagged h → IsUnflagged g) (g.cluster == least) g (with_mask_bits 3 g) (λ _ h. h) (λ _ h. absurd (flagged g.mask h))

calm_map : (least : ℕ) (gs rest : List hb_glyph_info_t) → IsCalm (gs ++ rest) (map (marked_above least 3) gs ++ rest)
calm_map least [] rest k h = h
calm_map least (g ∷ gs) rest zero h = calm_glyph least g h
calm_map least (g ∷ gs) rest (suc k) h = calm_map least gs rest k h

calm_behind : (front old new : List hb_glyph_info_t) → IsCalm old new → IsCalm (front ++ old) (front ++ new)
calm_behind [] old new calm k h = calm k h
calm_behind (g ∷ gs) old new calm zero h = h
calm_behind (g ∷ gs) old new calm (suc k) h = calm_behind gs old new calm k h

calm_span : (i j : ℕ) (gs : List hb_glyph_info_t) → i ≤ j → IsCalm gs (on_span break_marked i j gs)
calm_span i j gs low k h =
    let span = slice_range gs i j in
    let whole : take i gs ++ (span ++ drop j gs) ≡ gs = ap (λ t. take i gs ++ t) (sym (drop_split gs i j low)) ∙ take-append-drop i gs in
    rw whole at (calm_behind (take i gs) (span ++ drop j gs) (break_marked span ++ drop j gs) (calm_map (least_of span) span (drop j gs)) k h)

-- under marks a line stays calm
pub calm_unsafe : (b : Buffer) (start end : Option ℕ) → IsCalm b.line (unsafe_to_break b start end).line
calm_unsafe b start end = by_length (nat_le (start_place start + 2) (end_place end (length b.line))) refl
  where
    by_length : (t : Bool) → nat_le (start_place start + 2) (end_place end (length b.line)) ≡ t → IsCalm b.line (cond t (on_span break_marked (start_place start) (end_place end (length b.line)) b.line) b.line)
    by_length true is = calm_span (start_place start) (end_place end (length b.line)) b.line (grind (arith, nat_tests, is))
    by_length false is = λ k h. h

-- lines with the same masks are calm
pub calm_masks : (old new : List hb_glyph_info_t) → map (λ (g : hb_glyph_info_t). g.mask) new ≡ map (λ (g : hb_glyph_info_t). g.mask) old → IsCalm old new
calm_masks old new same k h =
    let at : (glyph_at new k).mask ≡ (glyph_at old k).mask =
    sym (get_or-map (λ (g : hb_glyph_info_t). g.mask) new k no_glyph) ∙ (ap (λ (xs : List ℕ). get_or xs k 0) same ∙ get_or-map (λ (g : hb_glyph_info_t). g.mask) old k no_glyph) in
    ap (λ (n : ℕ). bit_and n 1) (sym at) ∙ h

-- Two glyphs of clusters that differ, between which the line is marked.
module _ (line : List hb_glyph_info_t) (p : ℕ) (behind_first : 0 < p) (before_end : p < length line) where
  before : hb_glyph_info_t
  before = glyph_at line (p - 1)

  here : hb_glyph_info_t
  here = glyph_at line p

  next : suc (p - 1) ≡ p
  next = omega (arith, behind_first)

  two : drop (p - 1) line ≡ before ∷ (here ∷ drop (p + 1) line)
  unfolding before here
  two =
      let more : suc p ≡ p + 1 = omega arith in
      drop-cons line (p - 1) no_glyph (omega (arith, before_end))
      ∙ ap (λ t. before ∷ t) (ap (λ n. drop n line) next ∙ (drop-cons line p no_glyph before_end ∙ ap (λ n. here ∷ drop n line) more))

  span : slice_range line (p - 1) (p + 1) ≡ before ∷ (here ∷ [])
  span =
      let wide : p + 1 - (p - 1) ≡ 2 = omega (arith, behind_first) in
      rw (wide, two) refl

  least : ℕ
  least = least_of (before ∷ (here ∷ []))

  marked_line : on_span break_marked (p - 1) (p + 1) line ≡ take (p - 1) line ++ (marked_above least 3 before ∷ (marked_above least 3 here ∷ drop (p + 1) line))
  unfolding least
  marked_line = rw span refl

  short : length (take (p - 1) line) ≡ p - 1
  short = length-take (p - 1) line ∙ omega (arith, before_end)

  marked_before : glyph_at (on_span break_marked (p - 1) (p + 1) line) (p - 1) ≡ marked_above least 3 before
  marked_before =
      let at : p - 1 - (p - 1) ≡ 0 = omega arith in
      rw marked_line (get_or-append_right (take (p - 1) line) (marked_above least 3 before ∷ (marked_above least 3 here ∷ drop (p + 1) line)) (p - 1) (p - 1) no_glyph short (omega arith) ∙ rw at refl)

  marked_here : glyph_at (on_span break_marked (p - 1) (p + 1) line) p ≡ marked_above least 3 here
  marked_here =
      let at : p - (p - 1) ≡ 1 = omega (arith, behind_first) in
      rw marked_line (get_or-append_right (take (p - 1) line) (marked_above least 3 before ∷ (marked_above least 3 here ∷ drop (p + 1) line)) (p - 1) p no_glyph short (omega arith) ∙ rw at refl)

  -- a glyph whose cluster is not the least is flagged
  above : (g : hb_glyph_info_t) → g.cluster ≢ least → IsUnflagged (marked_above least 3 g) → ⊥
  above g differs = chosen (λ (h : hb_glyph_info_t). IsUnflagged h → ⊥) (g.cluster == least) g (with_mask_bits 3 g) (λ same. absurd (differs (grind (arith, nat_tests, same)))) (λ _ h. flagged g.mask h)

  greater_marked : cluster_at line (p - 1) ≢ cluster_at line p → IsUnflagged (glyph_at (on_span break_marked (p - 1) (p + 1) line) (greater_at p line)) → ⊥
  unfolding least before here
  greater_marked differ = by_order (cases_lt (cluster_at line (p - 1)) (cluster_at line p))
    where
      by_order : ((cluster_at line (p - 1) < cluster_at line p) ⊎ (cluster_at line p ≤ cluster_at line (p - 1))) → IsUnflagged (glyph_at (on_span break_marked (p - 1) (p + 1) line) (greater_at p line)) → ⊥
      by_order (inl rises) =
          let which : nat_lt (cluster_at line (p - 1)) (cluster_at line p) ≡ true = grind (arith, nat_tests, rises) in
          rw (which, marked_here) (above (glyph_at line p) (λ same. absurd (omega (arith, rises, same))))
      by_order (inr falls) =
          let which : nat_lt (cluster_at line (p - 1)) (cluster_at line p) ≡ false = grind (arith, nat_tests, falls) in
          let lower : cluster_at line p < cluster_at line (p - 1) = omega (arith, falls, differ) in
          rw (which, marked_before) (above (glyph_at line (p - 1)) (λ same. absurd (omega (arith, lower, same))))

-- the mark between them flags the one with the greater cluster
pub cut_is_flagged : (b : Buffer) (p : ℕ) → 0 < p → p < length b.line → cluster_at b.line (p - 1) ≢ cluster_at b.line p
    → IsUnflagged (glyph_at (unsafe_to_break b (Some (p - 1)) (Some (p + 1))).line (greater_at p b.line)) → ⊥
cut_is_flagged b p behind_first before_end differ =
    let end : min (p + 1) (length b.line) ≡ p + 1 = omega (arith, before_end) in
    let long : nat_le (p - 1 + 2) (p + 1) ≡ true = grind (arith, nat_tests, behind_first) in
    rw (end, long) (greater_marked b.line p behind_first before_end differ)

-- a line whose clusters are those of another one has the flag at the cut, behind the driver's mark there
pub cut_flags : (old : List hb_glyph_info_t) (b : Buffer) → 0 < b.cursor → b.cursor < length b.line → cluster_at old (b.cursor - 1) ≢ cluster_at old b.cursor → IsFlaggedAt b.cursor old (break_marked_at b).line
cut_flags old b behind_first before_end differ same unflagged =
    let line : clusters b.line ≡ clusters old = sym (of_unsafe (λ (g : hb_glyph_info_t). g.cluster) (λ bits g. refl) b (Some (b.cursor - 1)) (Some (b.cursor + 1))) ∙ same in
    let first : cluster_at b.line (b.cursor - 1) ≡ cluster_at old (b.cursor - 1) = same_at (λ (g : hb_glyph_info_t). g.cluster) b.line old (b.cursor - 1) line in
    let second : cluster_at b.line b.cursor ≡ cluster_at old b.cursor = same_at (λ (g : hb_glyph_info_t). g.cluster) b.line old b.cursor line in
    let place : greater_at b.cursor b.line ≡ greater_at b.cursor old = rw (first, second) refl in
    cut_is_flagged b b.cursor behind_first before_end (rw (first, second) differ) (rw place unflagged)

-- the flag stays where clusters and masks stay, or a mask gains marks
pub flag_stays : (q : ℕ) (old line new : List hb_glyph_info_t) → clusters new ≡ clusters line → IsCalm line new → IsFlaggedAt q old line → IsFlaggedAt q old new
flag_stays q old line new same calm flagged all h = flagged (sym same ∙ all) (calm (greater_at q old) h)
