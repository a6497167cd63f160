-- Where clusters are in order along a line, and no glyph of the later of two clusters that meet in it is marked, that
-- cluster is open.
use Rattle.std.proofs.Common.{◌≡◌, ◌≢◌, ◌∙◌, ◌⊎◌, sym, ap, refl, inl, inr, ℕ, zero, suc, ◌+◌, ◌-◌, ◌<◌, ◌≤◌, ◌==◌, ◌||◌, Bool, true, false, not, cond, [], ◌∷◌, reverse, take, drop, length, get_or, arith, true≢false, nat_lt, bit_and, one-add}
use Rattle.std.specs.List.{list_any, prefix_len}
use Rattle.std.specs.Prelude.{take_while}
use Rattle.std.proofs.lemmas.Bool.{cases_lt, eqb-true}
use Rattle.std.proofs.lemmas.Bool.Decides.{nat_tests}
use Rattle.std.proofs.lemmas.List.{get_or-drop, get_or-reverse, get_or-take, length-drop, length-reverse, length-take}
use Rattle.aat_glyph.specs.declared.glyph.hb_glyph_info_t.{hb_glyph_info_t}
use Rattle.aat_buffer.specs.Buffer.{glyph_at, no_glyph}
use Rattle.aat_buffer.specs.Clusters.{IsFallingLine, IsRisingLine}
use Rattle.aat_buffer.specs.Marks.{cluster_at}
use Rattle.aat_cut_kinds.specs.Greater.{IsUnflagged}
use Rattle.aat_cut_kinds.specs.Open.{is_open}
use Rattle.aat_cut_kinds.specs.facts.Opens.{is_opened}
use Rattle.aat_shaped_text.specs.Breaks.{is_unsafe, later_run, run_from, run_up_to}
use Rattle.aat_shaped_text.proofs.SpotsRuns.{Glyphs}

-- a glyph has cluster c
abbrev has : ℕ → hb_glyph_info_t → Bool
has c g = g.cluster == c

pub while_step : (p : hb_glyph_info_t → Bool) (g : hb_glyph_info_t) (gs : Glyphs) → p g ≡ true → take_while p (g ∷ gs) ≡ g ∷ take_while p gs
while_step p g gs is =
    ap (λ (t : Bool). take (cond t (1 + prefix_len p gs) 0) (g ∷ gs)) is ∙ ap (λ n. take n (g ∷ gs)) (one-add (prefix_len p gs))

pub none_of : (q : hb_glyph_info_t → Bool) (g : hb_glyph_info_t) (gs : Glyphs) → not (list_any q (g ∷ gs)) ≡ true → (q g ≡ false) × (not (list_any q gs) ≡ true)
none_of q g gs none = by_first (q g) refl none
  where
    by_first : (t : Bool) → q g ≡ t → not (t || list_any q gs) ≡ true → (q g ≡ false) × (not (list_any q gs) ≡ true)
    by_first true is e = absurd (true≢false (sym e))
    by_first false is e = (is, e)

unmarked : (g : hb_glyph_info_t) → is_unsafe g ≡ false → IsUnflagged g
unmarked g safe = by_bit (bit_and g.mask 1 == 0) refl
  where
    by_bit : (t : Bool) → (bit_and g.mask 1 == 0) ≡ t → bit_and g.mask 1 ≡ 0
    by_bit true is = eqb-true (bit_and g.mask 1) 0 is
    by_bit false is = absurd (true≢false (sym (ap not is) ∙ safe))

rises_behind : (g : hb_glyph_info_t) (gs : Glyphs) → IsRisingLine (g ∷ gs) → IsRisingLine gs
rises_behind g gs up n m d before within = up (suc n) (suc m) d (omega (arith, before)) (omega (arith, within))

-- Along a rising line from c on, no glyph of cluster c is marked where none in the run that begins the line is.
all_of_run : (c : ℕ) (gs : Glyphs) → IsRisingLine gs → not (list_any is_unsafe (take_while (has c) gs)) ≡ true
    → ((k : ℕ) → k < length gs → c ≤ cluster_at gs k) → (k : ℕ) → k < length gs → cluster_at gs k ≡ c → IsUnflagged (glyph_at gs k)
all_of_run c [] up none low k within at = absurd (omega (arith, within))
all_of_run c (g ∷ gs) up none low k within at =
    by_first (g.cluster == c) refl (λ rest. all_of_run c gs (rises_behind g gs up) rest (λ j inside. low (suc j) (omega (arith, inside))))
  where
    by_place : is_unsafe g ≡ false → ((j : ℕ) → j < length gs → cluster_at gs j ≡ c → IsUnflagged (glyph_at gs j)) → (j : ℕ) → j < length (g ∷ gs) → cluster_at (g ∷ gs) j ≡ c → IsUnflagged (glyph_at (g ∷ gs) j)
    by_place safe behind zero inside same = unmarked g safe
    by_place safe behind (suc j) inside same = behind j (omega (arith, inside)) same

    first_is : (j : ℕ) → j < length (g ∷ gs) → cluster_at (g ∷ gs) j ≡ c → g.cluster ≤ c
    first_is zero inside same = omega (arith, same)
    first_is (suc j) inside same = let most = up 0 (suc j) no_glyph (omega arith) inside in omega (arith, most, same)

    by_first : (t : Bool) → (g.cluster == c) ≡ t
        → (not (list_any is_unsafe (take_while (has c) gs)) ≡ true → (j : ℕ) → j < length gs → cluster_at gs j ≡ c → IsUnflagged (glyph_at gs j))
        → IsUnflagged (glyph_at (g ∷ gs) k)
    by_first true is behind =
        let both = none_of is_unsafe g (take_while (has c) gs) (ap (λ zs. not (list_any is_unsafe zs)) (sym (while_step (has c) g gs is)) ∙ none) in
        by_place both.0 (behind both.1) k within at
    by_first false is behind =
        let least : c ≤ g.cluster = low 0 (omega arith) in
        let most : g.cluster ≤ c = first_is k within at in
        absurd (let same : g.cluster ≡ c = omega (arith, least, most) in true≢false (sym (sym is ∙ test same)))
      where
        test : g.cluster ≡ c → (g.cluster == c) ≡ true
        test same = grind (arith, nat_tests, same)

-- of a rising line: the cluster that begins at a place
pub open_at_rise : (line : Glyphs) (i : ℕ) → 0 < i → i < length line → IsRisingLine line → cluster_at line i ≢ cluster_at line (i - 1)
    → not (list_any is_unsafe (later_run line i)) ≡ true → is_open (cluster_at line i) line ≡ true
open_at_rise line i some within up other safe =
    let c = cluster_at line i in
    let step : cluster_at line (i - 1) ≤ c = up (i - 1) i no_glyph (omega (arith, some)) within in
    let below : cluster_at line (i - 1) < c = strictly (cluster_at line (i - 1)) c step other in
    let later : nat_lt (cluster_at line (i - 1)) c ≡ true = grind (arith, nat_tests, below) in
    let none : not (list_any is_unsafe (run_from line i)) ≡ true = ap (λ (t : Bool). not (list_any is_unsafe (cond t (run_from line i) (run_up_to line (i - 1))))) (sym later) ∙ safe in
    is_opened c line
    (record {
      place = i;
      inside = within;
      at = refl;
      unflagged = λ k inside at. by_side k inside at none below (cases_lt k i);
    })
  where
    strictly : (a b : ℕ) → a ≤ b → b ≢ a → a < b
    strictly a b most differ = by_order (cases_lt a b)
      where
        by_order : ((a < b) ⊎ (b ≤ a)) → a < b
        by_order (inl less) = less
        by_order (inr more) = absurd (differ (omega (arith, most, more)))

    rest_rises : IsRisingLine (drop i line)
    rest_rises n m d before inside =
        let long = length-drop i line in
        rw (get_or-drop i line n d, get_or-drop i line m d) (up (i + n) (i + m) d (omega (arith, before)) (omega (arith, inside, long, within)))

    read : (k : ℕ) → glyph_at (drop i line) k ≡ glyph_at line (i + k)
    read k = get_or-drop i line k no_glyph

    from : (j : ℕ) → j < length (drop i line) → cluster_at line i ≤ cluster_at (drop i line) j
    from zero inside =
        let same : i + 0 ≡ i = omega arith in
        let there = ap (λ (g : hb_glyph_info_t). g.cluster) (read 0) ∙ ap (cluster_at line) same in
        omega (arith, there)
    from (suc j) inside =
        let long = length-drop i line in
        let there = ap (λ (g : hb_glyph_info_t). g.cluster) (read (suc j)) in
        let least = up i (i + suc j) no_glyph (omega arith) (omega (arith, inside, long, within)) in
        omega (arith, there, least)

    by_side : (k : ℕ) → k < length line → cluster_at line k ≡ cluster_at line i → not (list_any is_unsafe (run_from line i)) ≡ true
        → cluster_at line (i - 1) < cluster_at line i → ((k < i) ⊎ (i ≤ k)) → IsUnflagged (glyph_at line k)
    by_side k inside at none below (inl front) = absurd (let most = up_to k front in omega (arith, most, at, below))
      where
        up_to : (k : ℕ) → k < i → cluster_at line k ≤ cluster_at line (i - 1)
        up_to k front = by_last (cases_lt k (i - 1))
          where
            by_last : ((k < i - 1) ⊎ (i - 1 ≤ k)) → cluster_at line k ≤ cluster_at line (i - 1)
            by_last (inl less) = up k (i - 1) no_glyph less (omega (arith, within))
            by_last (inr last) = let same : k ≡ i - 1 = omega (arith, last, front) in rw same (omega arith)
    by_side k inside at none below (inr back) =
        let place : i + (k - i) ≡ k = omega (arith, back) in
        let long = length-drop i line in
        let there : glyph_at (drop i line) (k - i) ≡ glyph_at line k = read (k - i) ∙ ap (glyph_at line) place in
        rw (← there)
        (all_of_run (cluster_at line i) (drop i line) rest_rises none from (k - i) (omega (arith, back, inside, long))
        (ap (λ (g : hb_glyph_info_t). g.cluster) there ∙ at))

-- of a falling line: the cluster that ends before a place
pub open_at_fall : (line : Glyphs) (i : ℕ) → 0 < i → i < length line → IsFallingLine line → cluster_at line i ≢ cluster_at line (i - 1)
    → not (list_any is_unsafe (later_run line i)) ≡ true → is_open (cluster_at line (i - 1)) line ≡ true
open_at_fall line i some within down other safe =
    let c = cluster_at line (i - 1) in
    let step : cluster_at line i ≤ c = down (i - 1) i no_glyph (omega (arith, some)) within in
    let below : cluster_at line i < c = strictly (cluster_at line i) c step other in
    let earlier : nat_lt c (cluster_at line i) ≡ false = grind (arith, nat_tests, step) in
    let none : not (list_any is_unsafe (run_up_to line (i - 1))) ≡ true = ap (λ (t : Bool). not (list_any is_unsafe (cond t (run_from line i) (run_up_to line (i - 1))))) (sym earlier) ∙ safe in
    let place : (i - 1) + 1 ≡ i = omega (arith, some) in
    let run : not (list_any is_unsafe (take_while (has c) (reverse (take i line)))) ≡ true = ap (λ n. not (list_any is_unsafe (take_while (has c) (reverse (take n line))))) (sym place) ∙ none in
    is_opened c line
    (record {
      place = i - 1;
      inside = omega (arith, within);
      at = refl;
      unflagged = λ k inside at. by_side k inside at run below (cases_lt k i);
    })
  where
    strictly : (a b : ℕ) → a ≤ b → a ≢ b → a < b
    strictly a b most differ = by_order (cases_lt a b)
      where
        by_order : ((a < b) ⊎ (b ≤ a)) → a < b
        by_order (inl less) = less
        by_order (inr more) = absurd (differ (omega (arith, most, more)))

    long : length (reverse (take i line)) ≡ i
    long = let first = length-reverse (take i line) in let taken = length-take i line in omega (arith, first, taken, within)

    read : (k : ℕ) (d : hb_glyph_info_t) → k < i → get_or (reverse (take i line)) k d ≡ get_or line (i - 1 - k) d
    read k d front =
        let taken : length (take i line) ≡ i = let all = length-take i line in omega (arith, all, within) in
        get_or-reverse (take i line) k d (omega (arith, taken, front))
        ∙ (ap (λ n. get_or (take i line) (n - 1 - k) d) taken ∙ get_or-take i line (i - 1 - k) d (omega (arith, front)))

    front_rises : IsRisingLine (reverse (take i line))
    front_rises n m d before inside =
        let last : m < i = omega (arith, inside, long) in
        rw (read n d (omega (arith, before, last)), read m d last) (down (i - 1 - m) (i - 1 - n) d (omega (arith, before, last)) (omega (arith, within, some)))

    from : (j : ℕ) → j < length (reverse (take i line)) → cluster_at line (i - 1) ≤ cluster_at (reverse (take i line)) j
    from zero inside =
        let same : i - 1 - 0 ≡ i - 1 = omega arith in
        let there = ap (λ (g : hb_glyph_info_t). g.cluster) (read 0 no_glyph some) ∙ ap (cluster_at line) same in
        omega (arith, there)
    from (suc j) inside =
        let front : suc j < i = omega (arith, inside, long) in
        let there = ap (λ (g : hb_glyph_info_t). g.cluster) (read (suc j) no_glyph front) in
        let least = down (i - 1 - suc j) (i - 1) no_glyph (omega (arith, front)) (omega (arith, within, some)) in
        omega (arith, there, least)

    by_side : (k : ℕ) → k < length line → cluster_at line k ≡ cluster_at line (i - 1) → not (list_any is_unsafe (take_while (has (cluster_at line (i - 1))) (reverse (take i line)))) ≡ true
        → cluster_at line i < cluster_at line (i - 1) → ((k < i) ⊎ (i ≤ k)) → IsUnflagged (glyph_at line k)
    by_side k inside at run below (inr back) = absurd (let most = from_place k inside back in omega (arith, most, at, below))
      where
        from_place : (k : ℕ) → k < length line → i ≤ k → cluster_at line k ≤ cluster_at line i
        from_place k inside back = by_first (cases_lt i k)
          where
            by_first : ((i < k) ⊎ (k ≤ i)) → cluster_at line k ≤ cluster_at line i
            by_first (inl more) = down i k no_glyph more inside
            by_first (inr same) = let at_place : k ≡ i = omega (arith, same, back) in rw at_place (omega arith)
    by_side k inside at run below (inl front) =
        let place : i - 1 - (i - 1 - k) ≡ k = omega (arith, front) in
        let there : glyph_at (reverse (take i line)) (i - 1 - k) ≡ glyph_at line k = read (i - 1 - k) no_glyph (omega (arith, front, some)) ∙ ap (glyph_at line) place in
        rw (← there)
        (all_of_run (cluster_at line (i - 1)) (reverse (take i line)) front_rises run from (i - 1 - k) (omega (arith, front, long))
        (ap (λ (g : hb_glyph_info_t). g.cluster) there ∙ at))
