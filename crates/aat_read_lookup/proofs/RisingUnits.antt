-- Units that rise are found by all their glyphs.
use Rattle.std.proofs.Common.{◌≡◌, ℕ, zero, suc, ◌+◌, ◌-◌, ◌<◌, ◌≤◌, inl, inr, List, min, refl, ap, ◌∙◌, subst, arith, add-zero}
use Rattle.std.proofs.lemmas.Bool.{cases_lt}
use Rattle.aat_bytes.specs.Bisection.{keys_found, middle, nearest}
use Rattle.aat_bytes.specs.facts.Bisections.{middle_within}
use Rattle.aat_bytes.specs.facts.FoundKeys.{goes_left, goes_right, stays}
use Rattle.aat_read_lookup.specs.Layouts.{glyphs_found, segment_of, unit_at}
use Rattle.aat_read_lookup.specs.Segments.{end_of, part_of, values_behind}
use Rattle.aat_read_lookup.specs.declared.segment.Segment.{Segment}
use Rattle.aat_read_lookup.specs.declared.segment.ValueKind.TheVariants.{Word, Long}
use Rattle.aat_read_lookup.specs.declared.segment.Values.{Values}
use Rattle.aat_read_lookup.specs.declared.segment.Values.TheVariants.{Shared, Each, Bytes}
use Rattle.aat_read_lookup.specs.declared.units.Units.{Units}
use Rattle.aat_read_lookup.specs.inside.Sound.{DoRise, RiseTo}
use Rattle.aat_read_lookup.proofs.SoundUnits.{behind, low, wide}

-- a number among others is the nearest one
near_itself : (f e n : ℕ) → f ≤ n → n ≤ e → nearest f e n ≡ n
near_itself f e n low high = omega arith

module _ (low behind : ℕ → ℕ) (wide : (m : ℕ) → low m ≤ behind m) where
  -- rows that rise are found by all their keys
  pub keys_whole :
      (s a b f e i : ℕ) → b - a ≤ s → a ≤ i → i < b
      → ((m : ℕ) → a ≤ m → m < b → f ≤ low m) → ((m : ℕ) → a ≤ m → m < b → behind m ≤ e)
      → ((m n : ℕ) → m < n → n < b → behind m ≤ low n)
      → keys_found low behind s a b f e i ≡ (low i, behind i)
  keys_whole zero a b f e i steps from below lows highs ordered = absurd (omega arith)
  keys_whole (suc s) a b f e i steps from below lows highs ordered =
      let some : a < b = omega arith in
      let m : ℕ = middle a b in
      let in_it = middle_within a b some in
      let lower : f ≤ low (middle a b) = lows (middle a b) in_it.0 in_it.1 in
      let upper : behind (middle a b) ≤ e = highs (middle a b) in_it.0 in_it.1 in
      let across : low (middle a b) ≤ behind (middle a b) = wide (middle a b) in
      let start : nearest f e (low (middle a b)) ≡ low (middle a b) = near_itself f e (low (middle a b)) lower (omega arith) in
      let stop : nearest f e (behind (middle a b)) ≡ behind (middle a b) = near_itself f e (behind (middle a b)) (omega arith) upper in
      elim (cases_lt i (middle a b)) [
        | inl less ↦
            goes_left low behind wide s a b f e i less
            ∙ keys_whole s a (middle a b) f (nearest f e (low (middle a b))) i (omega (arith, in_it)) from less
            (λ k at under. lows k at (omega (arith, in_it)))
            (λ k at under. let le = ordered k (middle a b) under in_it.1 in omega (arith, le, start))
            (λ k n lt under. ordered k n lt (omega (arith, in_it)))
        | inr no_less ↦ elim (cases_lt (middle a b) i) [
          | inl more ↦
              goes_right low behind wide s a b f e i more
              ∙ keys_whole s (middle a b + 1) b (nearest f e (behind (middle a b))) e i (omega (arith, in_it)) (omega arith) below
              (λ k at under. let le = ordered (middle a b) k (omega arith) under in omega (arith, le, stop))
              (λ k at under. highs k (omega (arith, in_it)) under)
              ordered
          | inr no_more ↦
              let here : middle a b ≡ i = omega (arith, no_less, no_more) in
              stays low behind wide s a b f e i here
              ∙ ap (λ (x : ℕ). (x, nearest f e (behind (middle a b)))) start
              ∙ ap (λ (y : ℕ). (low (middle a b), y)) stop
              ∙ ap (λ (k : ℕ). (low k, behind k)) here
        ]
      ]

-- no values behind none
behind_none : (values : Values) → values_behind values 0 ≡ values
behind_none (Shared kind at) = refl
behind_none (Each Word at) = ap (Each Word) (add-zero at)
behind_none (Each Long at) = ap (Each Long) (add-zero at)
behind_none (Bytes at) = ap Bytes (add-zero at)

segment_with : ℕ → ℕ → Values → Segment
segment_with first count values = record { first = first; count = count; values = values }

-- all glyphs of a segment are the segment
whole_part : (s : Segment) → part_of s (s.first, end_of s) ≡ s
unfolding segment_with
whole_part s =
    let count : s.first + s.count - s.first ≡ s.count = omega arith in
    let skipped : min (s.first - s.first) s.count ≡ 0 = omega arith in
    ap (λ (n : ℕ). segment_with s.first n (values_behind s.values (min (s.first - s.first) s.count))) count
    ∙ ap (λ (n : ℕ). segment_with s.first s.count (values_behind s.values n)) skipped
    ∙ ap (segment_with s.first s.count) (behind_none s.values)

module _ (bytes : List ℕ) (units : Units) where
  -- one unit more rises
  pub rises_more :
      (n end : ℕ) → RiseTo bytes units n end → end ≤ (unit_at bytes units n).first
      → RiseTo bytes units (n + 1) (end_of (unit_at bytes units n))
  rises_more n end rise above = record {
    within = λ i below. elim (cases_lt i n) [
      | inl less ↦ let le = rise.within i less in omega (arith, le, above)
      | inr no_less ↦ let here : n ≡ i = omega (arith, no_less, below) in
          subst (λ (k : ℕ). end_of (unit_at bytes units k) ≤ end_of (unit_at bytes units n)) here (omega arith)
    ];
    ordered = λ i j less below. elim (cases_lt j n) [
      | inl under ↦ rise.ordered i j less under
      | inr no_less ↦ let here : n ≡ j = omega (arith, no_less, below) in
          let le = rise.within i (omega (arith, less, here)) in
          subst (λ (k : ℕ). end_of (unit_at bytes units i) ≤ (unit_at bytes units k).first) here (omega (arith, le, above))
    ];
  }

  -- they end by a later glyph too
  pub rises_by : (n m end : ℕ) → n ≡ m → end ≤ 65536 → RiseTo bytes units n end → RiseTo bytes units m 65536
  rises_by n m end same few rise = record {
    within = λ i below. let le = rise.within i (omega (arith, same, below)) in omega (arith, le, few);
    ordered = λ i j less below. rise.ordered i j less (omega (arith, same, below));
  }

  pub segment_whole : DoRise bytes units → (i : ℕ) → i < units.count → segment_of bytes units i ≡ unit_at bytes units i
  segment_whole rise i below =
      let found : glyphs_found bytes units i ≡ (low bytes units i, behind bytes units i) =
      keys_whole (low bytes units) (behind bytes units) (wide bytes units) units.count 0 units.count 0 65536 i
      (omega arith) (omega arith) below (λ m from under. omega arith) (λ m from under. rise.within m under) rise.ordered in
      ap (part_of (unit_at bytes units i)) found ∙ whole_part (unit_at bytes units i)
