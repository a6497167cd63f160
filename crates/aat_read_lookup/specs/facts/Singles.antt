-- What is read where the numbers of a lookup of format 6 stand in the bytes.
use Rattle.std.proofs.Common.{◌≡◌, ℕ, zero, suc, ◌+◌, ◌-◌, ◌*◌, ◌<◌, ◌≤◌, List, [], ◌∷◌, ◌++◌, length, get_or, map, Option, None, Result, Ok, Err, false, refl, sym, ap, ◌∙◌, subst, arith, add-zero}
use Rattle.std.specs.Prelude.{nat_lt, nat_eq, if◌then◌else◌}
use Rattle.std.specs.List.{flat_map, range_with_len}
use Rattle.std.proofs.lemmas.Bool.{le-ltb, ne_eqb}
use Rattle.std.proofs.lemmas.List.FromFn.{fill_by_all}
use Rattle.aat_bytes.specs.Faults.{after, fault_at}
use Rattle.aat_bytes.specs.Numbers.{be16}
use Rattle.aat_bytes.specs.declared.error.Fault.{Fault}
use Rattle.aat_bytes.specs.declared.error.FaultKind.TheVariants.{PastEnd}
use Rattle.aat_bytes.specs.declared.tag.Tag.{Tag}
use Rattle.aat_bytes.specs.facts.FoundKeys.{own_keys}
use Rattle.aat_read_lookup.specs.Layouts.{are_crowded, checked_units, first_fault, glyphs_found, layout_at, searched_at, segment_of, unit_at, unit_fault, units_at, units_fault, unless_fault}
use Rattle.aat_read_lookup.specs.Lookups.{lookup_at, pairs_of}
use Rattle.aat_read_lookup.specs.Segments.{part_of, segment_pairs}
use Rattle.aat_read_lookup.specs.declared.layout.Layout.{Layout}
use Rattle.aat_read_lookup.specs.declared.layout.Layout.TheVariants.{Searched}
use Rattle.aat_read_lookup.specs.declared.segment.ValueKind.TheVariants.{Word}
use Rattle.aat_read_lookup.specs.declared.units.UnitKind.TheVariants.{Single}
use Rattle.aat_read_lookup.specs.declared.units.Units.{Units}

-- where no element has a fault, none is found
all_none :
    (f : ℕ → Option Fault) (a n : ℕ)
    → ((k : ℕ) → a ≤ k → k < a + n → f k ≡ None)
    → first_fault (map f (range_with_len a n)) ≡ None
all_none f a zero none = refl
all_none f a (suc n) none =
    ap (λ (o : Option Fault). first_fault (o ∷ map f (range_with_len (a + 1) n))) (none a (omega arith) (omega arith))
    ∙ all_none f (a + 1) n (λ k low high. none k (omega arith) (omega arith))

-- lists of one element each
singles :
    {X Y : Type 0} (h : X → List Y) (f : ℕ → X) (g : ℕ → Y) (a n : ℕ)
    → ((k : ℕ) → a ≤ k → k < a + n → h (f k) ≡ g k ∷ [])
    → flat_map h (map f (range_with_len a n)) ≡ map g (range_with_len a n)
singles h f g a zero each = refl
singles h f g a (suc n) each =
    ap (λ ys. ys ++ flat_map h (map f (range_with_len (a + 1) n))) (each a (omega arith) (omega arith))
    ∙ ap (λ ys. g a ∷ ys) (singles h f g (a + 1) n (λ k low high. each k (omega arith) (omega arith)))

-- the numbers of a lookup of format 6 with a terminator
pub record HasSingles (bytes : List ℕ) (start : ℕ) (pairs : List (ℕ × ℕ)) : Type 0 where
  pub long : start + 16 + 4 * length pairs ≤ length bytes
  pub format : be16 bytes start ≡ 6
  pub size : be16 bytes (start + 2) ≡ 4
  pub count : be16 bytes (start + 4) ≡ suc (length pairs)
  pub glyph : (i : ℕ) → i < length pairs → be16 bytes (start + 12 + 4 * i) ≡ (get_or pairs i (0, 0)).0
  pub value : (i : ℕ) → i < length pairs → be16 bytes (start + 12 + 4 * i + 2) ≡ (get_or pairs i (0, 0)).1
  pub terminator : be16 bytes (start + 12 + 4 * length pairs) ≡ 65535
  pub glyphs : (i : ℕ) → i < length pairs → (get_or pairs i (0, 0)).0 < 65536
  pub rising : (i : ℕ) → suc i < length pairs → (get_or pairs i (0, 0)).0 < (get_or pairs (suc i) (0, 0)).0

module _ (table : Tag) (bytes : List ℕ) (start : ℕ) (pairs : List (ℕ × ℕ)) (has : HasSingles bytes start pairs) where
  abbrev units : Units
  units = record { kind = Single; values = Word; start = start; size = 4; count = length pairs }

  units_are : units_at table bytes start Single Word ≡ Ok units
  unfolding units_at
  units_are =
      let header : nat_lt (length bytes) (start + 12) ≡ false = le-ltb (length bytes) (start + 12) (omega (arith, has.long)) in
      let inside : nat_lt (length bytes) (start + 12 + 4 * suc (length pairs)) ≡ false =
      le-ltb (length bytes) (start + 12 + 4 * suc (length pairs)) (omega (arith, has.long)) in
      let one_less : suc (length pairs) - 1 ≡ length pairs = omega arith in
      let some : nat_eq (suc (length pairs)) 0 ≡ false = ne_eqb (suc (length pairs)) 0 (λ e. omega arith) in
      rw (header, has.size, has.count, inside, some, one_less, has.terminator) refl

  no_fault : (i : ℕ) → i < length pairs → unit_fault table bytes units i ≡ None
  no_fault i below =
      let inside : nat_lt (length bytes) (start + 12 + 4 * i + 2 + 2) ≡ false =
      le-ltb (length bytes) (start + 12 + 4 * i + 2 + 2) (omega (arith, has.long)) in
      rw inside refl

  abbrev low : ℕ → ℕ
  low i = be16 bytes (start + 12 + 4 * i)

  abbrev behind : ℕ → ℕ
  behind i = be16 bytes (start + 12 + 4 * i) + 1

  next_rises : (j k : ℕ) → j + suc k < length pairs → behind j ≤ low (j + suc k)
  next_rises j zero below =
      let next : j + 1 ≡ suc j = omega arith in
      let up : (get_or pairs j (0, 0)).0 < (get_or pairs (suc j) (0, 0)).0 = has.rising j (omega arith) in
      rw next (omega (arith, has.glyph j (omega arith), has.glyph (suc j) (omega arith), up))
  next_rises j (suc k) below =
      let so_far : behind j ≤ low (j + suc k) = next_rises j k (omega arith) in
      let next : j + suc (suc k) ≡ suc (j + suc k) = omega arith in
      let up : (get_or pairs (j + suc k) (0, 0)).0 < (get_or pairs (suc (j + suc k)) (0, 0)).0 = has.rising (j + suc k) (omega arith) in
      rw next
      (omega (arith, so_far, has.glyph (j + suc k) (omega arith), has.glyph (suc (j + suc k)) (omega arith), up))

  rises : (j k : ℕ) → j < k → k < length pairs → behind j ≤ low k
  rises j k lt below =
      let there : j + suc (k - suc j) ≡ k = omega arith in
      subst (λ (n : ℕ). behind j ≤ low n) there (next_rises j (k - suc j) (omega arith))

  -- a bisection finds each by its glyph
  is_found : (i : ℕ) → i < length pairs → glyphs_found bytes units i ≡ (low i, behind i)
  is_found i below =
      own_keys low behind (λ m. omega arith) i (length pairs) rises (length pairs) 0 (length pairs) 0 65536
      (omega arith) below (omega arith) (omega arith)
      (λ k from to. (omega arith, omega (arith, has.glyph k to, has.glyphs k to)))

  checked : checked_units table bytes start Single Word ≡ Ok units
  unfolding checked_units
  checked =
      ap (λ (r : Result Units Fault). after r (λ u. unless_fault (units_fault table bytes u) u)) units_are
      ∙ ap (λ (o : Option Fault). unless_fault o units)
      (all_none (unit_fault table bytes units) 0 (length pairs) (λ k low high. no_fault k (omega arith)))

  searched : searched_at table bytes start Single Word ≡ Ok (Searched units)
  unfolding searched_at
  searched =
      ap (λ (r : Result Units Fault). after r (λ u. if are_crowded bytes u then Err (fault_at table PastEnd start) else Ok (Searched u))) checked

  layout : (glyph_count : ℕ) → layout_at table bytes start glyph_count Word ≡ Ok (Searched units)
  unfolding layout_at
  layout glyph_count =
      let inside : nat_lt (length bytes) (start + 2) ≡ false = le-ltb (length bytes) (start + 2) (omega (arith, has.long)) in
      rw (inside, has.format) searched

  one_pair :
      (i : ℕ) → i < length pairs
      → segment_pairs bytes (segment_of bytes units i) ≡ get_or pairs i (0, 0) ∷ []
  one_pair i below =
      let pair : ℕ × ℕ = get_or pairs i (0, 0) in
      let of_found : ℕ × ℕ → List (ℕ × ℕ) = λ g. segment_pairs bytes (part_of (unit_at bytes units i) g) in
      let one : be16 bytes (start + 12 + 4 * i) + 1 - be16 bytes (start + 12 + 4 * i) ≡ 1 = omega arith in
      let of_count : ℕ → List (ℕ × ℕ) = λ n. map (λ k. (be16 bytes (start + 12 + 4 * i) + k, be16 bytes (start + 12 + 4 * i + 2))) (range_with_len 0 n) in
      let glyph : be16 bytes (start + 12 + 4 * i) + 0 ≡ pair.0 = add-zero (be16 bytes (start + 12 + 4 * i)) ∙ has.glyph i below in
      let with_value : ℕ → List (ℕ × ℕ) = λ g. (g, be16 bytes (start + 12 + 4 * i + 2)) ∷ [] in
      let with_glyph : ℕ → List (ℕ × ℕ) = λ v. (pair.0, v) ∷ [] in
      ap of_found (is_found i below) ∙ ap of_count one ∙ ap with_value glyph ∙ ap with_glyph (has.value i below)

  -- the pairs are read
  pub singles_are_read : (glyph_count : ℕ) → lookup_at table bytes start glyph_count ≡ Ok pairs
  singles_are_read glyph_count =
      let pair_at : ℕ → ℕ × ℕ = λ i. get_or pairs i (0, 0) in
      let same : pairs ≡ map pair_at (range_with_len 0 (length pairs)) =
      fill_by_all pair_at pairs (length pairs) (0, 0) refl (λ k lt. refl) in
      ap (λ (r : Result Layout Fault). after r (λ l. Ok (pairs_of bytes l))) (layout glyph_count)
      ∙ ap Ok (singles (segment_pairs bytes) (segment_of bytes units) pair_at 0 (length pairs) (λ k low high. one_pair k (omega arith)))
      ∙ ap Ok (sym same)
