-- Pairs by classes that are written are read again.
use Rattle.std.proofs.Common.{◌≡◌, ℕ, ℤ, zero, suc, ◌+◌, ◌*◌, ◌-◌, ◌/◌, ◌%◌, ◌<◌, ◌≤◌, List, [], ◌∷◌, ◌++◌, length, get_or, map, take, drop, Bool, true, false, ◌==◌, cond, Option, Some, None, Result, Ok, All, refl, sym, ap, ◌∙◌, subst, append_assoc, arith}
use Rattle.std.specs.Prelude.{nat_lt, pos}
use Rattle.std.proofs.Math.ListN.{get_or-append}
use Rattle.std.proofs.Math.Nat.{mul-div-le, mul-le-mul_right}
use Rattle.std.proofs.lemmas.Bool.{le-ltb}
use Rattle.std.proofs.lemmas.Bool.Decides.{nat_tests}
use Rattle.std.proofs.lemmas.List.{append-nil, get_or-append-add, get_or-drop, get_or-map, get_or-take, length-append, length-drop, length-map, length-take-le}
use Rattle.std.proofs.lemmas.List.FromFn.{fill_by_all}
use Rattle.aat_bytes.specs.Faults.{after}
use Rattle.aat_bytes.specs.Numbers.{be16, signed16}
use Rattle.aat_bytes.specs.declared.error.Fault.{Fault}
use Rattle.aat_kerning_tables.specs.Classes.{ClassValues}
use Rattle.aat_read_pairs.specs.KernClasses.{array_place, checked_table_at, classes_of, columns_of, grid_at, grid_value, grid_values, kern_classes_at, value_count}
use Rattle.aat_write_machine.specs.Words.{word_bytes}
use Rattle.aat_write_machine.specs.facts.WordPlaces.{AreWords, length_words, word_at, words_joined}
use Rattle.aat_write_truetype.specs.kern.ClassBytes.{array_offset, class_words, classes_words, grid_words, left_limit, left_word, right_offset, right_word, value_from}
use Rattle.aat_write_truetype.specs.kern.DenseClasses.{first_glyph}
use Rattle.aat_write_truetype.specs.kern.KernLaws.{AreByClasses, IsValue}
use Rattle.aat_write_truetype.specs.kern.PairBytes.{value_word}
use Rattle.aat_write_truetype.proofs.kern.ClassFacts.{AreFit}
use Rattle.aat_write_truetype.proofs.kern.ClassLists.{IsLeft, IsRight, IsTable, classes_are_read, left_reads, right_reads, table, table_is_read}
use Rattle.aat_write_truetype.proofs.kern.DenseFacts.{below_limit, glyphs_fit}
use Rattle.aat_write_truetype.proofs.kern.Readers.{ClassTable, KernGrid, Side}
use Rattle.aat_write_truetype.proofs.kern.Values.{value_again, values_are_words}
use Rattle.aat_write_truetype.proofs.kern.Opened.{after_is}

-- pairs by classes of their parts
abbrev made : List (ℕ × ℕ) → List (ℕ × ℕ) → ℕ → List ℤ → ClassValues
made left right count values = record { left = left; right = right; right_count = count; values = values }

-- a grid whose numbers are known
grid_by :
    (bytes : List ℕ) (start place width left right array : ℕ)
    → be16 bytes place ≡ width → be16 bytes (place + 2) ≡ left
    → be16 bytes (place + 4) ≡ right → be16 bytes (place + 6) ≡ array
    → nat_lt (length bytes) (place + 8) ≡ false
    → (width == 0) ≡ false → (width % 2 == 1) ≡ false
    → nat_lt (length bytes) (start + array + width) ≡ false
    → grid_at bytes start place
    ≡ Ok (record { start = start; width = width; left = left; right = right; array = array })
unfolding grid_at
grid_by bytes start place width left right array is_width is_left is_right is_array header some even row =
    rw (is_width, is_left, is_right, is_array, header, some, even, row) refl

-- the offset of a left class below the limit has 16 bits
left_is_word :
    (array row class : ℕ) → array ≤ 65535 → class < left_limit array row → left_word array row class < 65536
left_is_word array row zero near below = omega arith
left_is_word array row (suc before) near below =
    let less : suc before - 1 ≡ before = omega arith in
    let le : before ≤ (65535 - array) / row = omega (arith, below) in
    let rows : before * row ≤ (65535 - array) / row * row = mul-le-mul_right row le in
    let all = mul-div-le (65535 - array) row in
    let fits : array + before * row < 65536 = omega (arith, rows, all, near) in
    let behind : (suc before == 0) ≡ false = grind (arith, nat_tests) in
    rw behind (subst (λ (n : ℕ). array + n * row < 65536) (sym less) fits)

-- the offsets of classes have 16 bits
offsets_are_words :
    (word : ℕ → ℕ) (classes : List (ℕ × ℕ))
    → ((k : ℕ) (d : ℕ × ℕ) → k < length classes → word (get_or classes k d).1 < 65536)
    → AreWords (map (λ pair. word pair.1) classes)
offsets_are_words word [] each = tt
offsets_are_words word (c ∷ cs) each =
    (each 0 c (omega arith), offsets_are_words word cs (λ k d lt. each (suc k) d (omega arith)))

words_of_classes : (word : ℕ → ℕ) (classes : List (ℕ × ℕ)) → length (class_words word classes) ≡ 2 + length classes
words_of_classes word classes = omega (arith, length-map classes (λ pair. word pair.1))

-- how many words there are
pub words_are : (p : ClassValues) → length (classes_words p) ≡ 8 + length p.left + length p.right + (length p.values - p.right_count)
words_are p =
    let array = array_offset (length p.left) (length p.right) in
    let left : List ℕ = class_words (left_word array (2 * p.right_count)) p.left in
    let right : List ℕ = class_words right_word p.right in
    let values : List ℕ = map value_word (drop p.right_count p.values) in
    omega (arith, length-append (grid_words p) (left ++ (right ++ values)), length-append left (right ++ values), length-append right values, words_of_classes (left_word array (2 * p.right_count)) p.left, words_of_classes right_word p.right, length-map (drop p.right_count p.values) value_word, length-drop p.right_count p.values)

-- values that are not seen to differ from 0 are 0
each_zero :
    (place : ℕ) (values : List ℤ) → All IsValue values → value_from place values ≡ None
    → (k : ℕ) (d : ℤ) → k < length values → get_or values k d ≡ pos 0
each_zero place [] small none k d below = absurd (omega arith)
each_zero place (v ∷ vs) small none zero d below =
    let here = tested (value_word v == 0) (value_from (place + 1) vs) place none in
    let word : value_word v ≡ 0 = grind (arith, nat_tests, here.0) in
    sym (value_again v (small 0 v (omega arith))) ∙ ap signed16 word
  where
    tested : (b : Bool) (o : Option ℕ) (n : ℕ) → cond b o (Some n) ≡ None → (b ≡ true) × (o ≡ None)
    tested true o n is = (refl, is)
    tested false o n is = absurd (let wrong : ⊥ = cc in wrong)
each_zero place (v ∷ vs) small none (suc k) d below =
    each_zero (place + 1) vs (λ j e lt. small (suc j) e (omega arith)) (behind (value_word v == 0) (value_from (place + 1) vs) place none) k d (omega arith)
  where
    behind : (b : Bool) (o : Option ℕ) (n : ℕ) → cond b o (Some n) ≡ None → o ≡ None
    behind true o n is = is
    behind false o n is = absurd (let wrong : ⊥ = cc in wrong)

module _ (p : ClassValues) (front : List ℕ) (start : ℕ) (fit : AreFit p) (small : AreByClasses p) (long : length front ≡ start + 8) where
  abbrev lefts : ℕ
  lefts = length p.left

  abbrev rights : ℕ
  rights = length p.right

  abbrev array : ℕ
  array = array_offset lefts rights

  abbrev row : ℕ
  row = 2 * p.right_count

  abbrev left_words : List ℕ
  left_words = class_words (left_word array row) p.left

  abbrev right_words : List ℕ
  right_words = class_words right_word p.right

  abbrev value_words : List ℕ
  value_words = map value_word (drop p.right_count p.values)

  abbrev words : List ℕ
  words = grid_words p ++ (left_words ++ (right_words ++ value_words))

  abbrev whole : List ℕ
  whole = front ++ (word_bytes words ++ [])

  lefts_fit : (first_glyph p.left < 65536) × (first_glyph p.left + lefts ≤ 65536)
  lefts_fit = glyphs_fit (left_limit array row) p.left fit.left (λ k d lt. (small.0 k d lt).0)

  rights_fit : (first_glyph p.right < 65536) × (first_glyph p.right + rights ≤ 65536)
  rights_fit = glyphs_fit p.right_count p.right fit.right (λ k d lt. (small.1 k d lt).0)

  words_small : AreWords words
  words_small =
      let near = fit.near in
      let narrow = fit.narrow in
      let grid : AreWords (grid_words p) = (omega (arith, narrow), (omega arith, (omega (arith, near), (omega (arith, near), tt)))) in
      let left : AreWords left_words = (
        lefts_fit.0,
        (
          omega (arith, near),
          offsets_are_words (left_word array row) p.left
              (λ k d lt. left_is_word array row (get_or p.left k d).1 near (below_limit (left_limit array row) p.left fit.left k d lt)),
        ),
      ) in
      let right : AreWords right_words = (
        rights_fit.0,
        (
          omega (arith, near),
          offsets_are_words right_word p.right
              (λ k d lt. let below = below_limit p.right_count p.right fit.right k d lt in omega (arith, below, narrow)),
        ),
      ) in
      let values : AreWords value_words =
      values_are_words (drop p.right_count p.values) (λ k d lt.
      let within : p.right_count + k < length p.values = omega (arith, lt, length-drop p.right_count p.values) in
      subst IsValue (sym (get_or-drop p.right_count p.values k d)) (small.2 (p.right_count + k) d within)) in
      words_joined (grid_words p) (left_words ++ (right_words ++ value_words)) grid (words_joined left_words (right_words ++ value_words) left (words_joined right_words value_words right values))

  left_long : length left_words ≡ 2 + lefts
  left_long = words_of_classes (left_word array row) p.left

  right_long : length right_words ≡ 2 + rights
  right_long = words_of_classes right_word p.right

  values_long : length value_words ≡ length p.values - p.right_count
  values_long = length-map (drop p.right_count p.values) value_word ∙ length-drop p.right_count p.values

  words_long : length words ≡ 8 + lefts + rights + (length p.values - p.right_count)
  words_long = words_are p

  whole_long : length whole ≡ start + array + 2 * (length p.values - p.right_count)
  whole_long =
      omega (arith, length-append front (word_bytes words ++ []), length-append (word_bytes words) [], length_words words, words_long, long)

  -- a word of a part of the words
  part :
      (before xs rest : List ℕ) → words ≡ before ++ (xs ++ rest)
      → (k place : ℕ) → k < length xs → start + 8 + 2 * (length before + k) ≡ place
      → be16 whole place ≡ get_or xs k 0
  part before xs rest split k place below at =
      let inside : length before + k < length words =
      omega (arith, below, ap length split, length-append before (xs ++ rest), length-append xs rest) in
      word_at words front [] place (length before + k) inside words_small (omega (arith, long, at))
      ∙ ap (λ (ws : List ℕ). get_or ws (length before + k) 0) split
      ∙ get_or-append-add before (xs ++ rest) k 0
      ∙ get_or-append xs rest 0 k below

  of_grid : (k place : ℕ) → k < 4 → start + 8 + 2 * k ≡ place → be16 whole place ≡ get_or (grid_words p) k 0
  of_grid k place below at = part [] (grid_words p) (left_words ++ (right_words ++ value_words)) refl k place below (omega (arith, at))

  of_left : (k place : ℕ) → k < 2 + lefts → start + 16 + 2 * k ≡ place → be16 whole place ≡ get_or left_words k 0
  of_left k place below at =
      part (grid_words p) left_words (right_words ++ value_words) refl k place (omega (arith, left_long)) (omega (arith, at))

  of_right : (k place : ℕ) → k < 2 + rights → start + right_offset lefts + 2 * k ≡ place → be16 whole place ≡ get_or right_words k 0
  of_right k place below at =
      part (grid_words p ++ left_words) right_words value_words (sym (append_assoc (grid_words p) left_words (right_words ++ value_words))) k place
      (omega (arith, right_long)) (omega (arith, at, length-append (grid_words p) left_words, left_long))

  of_values :
      (k place : ℕ) → k < length p.values - p.right_count → start + array + 2 * k ≡ place
      → be16 whole place ≡ get_or value_words k 0
  of_values k place below at =
      let split : words ≡ ((grid_words p ++ left_words) ++ right_words) ++ (value_words ++ []) =
      sym (append_assoc (grid_words p) left_words (right_words ++ value_words))
      ∙ sym (append_assoc (grid_words p ++ left_words) right_words value_words)
      ∙ ap (λ (ws : List ℕ). ((grid_words p ++ left_words) ++ right_words) ++ ws) (sym (append-nil value_words)) in
      part ((grid_words p ++ left_words) ++ right_words) value_words [] split k place (omega (arith, values_long))
      (omega (arith, at, length-append (grid_words p ++ left_words) right_words, length-append (grid_words p) left_words, left_long, right_long))

  abbrev grid : KernGrid
  grid = record { start = start; width = row; left = 16; right = right_offset lefts; array = array }

  grid_is : grid_at whole start (start + 8) ≡ Ok grid
  grid_is =
      let some = fit.some in
      let rows = fit.rows in
      let even : 2 * p.right_count % 2 ≡ 0 = omega arith in
      grid_by whole start (start + 8) row 16 (right_offset lefts) array
      (of_grid 0 (start + 8) (omega arith) (omega arith)) (of_grid 1 (start + 8 + 2) (omega arith) (omega arith))
      (of_grid 2 (start + 8 + 4) (omega arith) (omega arith)) (of_grid 3 (start + 8 + 6) (omega arith) (omega arith))
      (le-ltb (length whole) (start + 8 + 8) (omega (arith, whole_long)))
      (grind (arith, nat_tests, some)) (ap (λ n. n == 1) even)
      (le-ltb (length whole) (start + array + row) (omega (arith, whole_long, rows)))

  left_is : (side : Side) → IsLeft grid side → IsTable whole grid side (left_limit array row) (left_word array row) (start + 16) p.left
  left_is side is =
      let some = fit.some in
      let rows = fit.rows in
      record {
        first = of_left 0 (start + 16) (omega arith) (omega arith);
        count = of_left 1 (start + 16 + 2) (omega arith) (omega arith);
        inside = omega (arith, whole_long, rows);
        fits = lefts_fit.1;
        dense = fit.left;
        words = λ k d below.
            of_left (2 + k) (start + 16 + 4 + 2 * k) (omega arith) (omega arith)
            ∙ get_or-append-add (first_glyph p.left ∷ lefts ∷ []) (map (λ pair. left_word array row pair.1) p.left) k 0
            ∙ get_or-map (λ pair. left_word array row pair.1) p.left k d 0 below;
        reads = λ class below. left_reads grid side is (omega arith) (omega (arith, some)) class;
      }

  right_is : (side : Side) → IsRight grid side → IsTable whole grid side p.right_count right_word (start + right_offset lefts) p.right
  right_is side is =
      let rows = fit.rows in
      record {
        first = of_right 0 (start + right_offset lefts) (omega arith) (omega arith);
        count = of_right 1 (start + right_offset lefts + 2) (omega arith) (omega arith);
        inside = omega (arith, whole_long, rows);
        fits = rights_fit.1;
        dense = fit.right;
        words = λ k d below.
            of_right (2 + k) (start + right_offset lefts + 4 + 2 * k) (omega arith) (omega arith)
            ∙ get_or-append-add (first_glyph p.right ∷ rights ∷ []) (map (λ pair. right_word pair.1) p.right) k 0
            ∙ get_or-map (λ pair. right_word pair.1) p.right k d 0 below;
        reads = λ class below. right_reads grid side p.right_count is refl class below;
      }

  columns_is : columns_of grid ≡ p.right_count
  columns_is = omega arith

  count_is : value_count whole grid ≡ length p.values
  count_is = let rows = fit.rows in omega (arith, whole_long, rows)

  value_is : (i : ℕ) → i < length p.values → get_or p.values i (pos 0) ≡ grid_value whole grid i
  value_is i below = by_row (nat_lt i (columns_of grid)) refl
    where
      by_row : (b : Bool) → nat_lt i (columns_of grid) ≡ b → get_or p.values i (pos 0) ≡ grid_value whole grid i
      by_row true test =
          let first : i < p.right_count = grind (arith, nat_tests, test, columns_is) in
          let rows = fit.rows in
          let cut : length (take p.right_count p.values) ≡ p.right_count = length-take-le p.right_count p.values (omega (arith, rows)) in
          let values : All IsValue (take p.right_count p.values) =
          λ k d lt. let within : k < p.right_count = omega (arith, lt, cut) in
          subst IsValue (sym (get_or-take p.right_count p.values k d within)) (small.2 k d (omega (arith, within, rows))) in
          let zero_is : get_or (take p.right_count p.values) i (pos 0) ≡ pos 0 =
          each_zero 0 (take p.right_count p.values) values fit.zeros i (pos 0) (omega (arith, first, cut)) in
          sym (get_or-take p.right_count p.values i (pos 0) first) ∙ zero_is ∙ rw test refl
      by_row false test =
          let behind : p.right_count ≤ i = grind (arith, nat_tests, test, columns_is) in
          let k : ℕ = i - p.right_count in
          let within : k < length p.values - p.right_count = omega (arith, behind, below) in
          let place : start + array + 2 * k ≡ array_place grid + 2 * (i - columns_of grid) = omega (arith, columns_is) in
          let same : p.right_count + k ≡ i = omega (arith, behind) in
          let there : k < length (drop p.right_count p.values) = omega (arith, within, length-drop p.right_count p.values) in
          let word : be16 whole (array_place grid + 2 * (i - columns_of grid)) ≡ value_word (get_or p.values i (pos 0)) =
          of_values k (array_place grid + 2 * (i - columns_of grid)) within place
          ∙ get_or-map value_word (drop p.right_count p.values) k (pos 0) 0 there
          ∙ ap value_word (get_or-drop p.right_count p.values k (pos 0) ∙ ap (λ n. get_or p.values n (pos 0)) same) in
          sym (value_again (get_or p.values i (pos 0)) (small.2 i (pos 0) below)) ∙ ap signed16 (sym word) ∙ rw test refl

  values_are : grid_values whole grid ≡ p.values
  values_are =
      sym (fill_by_all (grid_value whole grid) p.values (value_count whole grid) (pos 0) (sym count_is)
      (λ i lt. value_is i (omega (arith, lt, count_is))))

  -- what is read of both sides
  joined :
      (left right : Side) → IsLeft grid left → IsRight grid right
      → after (checked_table_at whole grid left (start + 16)) (λ l.
      after (checked_table_at whole grid right (start + right_offset lefts)) (λ r.
      Ok (made (classes_of whole grid left l) (classes_of whole grid right r) (columns_of grid) (grid_values whole grid))))
      ≡ Ok p
  joined left right is_left is_right =
      let of_left = left_is left is_left in
      let of_right = right_is right is_right in
      let l : ClassTable = table whole grid left (left_limit array row) (left_word array row) (start + 16) p.left of_left in
      let r : ClassTable = table whole grid right p.right_count right_word (start + right_offset lefts) p.right of_right in
      ap (λ (found : Result ClassTable Fault). after found (λ l.
      after (checked_table_at whole grid right (start + right_offset lefts)) (λ r.
      Ok (made (classes_of whole grid left l) (classes_of whole grid right r) (columns_of grid) (grid_values whole grid)))))
      (table_is_read whole grid left (left_limit array row) (left_word array row) (start + 16) p.left of_left)
      ∙ ap (λ (found : Result ClassTable Fault). after found (λ r.
      Ok (made (classes_of whole grid left l) (classes_of whole grid right r) (columns_of grid) (grid_values whole grid))))
      (table_is_read whole grid right p.right_count right_word (start + right_offset lefts) p.right of_right)
      ∙ ap (λ ls. Ok (made ls (classes_of whole grid right r) (columns_of grid) (grid_values whole grid)))
      (classes_are_read whole grid left (left_limit array row) (left_word array row) (start + 16) p.left of_left)
      ∙ ap (λ rs. Ok (made p.left rs (columns_of grid) (grid_values whole grid)))
      (classes_are_read whole grid right p.right_count right_word (start + right_offset lefts) p.right of_right)
      ∙ ap (λ n. Ok (made p.left p.right n (grid_values whole grid))) columns_is
      ∙ ap (λ vs. Ok (made p.left p.right p.right_count vs)) values_are

  pub read_whole : kern_classes_at whole start (start + 8) ≡ Ok p
  unfolding kern_classes_at
  read_whole = after_is (grid_at whole start (start + 8)) grid _ (Ok p) grid_is (joined _ _ (λ offset. refl) (λ offset. refl))
