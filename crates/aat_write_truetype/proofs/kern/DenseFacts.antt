-- What is known of classes of glyphs that follow one another.
use Rattle.std.proofs.Common.{◌≡◌, ℕ, zero, suc, ◌+◌, ◌<◌, ◌≤◌, List, [], ◌∷◌, length, get_or, ◌&&◌, ◌==◌, None, arith}
use Rattle.std.specs.Prelude.{nat_lt}
use Rattle.aat_write_truetype.specs.kern.DenseClasses.{class_gap, first_glyph, gap_from}
use Rattle.aat_write_truetype.proofs.kern.Opened.{below_by, both_true, in_place, same_by}

module _ (limit first : ℕ) where
  -- each class from a place on
  pub each_class :
      (place : ℕ) (classes : List (ℕ × ℕ)) → gap_from limit first place classes ≡ None
      → (k : ℕ) (d : ℕ × ℕ) → k < length classes
      → ((get_or classes k d).0 ≡ first + (place + k)) × ((get_or classes k d).1 < limit)
  each_class place [] none k d below = absurd (omega arith)
  each_class place (c ∷ cs) none zero d below =
      let here = in_place ((c.0 == first + place) && nat_lt c.1 limit) (gap_from limit first (place + 1) cs) place none in
      let both = both_true (c.0 == first + place) (nat_lt c.1 limit) here.0 in
      let glyph : c.0 ≡ first + place = same_by c.0 (first + place) both.0 in
      (omega (arith, glyph), below_by c.1 limit both.1)
  each_class place (c ∷ cs) none (suc k) d below =
      let here = in_place ((c.0 == first + place) && nat_lt c.1 limit) (gap_from limit first (place + 1) cs) place none in
      let there = each_class (place + 1) cs here.1 k d (omega arith) in
      let glyph = there.0 in
      (omega (arith, glyph), there.1)

-- classes without a gap are below the limit
pub below_limit :
    (limit : ℕ) (classes : List (ℕ × ℕ)) → class_gap limit classes ≡ None
    → (k : ℕ) (d : ℕ × ℕ) → k < length classes → (get_or classes k d).1 < limit
below_limit limit classes none k d below = (each_class limit (first_glyph classes) 0 classes none k d below).1

-- and their glyphs follow the first
pub glyph_is :
    (limit : ℕ) (classes : List (ℕ × ℕ)) → class_gap limit classes ≡ None
    → (k : ℕ) (d : ℕ × ℕ) → k < length classes → (get_or classes k d).0 ≡ first_glyph classes + k
glyph_is limit classes none k d below =
    let there = (each_class limit (first_glyph classes) 0 classes none k d below).0 in
    omega (arith, there)

-- where glyphs have 16 bits, so have the first, the number of all and what is behind the last
pub glyphs_fit :
    (limit : ℕ) (classes : List (ℕ × ℕ)) → class_gap limit classes ≡ None
    → ((k : ℕ) (d : ℕ × ℕ) → k < length classes → (get_or classes k d).0 < 65536)
    → (first_glyph classes < 65536) × (first_glyph classes + length classes ≤ 65536)
glyphs_fit limit [] none small = (omega arith, omega arith)
glyphs_fit limit (c ∷ cs) none small =
    let first = small 0 c (omega arith) in
    let last = small (length cs) c (omega arith) in
    let is = glyph_is limit (c ∷ cs) none (length cs) c (omega arith) in
    (first, omega (arith, last, is))
