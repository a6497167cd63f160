-- Points are read again from the flags and the steps that were written of them.
use Rattle.std.proofs.Common.{◌≡◌, ◌∙◌, ap, refl, ℕ, ℤ, suc, ◌+◌, ◌*◌, ◌<◌, Bool, true, false, cond, List, [], ◌∷◌, length, get_or, map, SFits, w16, arith}
use Rattle.std.specs.Prelude.{pos, negsuc, ◌+ℤ◌, ◌-ℤ◌, ◌&&◌, int_le, sum_by}
use Rattle.std.proofs.Math.Facts.{Fits-of_z}
use Rattle.std.proofs.lemmas.Bool.Decides.{nat_tests}
use Rattle.std.proofs.lemmas.Int.{ints, to_z-of_z}
use Rattle.std.proofs.lemmas.List.Sums.{sum_by-cons}
use Rattle.aat_bytes.specs.Numbers.{be16, signed16}
use Rattle.aat_read_outlines.specs.Flags.{has}
use Rattle.aat_read_outlines.specs.Points.{moved, point_at, points_from, step_at, x_size, y_size}
use Rattle.aat_read_outlines.specs.declared.outline.OutlinePoint.{OutlinePoint}
use Rattle.aat_write_machine.specs.facts.WordPlaces.{AreWords}
use Rattle.aat_write_truetype.specs.outlines.GlyphData.{are_short_steps, flag_of, is_short, is_short_step, word_of, x_words, y_words}
use Rattle.aat_write_truetype.proofs.outlines.Readers.{Pen}

both : (b c : Bool) → (b && c) ≡ true → (b ≡ true) × (c ≡ true)
both true c is = (refl, is)
both false c is = cc

-- a short number has 16 bits
fits : (z : ℤ) → is_short z ≡ true → SFits w16 z
fits (pos n) short =
    let high : int_le (pos n) (pos 32767) ≡ true = (both (int_le (negsuc 32767) (pos n)) (int_le (pos n) (pos 32767)) short).1 in
    record { sfits = grind (arith, nat_tests, high) }
fits (negsuc n) short =
    let low : int_le (negsuc 32767) (negsuc n) ≡ true = (both (int_le (negsuc 32767) (negsuc n)) (int_le (negsuc n) (pos 32767)) short).0 in
    record { sfits = grind (arith, nat_tests, low) }

word_small : (z : ℤ) → is_short z ≡ true → word_of z < 65536
word_small z short = omega (arith, Fits-of_z {w = w16} {z = z} (fits z short))

-- a step from one coordinate to another leads there
step_again : (from to : ℤ) → is_short (to -ℤ from) ≡ true → from +ℤ signed16 (word_of (to -ℤ from)) ≡ to
step_again from to short =
    let there : from +ℤ (to -ℤ from) ≡ to = omega (arith, ints) in
    ap (λ (z : ℤ). from +ℤ z) (to_z-of_z w16 (to -ℤ from) (fits (to -ℤ from) short)) ∙ there

-- the flag of a point says that it is on the curve or not, and that its steps have 16 bits
abbrev flag : Bool → ℕ
flag b = cond b 1 0

on_curve : (b : Bool) → has (flag b) 1 ≡ b
on_curve true = refl
on_curve false = refl

x_takes_two : (b : Bool) → x_size (flag b) ≡ 2
x_takes_two true = refl
x_takes_two false = refl

y_takes_two : (b : Bool) → y_size (flag b) ≡ 2
y_takes_two true = refl
y_takes_two false = refl

x_step : (b : Bool) (bytes : List ℕ) (place : ℕ)
    → step_at bytes place (has (flag b) 2) (has (flag b) 16) ≡ signed16 (be16 bytes place)
x_step true bytes place = refl
x_step false bytes place = refl

y_step : (b : Bool) (bytes : List ℕ) (place : ℕ)
    → step_at bytes place (has (flag b) 4) (has (flag b) 32) ≡ signed16 (be16 bytes place)
y_step true bytes place = refl
y_step false bytes place = refl

pub x_sizes : (points : List OutlinePoint) → sum_by x_size (map flag_of points) ≡ 2 * length points
x_sizes [] = omega arith
x_sizes (point ∷ points) =
    sum_by-cons x_size (flag_of point) (map flag_of points)
    ∙ omega (arith, x_takes_two point.is_on_curve, x_sizes points)

pub y_sizes : (points : List OutlinePoint) → sum_by y_size (map flag_of points) ≡ 2 * length points
y_sizes [] = omega arith
y_sizes (point ∷ points) =
    sum_by-cons y_size (flag_of point) (map flag_of points)
    ∙ omega (arith, y_takes_two point.is_on_curve, y_sizes points)

-- there is a step for each point, and it has 16 bits
pub x_count : (from : OutlinePoint) (points : List OutlinePoint) → length (x_words from points) ≡ length points
x_count from [] = refl
x_count from (point ∷ points) = omega (arith, x_count point points)

pub y_count : (from : OutlinePoint) (points : List OutlinePoint) → length (y_words from points) ≡ length points
y_count from [] = refl
y_count from (point ∷ points) = omega (arith, y_count point points)

-- the steps to the first of points, and through those behind it
record AreSteps (from point : OutlinePoint) (points : List OutlinePoint) : Type 0 where
  x : is_short (point.x -ℤ from.x) ≡ true
  y : is_short (point.y -ℤ from.y) ≡ true
  behind : are_short_steps point points ≡ true

steps_of : (from point : OutlinePoint) (points : List OutlinePoint)
    → are_short_steps from (point ∷ points) ≡ true → AreSteps from point points
steps_of from point points short =
    let all = both (is_short_step from point) (are_short_steps point points) short in
    let here = both (is_short (point.x -ℤ from.x)) (is_short (point.y -ℤ from.y)) all.0 in
    record { x = here.0; y = here.1; behind = all.1 }

pub x_small : (from : OutlinePoint) (points : List OutlinePoint) → are_short_steps from points ≡ true → AreWords (x_words from points)
x_small from [] short = tt
x_small from (point ∷ points) short =
    let steps = steps_of from point points short in
    (word_small (point.x -ℤ from.x) steps.x, x_small point points steps.behind)

pub y_small : (from : OutlinePoint) (points : List OutlinePoint) → are_short_steps from points ≡ true → AreWords (y_words from points)
y_small from [] short = tt
y_small from (point ∷ points) short =
    let steps = steps_of from point points short in
    (word_small (point.y -ℤ from.y) steps.y, y_small point points steps.behind)

-- a pen at a point, with the places of its next steps
abbrev pub pen_at : ℕ → ℕ → OutlinePoint → Pen
pen_at x_place y_place point = record { x_place = x_place; y_place = y_place; x = point.x; y = point.y }

-- one step of a pen
module _ (bytes : List ℕ) (x_place y_place : ℕ) (from point : OutlinePoint)
    (x_short : is_short (point.x -ℤ from.x) ≡ true) (y_short : is_short (point.y -ℤ from.y) ≡ true)
    (x_here : be16 bytes x_place ≡ word_of (point.x -ℤ from.x)) (y_here : be16 bytes y_place ≡ word_of (point.y -ℤ from.y)) where
  x_there : from.x +ℤ step_at bytes x_place (has (flag_of point) 2) (has (flag_of point) 16) ≡ point.x
  x_there =
      ap (λ (z : ℤ). from.x +ℤ z) (x_step point.is_on_curve bytes x_place ∙ ap signed16 x_here)
      ∙ step_again from.x point.x x_short

  y_there : from.y +ℤ step_at bytes y_place (has (flag_of point) 4) (has (flag_of point) 32) ≡ point.y
  y_there =
      ap (λ (z : ℤ). from.y +ℤ z) (y_step point.is_on_curve bytes y_place ∙ ap signed16 y_here)
      ∙ step_again from.y point.y y_short

  pen_there : moved bytes (pen_at x_place y_place from) (flag_of point) ≡ pen_at (x_place + 2) (y_place + 2) point
  pen_there =
      let one : x_place + x_size (flag_of point) ≡ x_place + 2 = omega (arith, x_takes_two point.is_on_curve) in
      let two : y_place + y_size (flag_of point) ≡ y_place + 2 = omega (arith, y_takes_two point.is_on_curve) in
      cc (one, two, x_there, y_there)

  point_there : point_at (pen_at (x_place + 2) (y_place + 2) point) (flag_of point) ≡ point
  point_there =
      let at : Bool → OutlinePoint = λ (b : Bool). record { x = point.x; y = point.y; is_on_curve = b } in
      ap at (on_curve point.is_on_curve)

-- the points are those that were written
pub points_again :
    (bytes : List ℕ) (points : List OutlinePoint) (from : OutlinePoint) (x_place y_place : ℕ)
    → are_short_steps from points ≡ true
    → ((i : ℕ) → i < length points → be16 bytes (x_place + 2 * i) ≡ get_or (x_words from points) i 0)
    → ((i : ℕ) → i < length points → be16 bytes (y_place + 2 * i) ≡ get_or (y_words from points) i 0)
    → points_from bytes (pen_at x_place y_place from) (map flag_of points) ≡ points
points_again bytes [] from x_place y_place short xs ys = refl
points_again bytes (point ∷ points) from x_place y_place short xs ys =
    let steps = steps_of from point points short in
    let x_zero : x_place ≡ x_place + 2 * 0 = omega arith in
    let y_zero : y_place ≡ y_place + 2 * 0 = omega arith in
    let x_here : be16 bytes x_place ≡ word_of (point.x -ℤ from.x) = ap (be16 bytes) x_zero ∙ xs 0 (omega arith) in
    let y_here : be16 bytes y_place ≡ word_of (point.y -ℤ from.y) = ap (be16 bytes) y_zero ∙ ys 0 (omega arith) in
    let next : (place i : ℕ) → place + 2 + 2 * i ≡ place + 2 * suc i = λ place i. omega arith in
    let behind : points_from bytes (pen_at (x_place + 2) (y_place + 2) point) (map flag_of points) ≡ points =
    points_again bytes points point (x_place + 2) (y_place + 2) steps.behind
    (λ i below. ap (be16 bytes) (next x_place i) ∙ xs (suc i) (omega arith))
    (λ i below. ap (be16 bytes) (next y_place i) ∙ ys (suc i) (omega arith)) in
    ap (λ (pen : Pen). point_at pen (flag_of point) ∷ points_from bytes pen (map flag_of points))
    (pen_there bytes x_place y_place from point steps.x steps.y x_here y_here)
    ∙ ap (λ (p : OutlinePoint). p ∷ points_from bytes (pen_at (x_place + 2) (y_place + 2) point) (map flag_of points))
    (point_there bytes x_place y_place from point steps.x steps.y x_here y_here)
    ∙ ap (λ (ps : List OutlinePoint). point ∷ ps) behind
