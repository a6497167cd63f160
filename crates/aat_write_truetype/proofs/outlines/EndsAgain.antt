-- Ends of contours are read again from the last points that were written.
use Rattle.std.proofs.Common.{◌≡◌, ◌∙◌, ap, refl, sym, ℕ, zero, suc, ◌+◌, ◌-◌, ◌*◌, ◌<◌, ◌≤◌, Bool, true, false, List, [], ◌∷◌, ◌++◌, length, get_or, None, arith}
use Rattle.std.specs.Prelude.{◌&&◌, nat_le, nat_lt}
use Rattle.std.proofs.lemmas.Bool.Decides.{nat_tests}
use Rattle.std.proofs.lemmas.List.{get_or-append-add, get_or_append_left, get_or-map, length-map}
use Rattle.std.proofs.lemmas.List.FromFn.{fill_by_all}
use Rattle.aat_bytes.specs.Numbers.{be16}
use Rattle.aat_bytes.specs.facts.Ranges.{none_found}
use Rattle.aat_read_outlines.specs.Outlines.{Divides}
use Rattle.aat_read_outlines.specs.SimpleGlyphs.{end_of, ends_of, falling_end}
use Rattle.aat_write_machine.specs.facts.WordPlaces.{AreWords, words_joined}
use Rattle.aat_write_truetype.specs.outlines.GlyphData.{last_points}
use Rattle.aat_write_truetype.proofs.outlines.Ends.{end_between, end_few, end_some}

-- an end is below the next one
rising :
    (start : ℕ) (ends : List ℕ) (count i : ℕ)
    → Divides start ends count
    → suc i < length ends
    → get_or ends i 0 < get_or ends (suc i) 0
rising start [] count i is below = absurd (omega arith)
rising start (end ∷ ends) count zero is below = (end_between end ends count 0 is.1 (omega arith)).0
rising start (end ∷ ends) count (suc i) is below = rising end ends count i is.1 (omega arith)

-- the last end is that of the points
last_behind : (end : ℕ) (ends : List ℕ) (count : ℕ) → Divides end ends count → get_or (end ∷ ends) (length ends) 0 ≡ count
last_behind end [] count is = is
last_behind end (next ∷ ends) count is = last_behind next ends count is.1

pub last_end :
    (start : ℕ) (ends : List ℕ) (count : ℕ) → Divides start ends count → 0 < length ends → get_or ends (length ends - 1) 0 ≡ count
last_end start [] count is some = absurd (omega arith)
last_end start (end ∷ ends) count is some =
    let place : length (end ∷ ends) - 1 ≡ length ends = omega arith in
    ap (λ (k : ℕ). get_or (end ∷ ends) k 0) place ∙ last_behind end ends count is.1

-- the last points have 16 bits
small : (ends : List ℕ) → ((k : ℕ) → k < length ends → get_or ends k 0 ≤ 65536) → AreWords (last_points ends)
small [] few = tt
small (end ∷ ends) few =
    let low : end ≤ 65536 = few 0 (omega arith) in
    (omega arith, small ends (λ k below. few (suc k) (omega arith)))

-- and so has the length of no instructions behind them
pub last_points_small :
    (ends : List ℕ) (count : ℕ) → Divides 0 ends count → count ≤ 65536 → AreWords (last_points ends ++ 0 ∷ [])
last_points_small ends count is few =
    words_joined (last_points ends) (0 ∷ []) (small ends (end_few ends count is few)) (omega arith, tt)

pub last_point_at : (ends : List ℕ) (k : ℕ) → k < length ends → get_or (last_points ends ++ 0 ∷ []) k 0 ≡ get_or ends k 0 - 1
last_point_at ends k below =
    get_or_append_left (last_points ends) (0 ∷ []) 0 k (omega (arith, length-map ends (λ (end : ℕ). end - 1)))
    ∙ get_or-map (λ (end : ℕ). end - 1) ends k 0 0 below

pub instructions_at : (ends : List ℕ) → get_or (last_points ends ++ 0 ∷ []) (length ends) 0 ≡ 0
instructions_at ends =
    let place : length ends ≡ length (last_points ends) + 0 = omega (arith, length-map ends (λ (end : ℕ). end - 1)) in
    ap (λ (k : ℕ). get_or (last_points ends ++ 0 ∷ []) k 0) place ∙ get_or-append-add (last_points ends) (0 ∷ []) 0 0

neither : (a b : Bool) → b ≡ false → (a && b) ≡ false
neither true b is = is
neither false b is = refl

module _ (bytes ends : List ℕ) (count : ℕ) (divided : Divides 0 ends count)
    (each : (k : ℕ) → k < length ends → be16 bytes (10 + 2 * k) ≡ get_or ends k 0 - 1) where
  -- each end is read again
  pub end_again : (k : ℕ) → k < length ends → end_of bytes k ≡ get_or ends k 0
  end_again k below = omega (arith, each k below, end_some ends count divided k below)

  pub ends_again : ends_of bytes (length ends) ≡ ends
  ends_again = sym (fill_by_all (end_of bytes) ends (length ends) 0 refl (λ k below. sym (end_again k below)))

  -- none falls
  falls_not : (k : ℕ) → k < length ends → (nat_lt 0 k && nat_le (end_of bytes k) (end_of bytes (k - 1))) ≡ false
  falls_not zero below = refl
  falls_not (suc i) below =
      let before : end_of bytes (suc i - 1) ≡ get_or ends i 0 =
      let same : suc i - 1 ≡ i = omega arith in
      ap (end_of bytes) same ∙ end_again i (omega arith) in
      let less : end_of bytes (suc i - 1) < end_of bytes (suc i) =
      omega (arith, before, end_again (suc i) below, rising 0 ends count i divided below) in
      let test : nat_le (end_of bytes (suc i)) (end_of bytes (suc i - 1)) ≡ false = grind (arith, nat_tests, less) in
      neither (nat_lt 0 (suc i)) (nat_le (end_of bytes (suc i)) (end_of bytes (suc i - 1))) test

  pub none_falls : falling_end bytes (length ends) ≡ None
  none_falls =
      none_found (λ (k : ℕ). nat_lt 0 k && nat_le (end_of bytes k) (end_of bytes (k - 1))) 0 (length ends)
      (λ k low high. falls_not k (omega arith))
