-- Ends of contours: as a loop reads them, and as they divide points.
use Rattle.std.proofs.Common.{◌≡◌, ◌∙◌, ap, refl, sym, subst, ℕ, zero, suc, ◌+◌, ◌-◌, ◌*◌, ◌<◌, ◌≤◌, ◌==◌, List, [], ◌∷◌, ◌++◌, length, get_or, map, None, Bool, false, cond, length-append, zero-add, arith}
use Rattle.std.specs.List.{range_with_len}
use Rattle.std.proofs.lemmas.List.{length-map}
use Rattle.std.proofs.lemmas.List.FromFn.{map-range_with_len_more}
use Rattle.std.proofs.lemmas.Bool.Decides.{nat_tests}
use Rattle.std.proofs.lemmas.Grind.{common_steps}
use Rattle.aat_bytes.specs.facts.Ranges.{none_each}
use Rattle.aat_read_sfnt.specs.RisingEnds.{end_falls, first_fall}
use Rattle.aat_read_outlines.specs.Outlines.{Divides, start_of}
use Rattle.aat_read_outlines.specs.SimpleGlyphs.{end_of, ends_of, falling_end}

-- one end more
pub ends_more : (bytes : List ℕ) (k : ℕ) → ends_of bytes (k + 1) ≡ ends_of bytes k ++ end_of bytes k ∷ []
ends_more bytes k = map-range_with_len_more (end_of bytes) 0 k k (zero-add k)

-- an end that a loop puts behind others
pub end_pushed :
    (bytes ends new : List ℕ) (k end : ℕ)
    → ends ≡ ends_of bytes k
    → end ≡ end_of bytes k
    → new ≡ ends ++ end ∷ []
    → new ≡ ends_of bytes (k + 1)
end_pushed bytes ends new k end so_far is pushed =
    pushed
    ∙ ap (λ e. ends ++ e ∷ []) is
    ∙ ap (λ (xs : List ℕ). xs ++ end_of bytes k ∷ []) so_far
    ∙ sym (ends_more bytes k)

-- an end that does not fall is above the one before it
above_last : (end_at : ℕ → ℕ) (i : ℕ) → end_falls end_at i ≡ false → 0 < i → end_at (i - 1) < end_at i
above_last end_at i keeps later = grind (arith, nat_tests, common_steps)

-- ends that each are above the one before divide as many points as the last one says
each_above :
    (end_at : ℕ → ℕ) (start a n : ℕ)
    → start < end_at a
    → ((i : ℕ) → a < i → i ≤ a + n → end_at (i - 1) < end_at i)
    → Divides start (map end_at (range_with_len a (suc n))) (end_at (a + n))
each_above end_at start a zero above each =
    (above, ap end_at (omega arith))
each_above end_at start a (suc n) above each =
    let next : end_at (a + 1 - 1) < end_at (a + 1) = each (a + 1) (omega arith) (omega arith) in
    let same : a + 1 - 1 ≡ a = omega arith in
    let there : a + 1 + n ≡ a + suc n = omega arith in (
      above,
      subst (λ k. Divides (end_at a) (map end_at (range_with_len (a + 1) (suc n))) (end_at k)) there
          (each_above end_at (end_at a) (a + 1) n (omega (arith, next, ap end_at same))
          (λ i low high. each i (omega arith) (omega arith))),
    )

pub ends_divide :
    (bytes : List ℕ) (contours : ℕ)
    → 0 < contours
    → falling_end bytes contours ≡ None
    → Divides 0 (ends_of bytes contours) (end_of bytes (contours - 1))
ends_divide bytes contours some rising =
    let n = contours - 1 in
    let all : suc n ≡ contours = omega arith in
    let above : (i : ℕ) → 0 < i → i ≤ 0 + n → end_of bytes (i - 1) < end_of bytes i =
    λ i low high.
    above_last (end_of bytes) i (none_each (end_falls (end_of bytes)) 0 contours rising i (omega arith) (omega arith)) low in
    let first : 0 < end_of bytes 0 = omega arith in
    let place : 0 + n ≡ n = omega arith in
    subst (λ k. Divides 0 (ends_of bytes k) (end_of bytes n)) all
    (subst (λ k. Divides 0 (ends_of bytes (suc n)) (end_of bytes k)) place (each_above (end_of bytes) 0 0 n first above))

-- what the ends and the points of a loop divide
pub read_divides :
    (bytes read ends : List ℕ) (contours count : ℕ)
    → 0 < contours
    → falling_end bytes contours ≡ None
    → read ≡ bytes
    → ends ≡ ends_of read contours
    → count ≡ end_of read (contours - 1)
    → Divides 0 ends count
read_divides bytes read ends contours count some rising same is counted =
    let list = is ∙ ap (λ b. ends_of b contours) same in
    let number = counted ∙ ap (λ b. end_of b (contours - 1)) same in
    subst (λ k. Divides 0 ends k) (sym number)
    (subst (λ (es : List ℕ). Divides 0 es (end_of bytes (contours - 1))) (sym list) (ends_divide bytes contours some rising))

-- where a contour begins, if the first one begins at a start
before : ℕ → List ℕ → ℕ → ℕ
before start ends zero = start
before start ends (suc i) = get_or ends i 0

last_end : (start : ℕ) (ends : List ℕ) (count : ℕ) → Divides start ends count → start ≤ count
last_end start [] count same = omega arith
last_end start (end ∷ ends) count is = omega (arith, is.0, last_end end ends count is.1)

divided_from :
    (start : ℕ) (ends : List ℕ) (count i : ℕ)
    → Divides start ends count
    → i < length ends
    → (before start ends i < get_or ends i 0) × (get_or ends i 0 ≤ count)
unfolding before
divided_from start [] count i is below = absurd (omega arith)
divided_from start (end ∷ ends) count zero is below = (is.0, last_end end ends count is.1)
divided_from start (end ∷ ends) count (suc zero) is below = divided_from end ends count zero is.1 (omega arith)
divided_from start (end ∷ ends) count (suc (suc i)) is below = divided_from end ends count (suc i) is.1 (omega arith)

start_is : (ends : List ℕ) (i : ℕ) → start_of ends i ≡ before 0 ends i
unfolding before
start_is ends zero = refl
start_is ends (suc i) =
    let later : (suc i == 0) ≡ false = grind (arith, nat_tests) in
    let same : suc i - 1 ≡ i = omega arith in
    ap (λ (b : Bool). cond b 0 (get_or ends (suc i - 1) 0)) later ∙ ap (λ k. get_or ends k 0) same

-- a contour begins before its end, which is not past the points
pub divided :
    (ends : List ℕ) (count index start end : ℕ)
    → Divides 0 ends count
    → index < length ends
    → start ≡ start_of ends index
    → end ≡ get_or ends index 0
    → (start ≤ end) × (end ≤ count)
divided ends count index start end is below starts stops =
    let from = divided_from 0 ends count index is below in
    (omega (arith, from.0, start_is ends index, starts, stops), omega (arith, from.1, stops))

-- no end is past the points
pub ends_inside :
    (ends : List ℕ) (count : ℕ)
    → Divides 0 ends count
    → count ≤ 65536
    → (k : ℕ) → k < length ends → get_or ends k 0 ≤ 65536
ends_inside ends count is few k below = omega (arith, (divided_from 0 ends count k is below).1)

shifted :
    (by start : ℕ) (ends : List ℕ) (count : ℕ)
    → Divides start ends count
    → Divides (by + start) (map (λ end. by + end) ends) (by + count)
shifted by start [] count is = omega arith
shifted by start (end ∷ ends) count is = (omega (arith, is.0), shifted by end ends count is.1)

one_behind_other :
    (start : ℕ) (front : List ℕ) (middle : ℕ) (ends : List ℕ) (count : ℕ)
    → Divides start front middle
    → Divides middle ends count
    → Divides start (front ++ ends) count
one_behind_other start [] middle ends count is others = subst (λ k. Divides k ends count) (sym is) others
one_behind_other start (end ∷ front) middle ends count is others =
    (is.0, one_behind_other end front middle ends count is.1 others)

-- ends of contours whose points stand behind others
pub joined_divides :
    (front ends read new : List ℕ) (first second by count : ℕ)
    → Divides 0 front first
    → Divides 0 ends second
    → by ≡ first
    → read ≡ ends
    → new ≡ front ++ map (λ end. by + end) read
    → count ≡ first + second
    → Divides 0 new count
joined_divides front ends read new first second by count is others same copied appended counted =
    let place : first + 0 ≡ first = omega arith in
    let behind = subst (λ k. Divides k (map (λ end. first + end) ends) (first + second)) place (shifted first 0 ends second others) in
    let all = one_behind_other 0 front first (map (λ end. first + end) ends) (first + second) is behind in
    let list = appended
    ∙ ap (λ (k : ℕ). front ++ map (λ end. k + end) read) same
    ∙ ap (λ (es : List ℕ). front ++ map (λ end. first + end) es) copied in
    subst (λ k. Divides 0 new k) (sym counted)
    (subst (λ (es : List ℕ). Divides 0 es (first + second)) (sym list) all)

-- the number of points with others behind
pub joined_count :
    {X Y : Type 0} (f : Y → X) (front : List X) (items read : List Y) (new : List X)
    → read ≡ items
    → new ≡ front ++ map f read
    → length new ≡ length front + length items
joined_count f front items read new copied appended =
    ap length appended
    ∙ length-append front (map f read)
    ∙ ap (λ k. length front + k) (length-map read f ∙ ap length copied)
