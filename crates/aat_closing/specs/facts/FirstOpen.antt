-- Where the clusters are in order along the line, an open cluster's first glyph is the first whose cluster is not lower,
-- and so without the flag; where they fall, its last glyph is the last such one.
use Rattle.std.proofs.Common.{◌≡◌, ℕ, zero, suc, ◌-◌, ◌<◌, ◌≤◌, Bool, true, false, cond, List, [], ◌∷◌, length, nat_le, reverse, Some, refl, arith}
use Rattle.std.proofs.lemmas.Bool.Decides.{nat_tests}
use Rattle.std.proofs.lemmas.List.{get_or-reverse, length-reverse}
use Rattle.std.proofs.lemmas.List.Sorted.{IsPermutation-reverse, IsPermutation-sym}
use Rattle.std.proofs.lemmas.Option.{same_Some}
use Rattle.std.specs.Prelude.{find}
use Rattle.aat_buffer.specs.Clusters.{IsFallingLine, IsRisingLine}
use Rattle.aat_buffer.specs.Marks.{cluster_at}
use Rattle.aat_glyph.specs.declared.glyph.hb_glyph_info_t.{hb_glyph_info_t}
use Rattle.aat_cut_kinds.specs.Greater.{IsUnflagged}
use Rattle.aat_cut_kinds.specs.Open.{is_open}
use Rattle.aat_cut_kinds.specs.facts.Opens.{IsOpenLine, along, opened, permuted_open}
use Rattle.aat_cut_kinds.specs.Cuts.{IsUnflaggedDownTo, IsUnflaggedFrom}

-- the line behind a glyph of a lower cluster
open_behind : (c : ℕ) (x : hb_glyph_info_t) (xs : List hb_glyph_info_t) → x.cluster < c → IsOpenLine c (x ∷ xs) → IsOpenLine c xs
open_behind c x xs low o = by_place o.place o.inside o.at
  where
    by_place : (p : ℕ) → p < length (x ∷ xs) → cluster_at (x ∷ xs) p ≡ c → IsOpenLine c xs
    by_place zero inside at = absurd (omega (arith, low, at))
    by_place (suc p) inside at = record { place = p; inside = omega (arith, inside); at = at; unflagged = λ k within same. o.unflagged (suc k) (omega (arith, within)) same }

first_unflagged : (c : ℕ) (line : List hb_glyph_info_t) → IsRisingLine line → IsOpenLine c line → IsUnflaggedFrom c line
first_unflagged c [] rises o g is = absurd (let within = o.inside in omega (arith, within))
first_unflagged c (x ∷ xs) rises o g is =
    by_test (nat_le c x.cluster) refl is
    (λ below there. first_unflagged c xs (λ n m d before within. rises (suc n) (suc m) d (omega (arith, before)) (omega (arith, within))) (open_behind c x xs below o) g there)
  where
    by_test : (t : Bool) → nat_le c x.cluster ≡ t → cond t (Some x) (find (λ (h : hb_glyph_info_t). nat_le c h.cluster) xs) ≡ Some g
        → (x.cluster < c → find (λ (h : hb_glyph_info_t). nat_le c h.cluster) xs ≡ Some g → IsUnflagged g) → IsUnflagged g
    by_test true high is more =
        let within = o.inside in
        let at = o.at in
        let low : x.cluster ≤ cluster_at (x ∷ xs) o.place = along (λ n k. n ≤ k) (λ n. omega arith) (x ∷ xs) rises 0 o.place (omega arith) within in
        let above : c ≤ x.cluster = grind (arith, nat_tests, high) in
        let same : x ≡ g = same_Some x g is in
        rw (← same) (o.unflagged 0 (omega arith) (omega (arith, low, at, above)))
    by_test false high is more =
        let below : x.cluster < c = grind (arith, nat_tests, high) in
        more below is

pub unflagged_from : (c : ℕ) (line : List hb_glyph_info_t) → IsRisingLine line → is_open c line ≡ true → IsUnflaggedFrom c line
unflagged_from c line rises is = first_unflagged c line rises (opened c line is)

-- a line that falls rises turned round
pub rising_turned : (line : List hb_glyph_info_t) → IsFallingLine line → IsRisingLine (reverse line)
rising_turned line falls n m d before within =
    let long = length-reverse line in
    let first : n < length line = omega (arith, before, within, long) in
    let last : m < length line = omega (arith, within, long) in
    rw (get_or-reverse line n d first, get_or-reverse line m d last) (falls (length line - 1 - m) (length line - 1 - n) d (omega (arith, before, last)) (omega (arith, first)))

pub falling_turned : (line : List hb_glyph_info_t) → IsRisingLine line → IsFallingLine (reverse line)
falling_turned line rises n m d before within =
    let long = length-reverse line in
    let first : n < length line = omega (arith, before, within, long) in
    let last : m < length line = omega (arith, within, long) in
    rw (get_or-reverse line n d first, get_or-reverse line m d last) (rises (length line - 1 - m) (length line - 1 - n) d (omega (arith, before, last)) (omega (arith, first)))

pub open_turned : (c : ℕ) (line : List hb_glyph_info_t) → is_open c line ≡ true → is_open c (reverse line) ≡ true
open_turned c line is = permuted_open c (reverse line) line (IsPermutation-sym line (reverse line) (IsPermutation-reverse line)) is

pub unflagged_down_to : (c : ℕ) (line : List hb_glyph_info_t) → IsFallingLine line → is_open c line ≡ true → IsUnflaggedDownTo c line
unflagged_down_to c line falls is = unflagged_from c (reverse line) (rising_turned line falls) (open_turned c line is)
