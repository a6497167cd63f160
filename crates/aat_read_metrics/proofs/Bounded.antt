-- A table that is read takes no more memory than its bounds say.
use Rattle.std.proofs.Common.{◌≡◌, arith, cond, refl, subst, ℕ, zero, suc, ◌+◌, ◌*◌, ◌≤◌, ◌==◌, Bool, true, false, List, length, length-append, nat_lt, Option, Some, None}
use Rattle.std.specs.Prelude.{Ok, Err, Result, option_map}
use Rattle.std.specs.List.{flat_map, range_with_len}
use Rattle.std.specs.Option.{option_or}
use Rattle.std.proofs.lemmas.Bool.Decides.{nat_tests}
use Rattle.std.proofs.lemmas.List.FromFn.{length-map-range_with_len}
use Rattle.std.proofs.Math.Nat.{suc-mul}
use Rattle.aat_bytes.specs.Numbers.{be16, be32, signed16}
use Rattle.aat_bytes.specs.declared.error.Fault.{Fault}
use Rattle.aat_glyph.specs.placement.Tracks.{TrackingTable}
use Rattle.aat_read_metrics.specs.Trak.{data_at, data_fault, first_outside, header_fault, lists_fault, part_at, part_fault, past, reaches, signed32, size_count, sizes_place, track_at, track_count, track_values, trak_fault, values_place}
use Rattle.aat_read_metrics.specs.TrakLaws.{TraksAreBounded, data_size, part_size, table_size}

-- lists of one length, one for each number of a range, with 8 for each
lists_of :
    {X : Type 0} (f : ℕ → List X) (m : ℕ) → ((k : ℕ) → length (f k) ≡ m) → (a n : ℕ)
    → 8 * n + 2 * length (flat_map f (range_with_len a n)) ≡ n * (8 + 2 * m)
lists_of f m each a zero = omega arith
lists_of f m each a (suc n) =
    let here = each a in
    let rest = lists_of f m each (a + 1) n in
    let both = length-append (f a) (flat_map f (range_with_len (a + 1) n)) in
    let more = suc-mul n (8 + 2 * m) in
    omega (arith, here, rest, both, more)

-- where there is none of two
none_first : {X : Type 0} (o p : Option X) → option_or o p ≡ None → o ≡ None
none_first None p e = refl
none_first (Some x) p e = cc

none_second : {X : Type 0} (o p : Option X) → option_or o p ≡ None → p ≡ None
none_second None p e = e
none_second (Some x) p e = cc

-- where two tests are passed, and a third is not
passed :
    {X : Type 0} (a b c : Bool) (o : Option X) (x y z : X) → cond a (cond b (cond c (Some x) o) (Some y)) (Some z) ≡ None
    → (b ≡ true) × (c ≡ false)
passed true true true o x y z e = cc
passed true true false o x y z e = (refl, refl)
passed true false c o x y z e = cc
passed false b c o x y z e = cc

there : {X : Type 0} (a : Bool) (o : Option X) (x : X) → cond a o (Some x) ≡ None → o ≡ None
there true o x e = e
there false o x e = cc

module _ (bytes : List ℕ) where
  data_bounded : (at : ℕ) → data_fault bytes at ≡ None → data_size (data_at bytes at) ≤ 2 * length bytes
  data_bounded at none =
      let n = track_count bytes at in
      let m = size_count bytes at in
      let lists = there (reaches bytes at 8) (lists_fault bytes at n m) (past at) none in
      let both = passed (reaches bytes (at + 8) (8 * n)) (reaches bytes (sizes_place bytes at) (4 * m))
      (nat_lt (length bytes) (n * (8 + 2 * m)))
      (option_map (λ k. past (values_place bytes at k)) (first_outside bytes at n (2 * m))) (past at)
      (past (sizes_place bytes at)) _ lists in
      let sizes : sizes_place bytes at + 4 * m ≤ length bytes = grind (arith, nat_tests, both.0) in
      let values : n * (8 + 2 * m) ≤ length bytes = grind (arith, nat_tests, both.1) in
      let few = length-map-range_with_len (λ s. signed32 (be32 bytes (sizes_place bytes at + 4 * s))) 0 m in
      let many = length-map-range_with_len (track_at bytes at) 0 n in
      let each = lists_of (track_values bytes at) m
      (λ k. length-map-range_with_len (λ s. signed16 (be16 bytes (values_place bytes at k + 2 * s))) 0 m) 0 n in
      omega (arith, sizes, values, few, many, each)

  part_bounded : (at : ℕ) → part_fault bytes at ≡ None → part_size (part_at bytes at) ≤ 2 * length bytes
  part_bounded at none = by (at == 0) none
    where
      by : (t : Bool) → cond t None (data_fault bytes at) ≡ None
          → part_size (cond t None (Some (data_at bytes at))) ≤ 2 * length bytes
      by true none = omega arith
      by false none = data_bounded at none

  bounded :
      (o : Option Fault) (t whole : TrackingTable) → (o ≡ None → table_size whole ≤ 4 * length bytes)
      → ◌≡◌ {A = Result TrackingTable Fault} (elim o [ None ↦ Ok whole | Some fault ↦ Err fault ]) (Ok t)
      → table_size t ≤ 4 * length bytes
  bounded None t whole low is =
      let same : whole ≡ t = cc in
      subst (λ u. table_size u ≤ 4 * length bytes) same (low refl)
  bounded (Some fault) t whole low is = cc

pub traks_are_bounded : TraksAreBounded
traks_are_bounded bytes t is =
    bounded bytes (trak_fault bytes) t (record { rows = part_at bytes (be16 bytes 6); columns = part_at bytes (be16 bytes 8) })
    (λ none.
    let rest = none_second (header_fault bytes) (option_or (part_fault bytes (be16 bytes 6)) (part_fault bytes (be16 bytes 8))) none in
    let rows = part_bounded bytes (be16 bytes 6) (none_first (part_fault bytes (be16 bytes 6)) (part_fault bytes (be16 bytes 8)) rest) in
    let columns = part_bounded bytes (be16 bytes 8) (none_second (part_fault bytes (be16 bytes 6)) (part_fault bytes (be16 bytes 8)) rest) in
    omega (arith, rows, columns)) is
