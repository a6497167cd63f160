-- Pairs that are read are those that a bisection finds: they rise, and have 6 bytes each.
use Rattle.std.proofs.Common.{◌≡◌, ℕ, ◌+◌, ◌*◌, ◌-◌, ◌/◌, ◌≤◌, List, length, ℤ, Option, Some, None, Ok, refl, sym, ap, ◌∙◌, arith}
use Rattle.std.specs.Prelude.{nat_lt, option_map}
use Rattle.std.specs.List.{range_with_len}
use Rattle.std.proofs.lemmas.Bool.{ltb-false}
use Rattle.std.proofs.lemmas.List.{length-map}
use Rattle.std.proofs.lemmas.List.FromFn.{length-range_with_len}
use Rattle.aat_bytes.specs.Faults.{fault_at}
use Rattle.aat_bytes.specs.Numbers.{be16, be32}
use Rattle.aat_bytes.specs.declared.error.FaultKind.TheVariants.{PastEnd}
use Rattle.aat_bytes.specs.declared.tag.Tag.{Tag}
use Rattle.aat_bytes.specs.facts.Parts.{ok_parts, passes}
use Rattle.aat_bytes.specs.declared.tags.TheConstants.{KERN, KERX}
use Rattle.aat_lookup.specs.Keys.{first_fall}
use Rattle.aat_kerning_tables.specs.Pairs.{kerning_of, key_of_pair, pair_key}
use Rattle.aat_bytes.specs.Bisection.{found_rows, is_found, row_found}
use Rattle.aat_read_lookup.specs.facts.FoundRows.{found_rows_have, found_rows_rise, keeps_few, rising_are_found}
use Rattle.aat_read_pairs.specs.KerningValues.{no_tuples}
use Rattle.aat_read_pairs.specs.ListedPairs.{found_pairs, kern_pairs_at, kerx_pairs_at, key_at, listed_pairs, pair_at, pair_place}
use Rattle.aat_read_pairs.specs.PairLaws.{ExtendedPairsAreBounded, ExtendedPairsAreThoseFound, ExtendedPairsRise, PairsAreBounded, PairsAreThoseFound, PairsRise, RisingPairsAreAll}
use Rattle.aat_read_pairs.specs.declared.values.Tuples.{Tuples}

-- pairs that are found rise
pub found_pairs_rise :
    (bytes : List ℕ) (tuples : Tuples) (place count : ℕ) → first_fall key_of_pair (found_pairs bytes tuples place count) ≡ None
found_pairs_rise bytes tuples place count = found_rows_rise key_of_pair (pair_at bytes tuples place) count

-- those that rise are found
pub rising_pairs_are_all : RisingPairsAreAll
rising_pairs_are_all bytes tuples place count none = rising_are_found key_of_pair (pair_at bytes tuples place) count none

-- pairs that are read are those that are found, and their rows stand inside
pub listed_parts :
    (table : Tag) (bytes : List ℕ) (tuples : Tuples) (place count : ℕ) (pairs : List (ℕ × ℕ × ℤ))
    → listed_pairs table bytes tuples place count ≡ Ok pairs
    → (found_pairs bytes tuples place count ≡ pairs) × (place + 6 * count ≤ length bytes)
unfolding listed_pairs
listed_parts table bytes tuples place count pairs is =
    let inside = passes (nat_lt (length bytes) (place + 6 * count)) (fault_at table PastEnd (pair_place place ((length bytes - place) / 6))) _ pairs is in
    (ok_parts (found_pairs bytes tuples place count) pairs inside.1, ltb-false (length bytes) (place + 6 * count) inside.0)

-- there are no more than rows
pub listed_few :
    (table : Tag) (bytes : List ℕ) (tuples : Tuples) (place count : ℕ) (pairs : List (ℕ × ℕ × ℤ))
    → listed_pairs table bytes tuples place count ≡ Ok pairs
    → (length pairs ≤ count) × (place + 6 * count ≤ length bytes)
listed_few table bytes tuples place count pairs is =
    let whole = listed_parts table bytes tuples place count pairs is in
    let rows : List ℕ = found_rows (key_at bytes place) count in
    let long : length (found_pairs bytes tuples place count) ≡ length rows = length-map rows (pair_at bytes tuples place) in
    let few = keeps_few (is_found (key_at bytes place) count) (range_with_len 0 count) in
    let all : length (range_with_len 0 count) ≡ count = length-range_with_len 0 count in
    (omega (arith, long, few, all, ap length whole.0), whole.1)

listed_rise :
    (table : Tag) (bytes : List ℕ) (tuples : Tuples) (place count : ℕ) (pairs : List (ℕ × ℕ × ℤ))
    → listed_pairs table bytes tuples place count ≡ Ok pairs → first_fall key_of_pair pairs ≡ None
listed_rise table bytes tuples place count pairs is =
    let whole = listed_parts table bytes tuples place count pairs is in
    ap (first_fall key_of_pair) (sym whole.0) ∙ found_pairs_rise bytes tuples place count

-- the value of two glyphs is that of the row that is found
value_of_row :
    (bytes : List ℕ) (tuples : Tuples) (place : ℕ) (o : Option ℕ)
    → option_map (λ (pair : ℕ × ℕ × ℤ). pair.2) (option_map (pair_at bytes tuples place) o)
    ≡ option_map (λ i. (pair_at bytes tuples place i).2) o
value_of_row bytes tuples place None = refl
value_of_row bytes tuples place (Some i) = refl

listed_found :
    (table : Tag) (bytes : List ℕ) (tuples : Tuples) (place count left right : ℕ) (pairs : List (ℕ × ℕ × ℤ))
    → listed_pairs table bytes tuples place count ≡ Ok pairs
    → kerning_of pairs left right
    ≡ option_map (λ i. (pair_at bytes tuples place i).2) (row_found (key_at bytes place) count (pair_key left right))
listed_found table bytes tuples place count left right pairs is =
    let whole = listed_parts table bytes tuples place count pairs is in
    let key : ℕ = pair_key left right in
    ap (λ (found : List (ℕ × ℕ × ℤ)). kerning_of found left right) (sym whole.0)
    ∙ ap (option_map (λ (pair : ℕ × ℕ × ℤ). pair.2)) (found_rows_have key_of_pair (pair_at bytes tuples place) count key)
    ∙ value_of_row bytes tuples place (row_found (key_at bytes place) count key)

pub kern_pairs_rise : PairsRise
unfolding kern_pairs_at
kern_pairs_rise bytes place pairs is =
    let inside = passes (nat_lt (length bytes) (place + 8)) (fault_at KERN PastEnd place) (listed_pairs KERN bytes no_tuples (place + 8) (be16 bytes place)) pairs is in
    listed_rise KERN bytes no_tuples (place + 8) (be16 bytes place) pairs inside.1

pub kerx_pairs_rise : ExtendedPairsRise
unfolding kerx_pairs_at
kerx_pairs_rise bytes start tuple_count pairs is =
    let tuples : Tuples = record { place = start; count = tuple_count } in
    let inside = passes (nat_lt (length bytes) (start + 28)) (fault_at KERX PastEnd start) (listed_pairs KERX bytes tuples (start + 28) (be32 bytes (start + 12))) pairs is in
    listed_rise KERX bytes tuples (start + 28) (be32 bytes (start + 12)) pairs inside.1

pub kern_pairs_are_those_found : PairsAreThoseFound
unfolding kern_pairs_at
kern_pairs_are_those_found bytes place left right pairs is =
    let inside = passes (nat_lt (length bytes) (place + 8)) (fault_at KERN PastEnd place) (listed_pairs KERN bytes no_tuples (place + 8) (be16 bytes place)) pairs is in
    listed_found KERN bytes no_tuples (place + 8) (be16 bytes place) left right pairs inside.1

pub kerx_pairs_are_those_found : ExtendedPairsAreThoseFound
unfolding kerx_pairs_at
kerx_pairs_are_those_found bytes start tuple_count left right pairs is =
    let tuples : Tuples = record { place = start; count = tuple_count } in
    let inside = passes (nat_lt (length bytes) (start + 28)) (fault_at KERX PastEnd start) (listed_pairs KERX bytes tuples (start + 28) (be32 bytes (start + 12))) pairs is in
    listed_found KERX bytes tuples (start + 28) (be32 bytes (start + 12)) left right pairs inside.1

listed_bounded :
    (table : Tag) (bytes : List ℕ) (tuples : Tuples) (place count : ℕ) (pairs : List (ℕ × ℕ × ℤ))
    → listed_pairs table bytes tuples place count ≡ Ok pairs → 6 * length pairs ≤ length bytes - place
listed_bounded table bytes tuples place count pairs is =
    let few = listed_few table bytes tuples place count pairs is in omega (arith, few.0, few.1)

pub kern_pairs_bounded : PairsAreBounded
unfolding kern_pairs_at
kern_pairs_bounded bytes place pairs is =
    let inside = passes (nat_lt (length bytes) (place + 8)) (fault_at KERN PastEnd place) (listed_pairs KERN bytes no_tuples (place + 8) (be16 bytes place)) pairs is in
    let few = listed_bounded KERN bytes no_tuples (place + 8) (be16 bytes place) pairs inside.1 in
    omega (arith, few)

pub kerx_pairs_bounded : ExtendedPairsAreBounded
unfolding kerx_pairs_at
kerx_pairs_bounded bytes start tuple_count pairs is =
    let tuples : Tuples = record { place = start; count = tuple_count } in
    let inside = passes (nat_lt (length bytes) (start + 28)) (fault_at KERX PastEnd start) (listed_pairs KERX bytes tuples (start + 28) (be32 bytes (start + 12))) pairs is in
    let few = listed_bounded KERX bytes tuples (start + 28) (be32 bytes (start + 12)) pairs inside.1 in
    omega (arith, few)
