-- What the machines of the extended kerning table weigh that are read.
use Rattle.std.proofs.Common.{◌≡◌, ℕ, ◌+◌, ◌-◌, ◌*◌, ◌≤◌, List, length, Result, Ok, Err, refl, subst, arith}
use Rattle.std.specs.Prelude.{nat_lt}
use Rattle.std.proofs.Math.Nat.{mul-div-le}
use Rattle.std.proofs.lemmas.List.FromFn.{length-map-range_with_len}
use Rattle.aat_bytes.specs.Numbers.{be16, signed16}
use Rattle.aat_bytes.specs.declared.error.Fault.{Fault}
use Rattle.aat_bytes.specs.facts.Parts.{ok_parts, parts, passes}
use Rattle.aat_bytes.specs.declared.tags.TheConstants.{KERX}
use Rattle.aat_kerning_tables.specs.KerningTables.{KerxAnchorTables, KerxStackTables}
use Rattle.aat_read_lookup.proofs.Extents.{sizes_have_bytes}
use Rattle.aat_read_lookup.proofs.SizeBounds.{bytes_are_inside, lookups_are_bounded}
use Rattle.aat_read_lookup.specs.Sizes.{lookup_size_at}
use Rattle.aat_read_machine.proofs.Bounded.{machine_fits}
use Rattle.aat_read_machine.specs.Entries.{action_at, stack_action_at}
use Rattle.aat_read_machine.specs.Kinds.{list_place}
use Rattle.aat_read_machine.specs.Lists.{count_from}
use Rattle.aat_read_machine.specs.Machine.{machine_at}
use Rattle.aat_read_extended.specs.kerx.KerxLaws.{MachinesAreBounded}
use Rattle.aat_read_extended.specs.kerx.Machines.{anchor_tables_at, pairs_place, point_pairs_from, stack_tables_at, values_from}
use Rattle.aat_read_extended.specs.kerx.Weights.{anchor_weight, classes_weight, lookup_weight, stack_weight}

-- the values of a lookup take at most 7 bytes for each byte from its place on
lookup_by : (bytes : List ℕ) (place glyph_count : ℕ) (r : Result ℕ Fault)
    → lookup_size_at KERX bytes place glyph_count ≡ r
    → elim r [ Ok size ↦ size | Err fault ↦ 0 ] ≤ 7 * (length bytes - place)
lookup_by bytes place glyph_count (Ok size) is =
    let read = sizes_have_bytes KERX bytes place glyph_count size is in
    let light = lookups_are_bounded KERX bytes place glyph_count read.0 size read.1 is in
    let within = bytes_are_inside KERX bytes place glyph_count read.0 read.1 in
    omega (arith, light, within)
lookup_by bytes place glyph_count (Err fault) is = omega arith

pub lookup_light : (bytes : List ℕ) (place glyph_count : ℕ)
    → lookup_weight bytes place glyph_count ≤ 7 * (length bytes - place)
lookup_light bytes place glyph_count =
    lookup_by bytes place glyph_count (lookup_size_at KERX bytes place glyph_count) refl

-- so do the classes of a state table
classes_light : (bytes : List ℕ) (place glyph_count : ℕ)
    → classes_weight bytes place glyph_count ≤ 7 * (length bytes - place)
classes_light bytes place glyph_count =
    let at = list_place bytes place 4 in
    let light = lookup_light bytes at glyph_count in
    omega (arith, light)

-- a list takes no more than the bytes from its place on
pub list_light : (bytes : List ℕ) (at size : ℕ) → size * count_from bytes at size ≤ length bytes - at
list_light bytes at size = mul-div-le (length bytes - at) size

pub stack_light : (bytes : List ℕ) (place glyph_count : ℕ) (t : KerxStackTables)
    → stack_tables_at bytes place glyph_count ≡ Ok t → stack_weight bytes place glyph_count t ≤ 17 * (length bytes - place)
unfolding stack_tables_at
stack_light bytes place glyph_count t is =
    let whole = passes (nat_lt (length bytes) (place + 20)) _ _ t is in
    let state = parts (machine_at 2 stack_action_at KERX bytes place glyph_count) _ t whole.1 in
    let at = list_place bytes place 16 in
    let tables : KerxStackTables = record { state_table = state.0; values = values_from bytes at } in
    let same : tables ≡ t = ok_parts tables t state.2 in
    let rules = machine_fits stack_action_at 2 KERX bytes place glyph_count state.0 state.1 in
    let values = length-map-range_with_len (λ i. signed16 (be16 bytes (at + 2 * i))) 0 (count_from bytes at 2) in
    let list = list_light bytes at 2 in
    let classes = classes_light bytes place glyph_count in
    let light : stack_weight bytes place glyph_count tables ≤ 17 * (length bytes - place) =
    omega (arith, rules, values, list, classes) in
    subst (λ (k : KerxStackTables). stack_weight bytes place glyph_count k ≤ 17 * (length bytes - place)) same light

pub anchor_light : (bytes : List ℕ) (place glyph_count : ℕ) (t : KerxAnchorTables)
    → anchor_tables_at bytes place glyph_count ≡ Ok t
    → anchor_weight bytes place glyph_count t ≤ 17 * (length bytes - place)
anchor_light bytes place glyph_count t is =
    let state = parts (machine_at 2 action_at KERX bytes place glyph_count) _ t is in
    let at = pairs_place bytes place in
    let tables : KerxAnchorTables = record { state_table = state.0; anchor_points = point_pairs_from bytes at } in
    let same : tables ≡ t = ok_parts tables t state.2 in
    let rules = machine_fits action_at 2 KERX bytes place glyph_count state.0 state.1 in
    let pairs : length (point_pairs_from bytes at) ≡ count_from bytes at 4 =
    length-map-range_with_len _ 0 (count_from bytes at 4) in
    let list = list_light bytes at 4 in
    let classes = classes_light bytes place glyph_count in
    let light : anchor_weight bytes place glyph_count tables ≤ 17 * (length bytes - place) =
    omega (arith, rules, pairs, list, classes) in
    subst (λ (k : KerxAnchorTables). anchor_weight bytes place glyph_count k ≤ 17 * (length bytes - place)) same light

-- the law
pub machines_bounded : MachinesAreBounded
machines_bounded = (stack_light, anchor_light)
