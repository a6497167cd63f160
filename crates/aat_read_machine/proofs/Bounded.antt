-- What subtables weigh that are read.
use Rattle.std.proofs.Common.{◌≡◌, ℕ, zero, suc, ◌+◌, ◌-◌, ◌*◌, ◌/◌, ◌≤◌, List, [], ◌∷◌, length, map, Bool, true, false, cond, Option, Some, None, Result, Ok, Err, refl, sym, ap, ◌∙◌, subst, arith}
use Rattle.std.specs.List.{range_with_len}
use Rattle.std.specs.Prelude.{nat_lt, ◌==◌}
use Rattle.std.proofs.Math.Nat.{mul-div-le}
use Rattle.std.proofs.lemmas.Bool.{leb-true, ltb-false}
use Rattle.std.proofs.lemmas.Bool.Decides.{nat_tests}
use Rattle.std.proofs.lemmas.List.{length-drop}
use Rattle.std.proofs.lemmas.List.FromFn.{length-map-range_with_len}
use Rattle.aat_bytes.specs.Numbers.{be16, be32, u32_at}
use Rattle.aat_bytes.specs.declared.error.Fault.{Fault}
use Rattle.aat_bytes.specs.declared.tag.Tag.{Tag}
use Rattle.aat_machine_tables.specs.Subtables.{ContextualTables, InsertionTables, LigatureTables}
use Rattle.aat_machine_tables.specs.Table.{TableValue, table_value}
use Rattle.aat_machine_tables.specs.declared.morx.SubtableKind.{SubtableKind}
use Rattle.aat_machine_tables.specs.declared.morx.SubtableKind.TheVariants.{Rearrangement, Contextual, Ligature, NonContextual, Insertion}
use Rattle.aat_machine_tables.specs.declared.state_table.GenericStateEntry.{GenericStateEntry}
use Rattle.aat_read_lookup.proofs.Extents.{array_within, bytes_within, extent, sizes_have_bytes}
use Rattle.aat_read_lookup.proofs.SizeBounds.{bytes_are_inside, lookups_are_bounded}
use Rattle.aat_read_lookup.specs.Lookups.{lookup_at}
use Rattle.aat_read_lookup.specs.Sizes.{lookup_bytes_at, lookup_size_at}
use Rattle.aat_read_machine.specs.Contextual.{contextual_tables, contextual_tables_at, each_of, listed_lookup, lookups_within}
use Rattle.aat_read_machine.specs.Entries.{contextual_at, insertion_at}
use Rattle.aat_read_machine.specs.Kinds.{insertion_tables_at, ligature_at, list_at, list_place}
use Rattle.aat_read_machine.specs.Lists.{count_from, glyphs_from, numbers16, numbers32}
use Rattle.aat_read_machine.specs.Lookups.{lookup_count}
use Rattle.aat_read_machine.specs.Machine.{machine_at, with_classes}
use Rattle.aat_read_machine.specs.MachineLaws.{SubtablesAreBounded}
use Rattle.aat_read_machine.specs.Room.{lookup_cost, lookup_past_room, lookup_size, lookups_cost, room_left}
use Rattle.aat_read_machine.specs.StateArray.{StateArray, cells_of, class_place, has_index, missing_entry, missing_index, rule_of, rules_of, state_array_at, state_count, states_of}
use Rattle.aat_read_machine.specs.SubtableKinds.{as_kind, subtable_kind_at}
use Rattle.aat_read_machine.specs.Weights.{all_listed_weight, classes_weight, contextual_weight, insertion_weight, kind_weight, ligature_weight, listed_weight, machine_weight, values_weight}
use Rattle.aat_read_machine.specs.declared.weights.TheConstants.{PLAIN_RULE_SIZE}
use Rattle.aat_read_machine.proofs.Counting.{none_missing_index}
use Rattle.aat_read_machine.proofs.Headers.{header_parts}
use Rattle.aat_bytes.specs.facts.Parts.{none_of, ok_parts, parts, passes}
use Rattle.aat_bytes.specs.facts.Ranges.{none_each, sum_more}
use Rattle.aat_bytes.specs.facts.Longs.{long_is}
use Rattle.aat_bytes.specs.declared.tags.TheConstants.{MORX}

-- cells whose indexes are there stand in the bytes
indexed_fit : (m : StateArray) (n : ℕ) → missing_index m n ≡ None → 2 * n ≤ length m.bytes
unfolding has_index
indexed_fit m zero none = omega arith
indexed_fit m (suc n) none =
    let last : has_index m n ≡ true = none_missing_index m (suc n) none n (omega arith) in
    let inside : m.states + 2 * n + 2 ≤ length m.bytes = leb-true _ _ last in
    omega (arith, inside)

states_fit : (m : StateArray) (count : ℕ) → states_of m ≡ Ok count → 2 * (count * m.class_count) ≤ length m.bytes
unfolding states_of
states_fit m count is =
    let all = none_of (missing_index m (state_count m * m.class_count)) _ _ count is in
    let same : state_count m ≡ count = ok_parts _ _ all.1 in
    subst (λ (n : ℕ). 2 * (n * m.class_count) ≤ length m.bytes) same (indexed_fit m _ all.0)

pub cells_fit : (m : StateArray) (cells : ℕ) → cells_of m ≡ Ok cells → 2 * cells ≤ length m.bytes
unfolding cells_of
cells_fit m cells is =
    let states = parts (states_of m) _ cells is in
    let all = none_of (missing_entry m (states.0 * m.class_count)) _ _ cells states.2 in
    let same : states.0 * m.class_count ≡ cells = ok_parts _ _ all.1 in
    let fit = states_fit m states.0 states.1 in
    omega (arith, same, fit)

-- a state table has the bytes from its place on
bytes_behind : (table : Tag) (bytes : List ℕ) (place size : ℕ) (m : StateArray)
    → state_array_at table bytes place size ≡ Ok m → length m.bytes ≡ length bytes - place
bytes_behind table bytes place size m is =
    let header = header_parts table bytes place size m is in
    ap (λ (a : StateArray). length a.bytes) (sym header.is) ∙ length-drop place bytes

module _ {T : Type 0} (extra_at : List ℕ → ℕ → T) where
  rules_are_cells : (m : StateArray) (cells : ℕ)
      (classes : Result (List (ℕ × ℕ)) Fault) (t : TableValue (GenericStateEntry T))
      → with_classes extra_at m cells classes ≡ Ok t → length t.rules ≡ cells
  unfolding with_classes
  rules_are_cells m cells classes t is =
      let pairs = parts classes _ t is in
      let same : table_value m.class_count pairs.0 (rules_of extra_at m cells) ≡ t = ok_parts _ t pairs.2 in
      sym (ap (λ (v : TableValue (GenericStateEntry T)). length v.rules) same)
      ∙ length-map-range_with_len (rule_of extra_at m) 0 cells

  -- the state table of a machine
  machine_array : (size : ℕ) (table : Tag) (bytes : List ℕ) (place glyph_count : ℕ) (t : TableValue (GenericStateEntry T))
      → machine_at size extra_at table bytes place glyph_count ≡ Ok t
      → (m : StateArray) × (state_array_at table bytes place size ≡ Ok m)
  unfolding machine_at
  machine_array size table bytes place glyph_count t is =
      let array = parts (state_array_at table bytes place size) _ t is in (array.0, array.1)

  -- a machine has a rule for two bytes
  pub machine_fits : (size : ℕ) (table : Tag) (bytes : List ℕ) (place glyph_count : ℕ) (t : TableValue (GenericStateEntry T))
      → machine_at size extra_at table bytes place glyph_count ≡ Ok t → 2 * length t.rules ≤ length bytes - place
  unfolding machine_at
  machine_fits size table bytes place glyph_count t is =
      let array = parts (state_array_at table bytes place size) _ t is in
      let cells = parts (cells_of array.0) _ t array.2 in
      let rules = rules_are_cells array.0 cells.0 _ t cells.2 in
      let fit = cells_fit array.0 cells.0 cells.1 in
      let behind = bytes_behind table bytes place size array.0 array.1 in
      omega (arith, rules, fit, behind)

each_counted : {X : Type 0} (rs : List (Result X Fault)) (xs : List X) → each_of rs ≡ Ok xs → length xs ≡ length rs
each_counted [] xs is = ap length (sym (ok_parts [] xs is))
each_counted (r ∷ rs) xs is =
    let one = parts r _ xs is in
    let more = parts (each_of rs) _ xs one.2 in
    let rest = each_counted rs more.0 more.1 in
    sym (ap length (ok_parts _ xs more.2)) ∙ ap (λ n. suc n) rest

-- the values of a lookup take at most 7 bytes for each byte that it is read from
values_by : (bytes : List ℕ) (place glyph_count most : ℕ) (r : Result ℕ Fault)
    → ((count : ℕ) → lookup_bytes_at MORX bytes place glyph_count ≡ Ok count → count ≤ most)
    → lookup_size_at MORX bytes place glyph_count ≡ r → elim r [ Ok size ↦ size | Err fault ↦ 0 ] ≤ 7 * most
values_by bytes place glyph_count most (Ok size) few is =
    let read = sizes_have_bytes MORX bytes place glyph_count size is in
    let light = lookups_are_bounded MORX bytes place glyph_count read.0 size read.1 is in
    let within = few read.0 read.1 in
    omega (arith, light, within)
values_by bytes place glyph_count most (Err fault) few is = omega arith

values_light : (bytes : List ℕ) (place glyph_count most : ℕ)
    → ((count : ℕ) → lookup_bytes_at MORX bytes place glyph_count ≡ Ok count → count ≤ most)
    → values_weight bytes place glyph_count ≤ 7 * most
values_light bytes place glyph_count most few =
    values_by bytes place glyph_count most (lookup_size_at MORX bytes place glyph_count) few refl

-- so they do for each byte that it asks for
asked_light : (bytes : List ℕ) (place glyph_count : ℕ)
    → values_weight bytes place glyph_count ≤ 7 * lookup_size bytes place glyph_count
unfolding lookup_size
asked_light bytes place glyph_count =
    values_light bytes place glyph_count (extent bytes place glyph_count)
    (λ count read. bytes_within MORX bytes place glyph_count count read)

-- a lookup of a list has room for its values
module _ (bytes : List ℕ) (list glyph_count : ℕ) where
  listed_by : (offset : Option ℕ)
      → elim offset [ None ↦ 0 | Some o ↦ values_weight bytes (list + o) glyph_count ] + 96
      ≤ 12 * elim offset [ None ↦ 8 | Some o ↦ 8 + lookup_size bytes (list + o) glyph_count ]
  listed_by None = omega arith
  listed_by (Some o) = let light = asked_light bytes (list + o) glyph_count in omega (arith, light)

listed_light : (bytes : List ℕ) (list glyph_count i : ℕ)
    → listed_weight bytes list glyph_count i + 96 ≤ 12 * lookup_cost bytes list glyph_count i
unfolding lookup_cost
listed_light bytes list glyph_count i = listed_by bytes list glyph_count (u32_at bytes (list + 4 * i))

all_listed_light : (bytes : List ℕ) (list glyph_count count : ℕ)
    → all_listed_weight bytes list glyph_count count + 96 * count ≤ 12 * lookups_cost bytes list glyph_count count
all_listed_light bytes list glyph_count zero = omega arith
all_listed_light bytes list glyph_count (suc n) =
    let more = sum_more (lookup_cost bytes list glyph_count) n in
    let weights = sum_more (listed_weight bytes list glyph_count) n in
    let here = listed_light bytes list glyph_count n in
    let before = all_listed_light bytes list glyph_count n in
    let same : n + 1 ≡ suc n = omega arith in
    subst (λ (k : ℕ). all_listed_weight bytes list glyph_count k + 96 * k ≤ 12 * lookups_cost bytes list glyph_count k) same
    (omega (arith, more, weights, here, before))

-- and for each byte from its place on
inside_light : (bytes : List ℕ) (place glyph_count : ℕ)
    → values_weight bytes place glyph_count ≤ 7 * (length bytes - place)
inside_light bytes place glyph_count =
    values_light bytes place glyph_count (length bytes - place)
    (λ count read. bytes_are_inside MORX bytes place glyph_count count read)

-- a class table that starts with the state table has format 0, since the number of classes has 16 bits
first_light : (bytes : List ℕ) (place glyph_count : ℕ) → be32 bytes place ≤ 65535
    → values_weight bytes place glyph_count ≤ 7 * (length bytes - place - 2)
first_light bytes place glyph_count few =
    let whole = long_is bytes place in
    let format : be16 bytes place ≡ 0 = omega (arith, whole, few) in
    values_light bytes place glyph_count (length bytes - place - 2)
    (λ count read. array_within MORX bytes place glyph_count count format read)

classes_by : (bytes : List ℕ) (place glyph_count offset : ℕ) → be32 bytes place ≤ 65535
    → values_weight bytes (place + offset) glyph_count ≤ 7 * (length bytes - place - 1)
classes_by bytes place glyph_count zero few =
    let same : place ≡ place + 0 = omega arith in
    let light = first_light bytes place glyph_count few in
    subst (λ (p : ℕ). values_weight bytes p glyph_count ≤ 7 * (length bytes - place - 1)) same (omega (arith, light))
classes_by bytes place glyph_count (suc offset) few =
    let light = inside_light bytes (place + suc offset) glyph_count in omega (arith, light)

-- the classes of a state table that is read take less than 7 bytes for each byte from its place on
classes_light : (bytes : List ℕ) (place size glyph_count : ℕ) (m : StateArray)
    → state_array_at MORX bytes place size ≡ Ok m
    → (place + 16 ≤ length bytes) × (classes_weight bytes place glyph_count ≤ 7 * (length bytes - place - 1))
classes_light bytes place size glyph_count m is =
    let header = header_parts MORX bytes place size m is in
    (header.inside, classes_by bytes place glyph_count (be32 bytes (place + 4)) header.narrow)

-- lookups that pass no room have it
costs_fit : (bytes : List ℕ) (list glyph_count room count : ℕ)
    → lookup_past_room bytes list glyph_count room count ≡ None → lookups_cost bytes list glyph_count count ≤ room
costs_fit bytes list glyph_count room zero none = omega arith
costs_fit bytes list glyph_count room (suc n) none =
    let cost = lookups_cost bytes list glyph_count in
    let last = none_each (λ i. nat_lt room (cost (i + 1))) 0 (suc n) none n (omega arith) (omega arith) in
    let within : cost (n + 1) ≤ room = ltb-false room (cost (n + 1)) last in
    let same : n + 1 ≡ suc n = omega arith in
    subst (λ (k : ℕ). cost k ≤ room) same within

lookups_fit : (bytes : List ℕ) (list glyph_count room count : ℕ) (lookups : List (List (ℕ × ℕ)))
    → lookups_within bytes list glyph_count room count ≡ Ok lookups
    → (length lookups ≡ count) × (lookups_cost bytes list glyph_count count ≤ room)
unfolding lookups_within
lookups_fit bytes list glyph_count room count lookups is =
    let all = none_of (lookup_past_room bytes list glyph_count room count) _ _ lookups is in
    let counted = each_counted (map (listed_lookup bytes list glyph_count) (range_with_len 0 count)) lookups all.1 in
    let same = length-map-range_with_len (listed_lookup bytes list glyph_count) 0 count in
    (counted ∙ same, costs_fit bytes list glyph_count room count all.0)

contextual_light : (bytes : List ℕ) (list glyph_count : ℕ) (m : StateArray) (cells : ℕ) (t : ContextualTables)
    → 2 * cells ≤ length m.bytes → contextual_tables bytes list glyph_count m cells ≡ Ok t
    → contextual_weight t + all_listed_weight bytes list glyph_count (length t.lookups) + 2 * cells ≤ 12 * length m.bytes
unfolding contextual_tables
contextual_light bytes list glyph_count m cells t inside is =
    let count = lookup_count m cells in
    let state = parts (with_classes contextual_at m cells (lookup_at MORX bytes (class_place m) glyph_count)) _ t is in
    let lookups = parts (lookups_within bytes list glyph_count (room_left m cells) count) _ t state.2 in
    let tables : ContextualTables = record { state = state.0; lookups = lookups.0 } in
    let same : tables ≡ t = ok_parts tables t lookups.2 in
    let rules = rules_are_cells contextual_at m cells _ state.0 state.1 in
    let fit = lookups_fit bytes list glyph_count (room_left m cells) count lookups.0 lookups.1 in
    let long = fit.0 in
    let within = fit.1 in
    let listed = all_listed_light bytes list glyph_count count in
    let values : all_listed_weight bytes list glyph_count (length lookups.0) ≡ all_listed_weight bytes list glyph_count count =
    ap (all_listed_weight bytes list glyph_count) long in
    let light : contextual_weight tables + all_listed_weight bytes list glyph_count (length tables.lookups) + 2 * cells
    ≤ 12 * length m.bytes =
    omega (arith, rules, long, within, listed, values, inside) in
    subst (λ (k : ContextualTables). contextual_weight k + all_listed_weight bytes list glyph_count (length k.lookups) + 2 * cells
    ≤ 12 * length m.bytes) same light

-- without cells there are no rules, and no lookup is named
contextual_none : (bytes : List ℕ) (list glyph_count : ℕ) (m : StateArray) (t : ContextualTables)
    → contextual_tables bytes list glyph_count m 0 ≡ Ok t
    → contextual_weight t + all_listed_weight bytes list glyph_count (length t.lookups) ≤ 0
unfolding contextual_tables
contextual_none bytes list glyph_count m t is =
    let state = parts (with_classes contextual_at m 0 (lookup_at MORX bytes (class_place m) glyph_count)) _ t is in
    let lookups = parts (lookups_within bytes list glyph_count (room_left m 0) 0) _ t state.2 in
    let tables : ContextualTables = record { state = state.0; lookups = lookups.0 } in
    let same : tables ≡ t = ok_parts tables t lookups.2 in
    let rules = rules_are_cells contextual_at m 0 _ state.0 state.1 in
    let fit = lookups_fit bytes list glyph_count (room_left m 0) 0 lookups.0 lookups.1 in
    let long = fit.0 in
    let values : all_listed_weight bytes list glyph_count (length lookups.0) ≡ 0 =
    ap (all_listed_weight bytes list glyph_count) long in
    let light : contextual_weight tables + all_listed_weight bytes list glyph_count (length tables.lookups) ≤ 0 =
    omega (arith, rules, long, values) in
    subst (λ (k : ContextualTables). contextual_weight k + all_listed_weight bytes list glyph_count (length k.lookups) ≤ 0) same light

-- so a machine with lookups weighs less for its cells
by_cells : (bytes : List ℕ) (list glyph_count : ℕ) (m : StateArray) (cells : ℕ) (t : ContextualTables) (n classes : ℕ)
    → 2 * cells ≤ length m.bytes → contextual_tables bytes list glyph_count m cells ≡ Ok t
    → length m.bytes ≡ n → classes ≤ 7 * (n - 1) → 16 ≤ n
    → contextual_weight t + classes + all_listed_weight bytes list glyph_count (length t.lookups) ≤ 19 * n - 9
by_cells bytes list glyph_count m zero t n classes inside is long few wide =
    let none = contextual_none bytes list glyph_count m t is in
    omega (arith, none, few, wide)
by_cells bytes list glyph_count m (suc cells) t n classes inside is long few wide =
    let light = contextual_light bytes list glyph_count m (suc cells) t inside is in
    omega (arith, light, long, few, wide)

contextual_bounded : (bytes : List ℕ) (place glyph_count : ℕ) (t : ContextualTables)
    → contextual_tables_at bytes place glyph_count ≡ Ok t
    → contextual_weight t + classes_weight bytes place glyph_count
    + all_listed_weight bytes (list_place bytes place 16) glyph_count (length t.lookups) ≤ 19 * (length bytes - place) - 9
unfolding contextual_tables_at
contextual_bounded bytes place glyph_count t is =
    let whole = passes (nat_lt (length bytes) (place + 20)) _ _ t is in
    let array = parts (state_array_at MORX bytes place 4) _ t whole.1 in
    let cells = parts (cells_of array.0) _ t array.2 in
    let inside = cells_fit array.0 cells.0 cells.1 in
    let behind = bytes_behind MORX bytes place 4 array.0 array.1 in
    let counted = classes_light bytes place 4 glyph_count array.0 array.1 in
    let there = counted.0 in
    let wide : 16 ≤ length bytes - place = omega (arith, there) in
    let few : classes_weight bytes place glyph_count ≤ 7 * (length bytes - place - 1) = counted.1 in
    by_cells bytes (list_place bytes place 16) glyph_count array.0 cells.0 t (length bytes - place)
    (classes_weight bytes place glyph_count) inside cells.2 behind few wide

-- a list with an offset starts behind the subtable's place
list_behind : (bytes : List ℕ) (place at list : ℕ) → list_at bytes place at ≡ Ok list → place + 1 ≤ list
list_behind bytes place at list is =
    let some = passes (be32 bytes (place + at) == 0) _ _ list is in
    let there = some.0 in
    let same : list_place bytes place at ≡ list = ok_parts _ list some.1 in
    grind (arith, nat_tests, there, same)

-- a list takes no more than the bytes from its place on
list_fits : (size whole : ℕ) → size * (whole / size) ≤ whole
list_fits size whole = mul-div-le whole size

ligature_bounded : (bytes : List ℕ) (place glyph_count : ℕ) (t : LigatureTables)
    → ligature_at bytes place glyph_count ≡ Ok t
    → ligature_weight t + classes_weight bytes place glyph_count ≤ 19 * (length bytes - place) - 9
unfolding ligature_at
ligature_bounded bytes place glyph_count t is =
    let whole = passes (nat_lt (length bytes) (place + 28)) _ _ t is in
    let first = parts (list_at bytes place 16) _ t whole.1 in
    let second = parts (list_at bytes place 20) _ t first.2 in
    let third = parts (list_at bytes place 24) _ t second.2 in
    let state = parts (machine_at 2 be16 MORX bytes place glyph_count) _ t third.2 in
    let one = first.0 in
    let two = second.0 in
    let three = third.0 in
    let one_behind = list_behind bytes place 16 one first.1 in
    let two_behind = list_behind bytes place 20 two second.1 in
    let three_behind = list_behind bytes place 24 three third.1 in
    let tables : LigatureTables = record {
      state = state.0;
      actions = numbers32 bytes one;
      components = numbers16 bytes two;
      ligatures = glyphs_from bytes three;
    } in
    let same : tables ≡ t = ok_parts tables t state.2 in
    let rules = machine_fits be16 2 MORX bytes place glyph_count state.0 state.1 in
    let actions = length-map-range_with_len (λ i. be32 bytes (one + 4 * i)) 0 (count_from bytes one 4) in
    let components = length-map-range_with_len (λ i. be16 bytes (two + 2 * i)) 0 (count_from bytes two 2) in
    let ligatures : length (glyphs_from bytes three) ≡ count_from bytes three 2 =
    length-map-range_with_len _ 0 (count_from bytes three 2) in
    let a = list_fits 4 (length bytes - one) in
    let b = list_fits 2 (length bytes - two) in
    let c = list_fits 2 (length bytes - three) in
    let array = machine_array be16 2 MORX bytes place glyph_count state.0 state.1 in
    let counted = classes_light bytes place 2 glyph_count array.0 array.1 in
    let there = counted.0 in
    let classes = counted.1 in
    let light : ligature_weight tables + classes_weight bytes place glyph_count ≤ 19 * (length bytes - place) - 9 =
    omega (arith, rules, actions, components, ligatures, a, b, c, classes, there, one_behind, two_behind, three_behind) in
    subst (λ (k : LigatureTables). ligature_weight k + classes_weight bytes place glyph_count
    ≤ 19 * (length bytes - place) - 9) same light

insertion_bounded : (bytes : List ℕ) (place glyph_count : ℕ) (t : InsertionTables)
    → insertion_tables_at bytes place glyph_count ≡ Ok t
    → insertion_weight t + classes_weight bytes place glyph_count ≤ 19 * (length bytes - place) - 9
unfolding insertion_tables_at
insertion_bounded bytes place glyph_count t is =
    let whole = passes (nat_lt (length bytes) (place + 20)) _ _ t is in
    let list = parts (list_at bytes place 16) _ t whole.1 in
    let state = parts (machine_at 4 insertion_at MORX bytes place glyph_count) _ t list.2 in
    let one = list.0 in
    let behind = list_behind bytes place 16 one list.1 in
    let tables : InsertionTables = record { state = state.0; glyphs = glyphs_from bytes one } in
    let same : tables ≡ t = ok_parts tables t state.2 in
    let rules = machine_fits insertion_at 4 MORX bytes place glyph_count state.0 state.1 in
    let glyphs : length (glyphs_from bytes one) ≡ count_from bytes one 2 =
    length-map-range_with_len _ 0 (count_from bytes one 2) in
    let a = list_fits 2 (length bytes - one) in
    let array = machine_array insertion_at 4 MORX bytes place glyph_count state.0 state.1 in
    let counted = classes_light bytes place 4 glyph_count array.0 array.1 in
    let there = counted.0 in
    let classes = counted.1 in
    let light : insertion_weight tables + classes_weight bytes place glyph_count ≤ 19 * (length bytes - place) - 9 =
    omega (arith, rules, glyphs, a, classes, there, behind) in
    subst (λ (k : InsertionTables). insertion_weight k + classes_weight bytes place glyph_count
    ≤ 19 * (length bytes - place) - 9) same light

-- a plain machine
plain_bounded : (bytes : List ℕ) (place glyph_count : ℕ) (t : TableValue (GenericStateEntry Unit))
    → machine_at 0 (λ _ _. tt) MORX bytes place glyph_count ≡ Ok t
    → machine_weight PLAIN_RULE_SIZE t + classes_weight bytes place glyph_count ≤ 19 * (length bytes - place) - 9
plain_bounded bytes place glyph_count t is =
    let array = machine_array (λ _ _. tt) 0 MORX bytes place glyph_count t is in
    let counted = classes_light bytes place 0 glyph_count array.0 array.1 in
    let there = counted.0 in
    let classes = counted.1 in
    let rules = machine_fits (λ _ _. tt) 0 MORX bytes place glyph_count t is in
    omega (arith, rules, classes, there)

module _ (bytes : List ℕ) (place glyph_count : ℕ) where
  -- what a subtable weighs whose tables weigh so much
  kind_light : {X : Type 0} (kind : X → SubtableKind) (tables : Result X Fault) (does : SubtableKind) (most : ℕ)
      → ((x : X) → tables ≡ Ok x → kind_weight bytes place glyph_count (kind x) ≤ most)
      → as_kind kind tables ≡ Ok does → kind_weight bytes place glyph_count does ≤ most
  kind_light kind tables does most bounded is =
      let x = parts tables _ does is in
      let same : kind x.0 ≡ does = ok_parts (kind x.0) does x.2 in
      subst (λ (k : SubtableKind). kind_weight bytes place glyph_count k ≤ most) same (bounded x.0 x.1)

  -- a test chooses one of two, which are both bounded
  chosen : (b : Bool) (r s : Result SubtableKind Fault) (does : SubtableKind) (most : ℕ)
      → (r ≡ Ok does → kind_weight bytes place glyph_count does ≤ most)
      → (s ≡ Ok does → kind_weight bytes place glyph_count does ≤ most)
      → cond b r s ≡ Ok does → kind_weight bytes place glyph_count does ≤ most
  chosen true r s does most one other is = one is
  chosen false r s does most one other is = other is

  values_bounded : (pairs : List (ℕ × ℕ))
      → kind_weight bytes place glyph_count (NonContextual pairs) ≤ 19 * (length bytes - place) - 9
  values_bounded pairs = let light = inside_light bytes place glyph_count in omega (arith, light)

  unknown : (does : SubtableKind) → ◌≡◌ {A = Result SubtableKind Fault} (Ok (NonContextual [])) (Ok does)
      → kind_weight bytes place glyph_count does ≤ 19 * (length bytes - place) - 9
  unknown does is =
      let same : NonContextual [] ≡ does = ok_parts (NonContextual []) does is in
      subst (λ (k : SubtableKind). kind_weight bytes place glyph_count k ≤ 19 * (length bytes - place) - 9) same
      (values_bounded [])

pub subtables_bounded : SubtablesAreBounded
unfolding subtable_kind_at
subtables_bounded bytes place kind glyph_count does is =
    let most = 19 * (length bytes - place) - 9 in
    chosen bytes place glyph_count (kind == 0) _ _ does most
    (kind_light bytes place glyph_count Rearrangement (machine_at 0 (λ _ _. tt) MORX bytes place glyph_count) does most
    (plain_bounded bytes place glyph_count))
    (chosen bytes place glyph_count (kind == 1) _ _ does most
    (kind_light bytes place glyph_count Contextual (contextual_tables_at bytes place glyph_count) does most
    (contextual_bounded bytes place glyph_count))
    (chosen bytes place glyph_count (kind == 2) _ _ does most
    (kind_light bytes place glyph_count Ligature (ligature_at bytes place glyph_count) does most
    (ligature_bounded bytes place glyph_count))
    (chosen bytes place glyph_count (kind == 4) _ _ does most
    (kind_light bytes place glyph_count NonContextual (lookup_at MORX bytes place glyph_count) does most
    (λ pairs read. values_bounded bytes place glyph_count pairs))
    (chosen bytes place glyph_count (kind == 5) _ _ does most
    (kind_light bytes place glyph_count Insertion (insertion_tables_at bytes place glyph_count) does most
    (insertion_bounded bytes place glyph_count))
    (unknown bytes place glyph_count does))))) is
