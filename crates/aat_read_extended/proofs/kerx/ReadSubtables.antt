-- What is known of subtables that are read.
use Rattle.std.proofs.Common.{◌≡◌, ℕ, zero, suc, ◌+◌, ◌≤◌, List, [], ◌∷◌, length, Bool, true, false, cond, Option, Some, None, Result, Ok, Err, refl, sym, ap, ◌∙◌, subst, arith, ◌==◌}
use Rattle.std.specs.List.{cons_option, filter_map}
use Rattle.std.specs.Prelude.{nat_lt, slice_get, ◌||◌}
use Rattle.std.proofs.lemmas.Bool.{ltb-false}
use Rattle.std.proofs.lemmas.Option.{none-some, same_Some}
use Rattle.aat_bytes.specs.Faults.{after}
use Rattle.aat_bytes.specs.Numbers.{be16, be32}
use Rattle.aat_bytes.specs.declared.error.Fault.{Fault}
use Rattle.aat_bytes.specs.facts.Parts.{ok_parts, parts, passes}
use Rattle.aat_read_machine.specs.InTurn.{end_by, in_turn, place_in_turn}
use Rattle.aat_read_machine.specs.facts.Turns.{counted, turn}
use Rattle.aat_read_extended.specs.kerx.KerxLaws.{IsSubtableAt, SubtablesAreThoseOfBytes}
use Rattle.aat_read_extended.specs.kerx.KerxSubtables.{KerxStart, end_at, format_up_to, subtable_at, subtable_read}
use Rattle.aat_read_extended.specs.kerx.KerxTables.{KerxValue, first_subtable, kerx_of, kerx_value, subtables_of, value_of_subtables}
use Rattle.aat_read_extended.specs.declared.kerx.formats.FormatRead.{FormatRead}
use Rattle.aat_read_extended.specs.declared.kerx.subtables.SubtableRead.{SubtableRead}

-- as many values as elements, or fewer
pub filter_map_short : {X Y : Type 0} (h : X → Option Y) (xs : List X) → length (filter_map h xs) ≤ length xs
filter_map_short h [] = omega arith
filter_map_short {X} {Y} h (x ∷ xs) = by_head (h x) (filter_map_short h xs) where
  by_head : (o : Option Y) → length (filter_map h xs) ≤ length xs
      → length (cons_option o (filter_map h xs)) ≤ length (x ∷ xs)
  by_head None short = omega (arith, short)
  by_head (Some y) short = omega (arith, short)

-- where a subtable ends that is read
pub record Ends (bytes : List ℕ) (place end : ℕ) : Type 0 where
  pub is : end_by bytes 0 place ≡ end
  pub low : place + 12 ≤ end
  pub high : end ≤ length bytes

pub ends : (bytes : List ℕ) (place end : ℕ) → end_at bytes place ≡ Ok end → Ends bytes place end
unfolding end_at
ends bytes place end is =
    let size = be32 bytes place in
    let whole = passes (nat_lt (length bytes) (place + 12)) _ _ end is in
    let long = passes (nat_lt size 12) _ _ end whole.1 in
    let within = passes (nat_lt (length bytes) (place + size)) _ _ end long.1 in
    let same : place + size ≡ end = ok_parts (place + size) end within.1 in
    let here : place + 0 ≡ place = omega arith in
    let by : end_by bytes 0 place ≡ place + size = ap (λ p. place + be32 bytes p) here in
    let low : 12 ≤ size = ltb-false size 12 long.0 in
    let high : place + size ≤ length bytes = ltb-false (length bytes) (place + size) within.0 in
    record { is = by ∙ same; low = omega (arith, same, low); high = omega (arith, same, high) }

-- a fault of the subtables is one of the table
pub refused_value :
    (bytes : List ℕ) (glyph_count count : ℕ) (fault : Fault)
    → subtables_of bytes glyph_count count ≡ Err fault → value_of_subtables bytes glyph_count count ≡ Err fault
refused_value bytes glyph_count count fault is =
    ap (λ (r : Result (List SubtableRead) Fault). after r (λ subtables. Ok (kerx_value subtables))) is

module _ (bytes : List ℕ) (glyph_count count : ℕ) where
  -- a subtable that is read, and where the next one starts
  pub record ReadSubtable (start next : KerxStart) (read : SubtableRead) : Type 0 where
    pub ended : end_at bytes start.place ≡ Ok next.place
    pub format : FormatRead
    pub does : format_up_to bytes glyph_count count start next.place ≡ Ok format
    pub is : read ≡ subtable_read bytes start format
    pub next_number : start.number + 1 ≡ next.number

  pub subtable_parts :
      (start next : KerxStart) (read : SubtableRead)
      → subtable_at bytes glyph_count count start ≡ Ok (read, next) → ReadSubtable start next read
  unfolding subtable_at
  subtable_parts start next read is =
      let ended = parts (end_at bytes start.place) _ (read, next) is in
      let does = parts (format_up_to bytes glyph_count count start ended.0) _ (read, next) ended.2 in
      let here : SubtableRead = subtable_read bytes start does.0 in
      let behind : KerxStart = record { place = ended.0; number = start.number + 1 } in
      let whole : ◌≡◌ {A = SubtableRead × KerxStart} (here, behind) (read, next) = ok_parts _ (read, next) does.2 in
      let made : ReadSubtable start behind here =
      record { ended = ended.1; format = does.0; does = does.1; is = refl; next_number = refl } in
      subst (λ (r : SubtableRead × KerxStart). ReadSubtable start r.1 r.0) whole made

  -- it is that of the bytes
  subtable_step :
      (start next : KerxStart) (read : SubtableRead)
      → subtable_at bytes glyph_count count start ≡ Ok (read, next)
      → IsSubtableAt bytes glyph_count count start.number start.place read
      × (end_by bytes 0 start.place ≡ next.place) × (start.number + 1 ≡ next.number)
  subtable_step start next read is =
      let r = subtable_parts start next read is in
      let e = ends bytes start.place next.place r.ended in
      let size = e.is in
      let here : IsSubtableAt bytes glyph_count count start.number start.place read = record {
        header = subst (λ (n : ℕ). start.place + 12 ≤ n) (sym size) e.low;
        inside = subst (λ (n : ℕ). n ≤ length bytes) (sym size) e.high;
        format = r.format;
        does = ap (format_up_to bytes glyph_count count start) size ∙ r.does;
        is = r.is;
      } in
      (here, size, r.next_number)

  -- the places behind the first are those from the second on
  next_place : (first i : ℕ) → place_in_turn bytes 0 first (suc i) ≡ place_in_turn bytes 0 (end_by bytes 0 first) i
  next_place first zero = refl
  next_place first (suc i) = ap (end_by bytes 0) (next_place first i)

  -- each subtable that is read in turn stands at its place, and has its number
  each_at :
      (n : ℕ) (start : KerxStart) (reads : List SubtableRead)
      → in_turn (subtable_at bytes glyph_count count) n start ≡ Ok reads
      → (i : ℕ) (read : SubtableRead) → slice_get reads i ≡ Some read
      → IsSubtableAt bytes glyph_count count (start.number + i) (place_in_turn bytes 0 start.place i) read
  each_at zero start reads is i read at =
      absurd (none-some read (ap (λ (rs : List SubtableRead). slice_get rs i) (ok_parts [] reads is) ∙ at))
  each_at (suc n) start reads is zero read at =
      let t = turn (subtable_at bytes glyph_count count) n start reads is in
      let here : t.one ≡ read = same_Some t.one read (ap (λ (rs : List SubtableRead). slice_get rs 0) t.whole ∙ at) in
      let number : start.number ≡ start.number + 0 = omega arith in
      let step = (subtable_step start t.next t.one t.first).0 in
      let named : IsSubtableAt bytes glyph_count count (start.number + 0) start.place t.one =
      subst (λ (k : ℕ). IsSubtableAt bytes glyph_count count k start.place t.one) number step in
      subst (IsSubtableAt bytes glyph_count count (start.number + 0) start.place) here named
  each_at (suc n) start reads is (suc i) read at =
      let t = turn (subtable_at bytes glyph_count count) n start reads is in
      let there : slice_get t.others i ≡ Some read = ap (λ (rs : List SubtableRead). slice_get rs (suc i)) t.whole ∙ at in
      let step = subtable_step start t.next t.one t.first in
      let place : place_in_turn bytes 0 t.next.place i ≡ place_in_turn bytes 0 start.place (suc i) =
      ap (λ n. place_in_turn bytes 0 n i) (sym step.1) ∙ sym (next_place start.place i) in
      let next_number = step.2 in
      let number : t.next.number + i ≡ start.number + suc i = omega (arith, next_number) in
      let later = each_at n t.next t.others t.rest i read there in
      let named : IsSubtableAt bytes glyph_count count (start.number + suc i) (place_in_turn bytes 0 t.next.place i) read =
      subst (λ (k : ℕ). IsSubtableAt bytes glyph_count count k (place_in_turn bytes 0 t.next.place i) read) number later in
      subst (λ (p : ℕ). IsSubtableAt bytes glyph_count count (start.number + suc i) p read) place named

-- the version is known where a table is read
version_passes : {X : Type 0} (b : Bool) (fault : Fault) (r : Result X Fault) (x : X)
    → cond b r (Err fault) ≡ Ok x → r ≡ Ok x
version_passes true fault r x is = is
version_passes false fault r x is = cc

-- the subtables of a table that is read stand behind its header
pub table_parts :
    (bytes : List ℕ) (glyph_count : ℕ) (kerx : KerxValue)
    → kerx_of bytes glyph_count ≡ Ok kerx
    → (8 ≤ length bytes) × ((reads : List SubtableRead)
    × (subtables_of bytes glyph_count (be32 bytes 4) ≡ Ok reads) × (kerx_value reads ≡ kerx))
unfolding kerx_of
table_parts bytes glyph_count kerx is =
    let header = passes (nat_lt (length bytes) 8) _ _ kerx is in
    let known = version_passes ((be16 bytes 0 == 2) || (be16 bytes 0 == 3) || (be16 bytes 0 == 4)) _ _ kerx header.1 in
    let few = passes (nat_lt 65535 (be32 bytes 4)) _ _ kerx known in
    let read = parts (subtables_of bytes glyph_count (be32 bytes 4)) _ kerx few.1 in
    (ltb-false (length bytes) 8 header.0, (read.0, read.1, ok_parts (kerx_value read.0) kerx read.2))

-- the law
pub subtables_of_bytes : SubtablesAreThoseOfBytes
subtables_of_bytes bytes glyph_count kerx is =
    let table = (table_parts bytes glyph_count kerx is).1 in
    let many = be32 bytes 4 in
    let in_order = counted (subtable_at bytes glyph_count many) many first_subtable table.0 table.1 in
    let each : (i : ℕ) (read : SubtableRead) → slice_get table.0 i ≡ Some read
    → IsSubtableAt bytes glyph_count many i (place_in_turn bytes 0 8 i) read =
    λ i read at.
    let number : 0 + i ≡ i = omega arith in
    let there = each_at bytes glyph_count many many first_subtable table.0 table.1 i read at in
    subst (λ (k : ℕ). IsSubtableAt bytes glyph_count many k (place_in_turn bytes 0 8 i) read) number there in
    (table.0, (in_order, each), sym table.2)
