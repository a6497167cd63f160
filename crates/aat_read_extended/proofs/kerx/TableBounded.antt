-- What an extended kerning table weighs that is read.
use Rattle.std.proofs.Common.{◌≡◌, ℕ, ℤ, zero, suc, ◌+◌, ◌-◌, ◌*◌, ◌/◌, ◌≤◌, ◌⊎◌, inl, inr, List, length, take, Bool, true, false, cond, Option, Some, None, Result, Ok, Err, refl, sym, ap, ◌∙◌, subst, arith, ◌==◌}
use Rattle.std.specs.Prelude.{nat_lt}
use Rattle.std.proofs.Math.Nat.{div-le_self}
use Rattle.std.proofs.lemmas.Bool.Decides.{nat_tests}
use Rattle.std.proofs.lemmas.List.{length-take}
use Rattle.aat_bytes.specs.Numbers.{be32}
use Rattle.aat_bytes.specs.declared.error.Fault.{Fault}
use Rattle.aat_bytes.specs.facts.Parts.{ok_parts, parts, passes}
use Rattle.aat_bytes.specs.declared.tags.TheConstants.{KERX}
use Rattle.aat_kerning_tables.specs.Classes.{ClassValues}
use Rattle.aat_kerning_tables.specs.KerningTables.{KerxAnchorTables, KerxStackTables}
use Rattle.aat_kerning_tables.specs.declared.kerx.KerxFormat.{KerxFormat}
use Rattle.aat_kerning_tables.specs.declared.kerx.KerxFormat.TheVariants.{Format0, Format1, Format2Classes, Format4, Format6Classes}
use Rattle.aat_read_machine.specs.InTurn.{in_turn, weight_in_turn}
use Rattle.aat_read_machine.specs.facts.Turns.{turn, weight_more}
use Rattle.aat_read_pairs.specs.KerxClasses.{kerx_arrays_at, kerx_classes_at}
use Rattle.aat_read_pairs.specs.ListedPairs.{kerx_pairs_at}
use Rattle.aat_read_pairs.specs.LongArrays.{kerx_long_arrays_at, wide_value_at}
use Rattle.aat_read_lookup.specs.LongSizes.{long_size_at}
use Rattle.aat_read_lookup.proofs.SizeBounds.{rows_are_inside}
use Rattle.aat_read_pairs.proofs.Counts.{arrays_fit, classes_fit, long_arrays_fit, pairs_fit}
use Rattle.aat_read_pairs.specs.declared.weights.TheConstants.{LEFT_OUT_SIZE}
use Rattle.aat_read_pairs.specs.facts.Starts.{few_starts}
use Rattle.aat_read_extended.specs.kerx.Formats.{anchor_format_at, arrays_format_at, as_format, format_at, is_long, left_out_at, long_format_at}
use Rattle.aat_read_extended.specs.kerx.KerxLaws.{KerxIsBounded}
use Rattle.aat_read_extended.specs.kerx.KerxSubtables.{KerxStart, format_of, format_up_to, is_variable, subtable_at, subtable_read, tuple_count_of, used_bytes}
use Rattle.aat_read_extended.specs.kerx.KerxTables.{first_subtable}
use Rattle.aat_read_extended.specs.kerx.Machines.{action_type, anchor_tables_at, stack_tables_at}
use Rattle.aat_read_extended.specs.kerx.Weights.{class_pairs_weight, format_weight, long_pairs_weight, long_weight, subtable_weight}
use Rattle.aat_read_extended.specs.declared.kerx.formats.FormatRead.{FormatRead}
use Rattle.aat_read_extended.specs.declared.kerx.formats.FormatRead.TheVariants.{Kerns, LeftOut}
use Rattle.aat_read_extended.specs.declared.kerx.subtables.SubtableRead.{SubtableRead}
use Rattle.aat_read_extended.specs.declared.kerx.weights.TheConstants.{KERX_SUBTABLE_SIZE}
use Rattle.aat_read_extended.proofs.kerx.MachinesBounded.{anchor_light, lookup_light, stack_light}
use Rattle.aat_read_extended.proofs.kerx.ReadSubtables.{ends, subtable_parts, table_parts}

-- what comes of the bytes of a subtable weighs so much
abbrev read_weight : List ℕ → ℕ → ℕ → FormatRead → ℕ
read_weight bytes place glyph_count (Kerns format) = KERX_SUBTABLE_SIZE + format_weight bytes place glyph_count format
read_weight bytes place glyph_count (LeftOut fault) = LEFT_OUT_SIZE

-- the rows of a lookup with values of 32 bits take at most 6 bytes for each byte from its place on
long_rows_by : (bytes : List ℕ) (place glyph_count width : ℕ) (r : Result ℕ Fault)
    → long_size_at KERX bytes place glyph_count width ≡ r
    → elim r [ Ok size ↦ size | Err fault ↦ 0 ] ≤ 6 * (length bytes - place)
long_rows_by bytes place glyph_count width (Ok size) is = rows_are_inside KERX bytes place glyph_count width size is
long_rows_by bytes place glyph_count width (Err fault) is = omega arith

long_light : (bytes : List ℕ) (place glyph_count width : ℕ)
    → long_weight bytes place glyph_count width ≤ 6 * (length bytes - place)
long_light bytes place glyph_count width =
    long_rows_by bytes place glyph_count width (long_size_at KERX bytes place glyph_count width) refl

-- one of two ways
one_of : {X : Type 0} (b : Bool) (r s : Result X Fault) (x : X)
    → cond b r s ≡ Ok x → ((b ≡ true) × (r ≡ Ok x)) ⊎ ((b ≡ false) × (s ≡ Ok x))
one_of true r s x is = inl (refl, is)
one_of false r s x is = inr (refl, is)

module _ (bytes : List ℕ) (place glyph_count : ℕ) where
  -- what a subtable weighs whose tables weigh so much
  made_light :
      {X : Type 0} (format : X → KerxFormat) (tables : Result X Fault) (read : FormatRead)
      → ((x : X) → tables ≡ Ok x → read_weight bytes place glyph_count (Kerns (format x)) ≤ 32 * (length bytes - place))
      → as_format format tables ≡ Ok read → read_weight bytes place glyph_count read ≤ 32 * (length bytes - place)
  made_light format tables read light is =
      let x = parts tables _ read is in
      let same : Kerns (format x.0) ≡ read = ok_parts (Kerns (format x.0)) read x.2 in
      subst (λ (r : FormatRead). read_weight bytes place glyph_count r ≤ 32 * (length bytes - place)) same (light x.0 x.1)

  -- a test chooses one of two, which are both light
  chosen :
      (b : Bool) (r s : Result FormatRead Fault) (read : FormatRead)
      → (r ≡ Ok read → read_weight bytes place glyph_count read ≤ 32 * (length bytes - place))
      → (s ≡ Ok read → read_weight bytes place glyph_count read ≤ 32 * (length bytes - place))
      → cond b r s ≡ Ok read → read_weight bytes place glyph_count read ≤ 32 * (length bytes - place)
  chosen true r s read one other is = one is
  chosen false r s read one other is = other is

  -- what is left out
  left_light :
      (fault : Fault) (read : FormatRead) → place + 12 ≤ length bytes
      → ◌≡◌ {A = Result FormatRead Fault} (Ok (LeftOut fault)) (Ok read)
      → read_weight bytes place glyph_count read ≤ 32 * (length bytes - place)
  left_light fault read header is =
      let same : LeftOut fault ≡ read = ok_parts (LeftOut fault) read is in
      let light : read_weight bytes place glyph_count (LeftOut fault) ≤ 32 * (length bytes - place) = omega (arith, header) in
      subst (λ (r : FormatRead). read_weight bytes place glyph_count r ≤ 32 * (length bytes - place)) same light

  pairs_light :
      (tuple_count : ℕ) (pairs : List (ℕ × ℕ × ℤ)) → kerx_pairs_at bytes place tuple_count ≡ Ok pairs
      → read_weight bytes place glyph_count (Kerns (Format0 pairs)) ≤ 32 * (length bytes - place)
  pairs_light tuple_count pairs is =
      let inside = pairs_fit bytes place tuple_count pairs is in
      let starts = few_starts pairs in
      omega (arith, inside, starts)

  stack_format_light :
      (t : KerxStackTables) → place + 12 ≤ length bytes → stack_tables_at bytes (place + 12) glyph_count ≡ Ok t
      → read_weight bytes place glyph_count (Kerns (Format1 t)) ≤ 32 * (length bytes - place)
  stack_format_light t header is =
      let light = stack_light bytes (place + 12) glyph_count t is in omega (arith, header, light)

  anchor_format_light :
      (t : KerxAnchorTables) → place + 12 ≤ length bytes → anchor_tables_at bytes (place + 12) glyph_count ≡ Ok t
      → read_weight bytes place glyph_count (Kerns (Format4 t)) ≤ 32 * (length bytes - place)
  anchor_format_light t header is =
      let light = anchor_light bytes (place + 12) glyph_count t is in omega (arith, header, light)

  -- pairs by classes, whose lookups and values stand behind the place
  class_pairs_light :
      (left right : ℕ) (pairs : ClassValues)
      → (place + 28 ≤ length bytes) × (2 * length pairs.values ≤ length bytes - place) → place ≤ left → place ≤ right
      → KERX_SUBTABLE_SIZE + class_pairs_weight bytes left right glyph_count pairs ≤ 32 * (length bytes - place)
  class_pairs_light left right pairs fit lefts rights =
      let header = fit.0 in
      let values = fit.1 in
      let rows : length pairs.values / pairs.right_count ≤ length pairs.values =
      div-le_self (length pairs.values) pairs.right_count in
      let by_left = lookup_light bytes left glyph_count in
      let by_right = lookup_light bytes right glyph_count in
      omega (arith, header, values, lefts, rights, rows, by_left, by_right)

  classes_light :
      (tuple_count : ℕ) (pairs : ClassValues) → kerx_classes_at bytes place glyph_count tuple_count ≡ Ok pairs
      → read_weight bytes place glyph_count (Kerns (Format2Classes pairs)) ≤ 32 * (length bytes - place)
  classes_light tuple_count pairs is =
      class_pairs_light (place + be32 bytes (place + 16)) (place + be32 bytes (place + 20)) pairs
      (classes_fit bytes place glyph_count tuple_count pairs is) (omega arith) (omega arith)

  -- the same with lookups of values of 32 bits
  long_pairs_light :
      (left right : ℕ) (pairs : ClassValues)
      → (place + 28 ≤ length bytes) × (2 * length pairs.values ≤ length bytes - place) → place ≤ left → place ≤ right
      → KERX_SUBTABLE_SIZE + long_pairs_weight bytes left right glyph_count pairs ≤ 32 * (length bytes - place)
  long_pairs_light left right pairs fit lefts rights =
      let header = fit.0 in
      let values = fit.1 in
      let rows : length pairs.values / pairs.right_count ≤ length pairs.values =
      div-le_self (length pairs.values) pairs.right_count in
      let by_left = long_light bytes left glyph_count pairs.right_count in
      let by_right = long_light bytes right glyph_count 1 in
      omega (arith, header, values, lefts, rights, rows, by_left, by_right)

  -- rows and columns weigh by their form
  abbrev form_weight : Bool → ClassValues → ℕ
  form_weight long pairs =
      let left = place + be32 bytes (place + 20) in
      let right = place + be32 bytes (place + 24) in
      KERX_SUBTABLE_SIZE
      + cond long (long_pairs_weight bytes left right glyph_count pairs)
      (class_pairs_weight bytes left right glyph_count pairs)

  arrays_light :
      (tuple_count : ℕ) (pairs : ClassValues) → is_long bytes place ≡ false
      → kerx_arrays_at bytes place glyph_count tuple_count ≡ Ok pairs
      → read_weight bytes place glyph_count (Kerns (Format6Classes pairs)) ≤ 32 * (length bytes - place)
  arrays_light tuple_count pairs short is =
      let light = class_pairs_light (place + be32 bytes (place + 20)) (place + be32 bytes (place + 24)) pairs
      (arrays_fit bytes place glyph_count tuple_count pairs is) (omega arith) (omega arith) in
      subst (λ (b : Bool). form_weight b pairs ≤ 32 * (length bytes - place)) (sym short) light

  long_arrays_light :
      (tuple_count : ℕ) (pairs : ClassValues) → is_long bytes place ≡ true
      → kerx_long_arrays_at bytes place glyph_count tuple_count ≡ Ok pairs
      → read_weight bytes place glyph_count (Kerns (Format6Classes pairs)) ≤ 32 * (length bytes - place)
  long_arrays_light tuple_count pairs long is =
      let light = long_pairs_light (place + be32 bytes (place + 20)) (place + be32 bytes (place + 24)) pairs
      (long_arrays_fit bytes place glyph_count tuple_count pairs is) (omega arith) (omega arith) in
      subst (λ (b : Bool). form_weight b pairs ≤ 32 * (length bytes - place)) (sym long) light

  anchors_light :
      (read : FormatRead) → place + 12 ≤ length bytes → anchor_format_at bytes (place + 12) glyph_count ≡ Ok read
      → read_weight bytes place glyph_count read ≤ 32 * (length bytes - place)
  unfolding anchor_format_at
  anchors_light read header is =
      let whole = passes (nat_lt (length bytes) (place + 12 + 20)) _ _ read is in
      chosen (action_type bytes (place + 12) == 1) _ _ read
      (made_light Format4 (anchor_tables_at bytes (place + 12) glyph_count) read (λ t. anchor_format_light t header))
      (left_light _ read header) whole.1

  -- what is read where no value is wide, or left out
  long_by :
      (tuple_count : ℕ) (read : FormatRead) (wide : Option ℕ) → place + 12 ≤ length bytes
      → is_long bytes place ≡ true
      → ◌≡◌ {A = Result FormatRead Fault} (elim wide [
        | None ↦ as_format Format6Classes (kerx_long_arrays_at bytes place glyph_count tuple_count)
        | Some at ↦ left_out_at at
      ]) (Ok read)
      → read_weight bytes place glyph_count read ≤ 32 * (length bytes - place)
  long_by tuple_count read None header long is =
      made_light Format6Classes (kerx_long_arrays_at bytes place glyph_count tuple_count) read
      (λ pairs. long_arrays_light tuple_count pairs long) is
  long_by tuple_count read (Some at) header long is = left_light _ read header is

  long_format_light :
      (tuple_count : ℕ) (read : FormatRead) → place + 12 ≤ length bytes → is_long bytes place ≡ true
      → long_format_at bytes place glyph_count tuple_count ≡ Ok read
      → read_weight bytes place glyph_count read ≤ 32 * (length bytes - place)
  unfolding long_format_at
  long_format_light tuple_count read header long is =
      long_by tuple_count read (wide_value_at bytes place tuple_count) header long is

  sixth_light :
      (tuple_count : ℕ) (read : FormatRead) → place + 12 ≤ length bytes
      → arrays_format_at bytes place glyph_count tuple_count ≡ Ok read
      → read_weight bytes place glyph_count read ≤ 32 * (length bytes - place)
  unfolding arrays_format_at
  sixth_light tuple_count read header is =
      elim (one_of (is_long bytes place) _ _ read is) [
        | inl long ↦ long_format_light tuple_count read header long.0 long.1
        | inr short ↦
            made_light Format6Classes (kerx_arrays_at bytes place glyph_count tuple_count) read
            (λ pairs. arrays_light tuple_count pairs short.0) short.1
      ]

  -- a subtable of any format
  pub format_light :
      (format tuple_count : ℕ) (read : FormatRead) → place + 12 ≤ length bytes
      → format_at bytes place format glyph_count tuple_count ≡ Ok read
      → read_weight bytes place glyph_count read ≤ 32 * (length bytes - place)
  unfolding format_at
  format_light format tuple_count read header is =
      chosen (format == 0) _ _ read
      (made_light Format0 (kerx_pairs_at bytes place tuple_count) read (pairs_light tuple_count))
      (chosen (format == 1) _ _ read
      (made_light Format1 (stack_tables_at bytes (place + 12) glyph_count) read (λ t. stack_format_light t header))
      (chosen (format == 2) _ _ read
      (made_light Format2Classes (kerx_classes_at bytes place glyph_count tuple_count) read (classes_light tuple_count))
      (chosen (format == 4) _ _ read (anchors_light read header)
      (chosen (format == 6) _ _ read (sixth_light tuple_count read header)
      (left_light _ read header))))) is

module _ (bytes : List ℕ) (glyph_count count : ℕ) where
  -- a subtable of any format, or of variations
  up_to_light :
      (start : KerxStart) (end : ℕ) (read : FormatRead)
      → start.place + 12 ≤ length (used_bytes bytes count start.number end)
      → format_up_to bytes glyph_count count start end ≡ Ok read
      → read_weight (used_bytes bytes count start.number end) start.place glyph_count read
      ≤ 32 * (length (used_bytes bytes count start.number end) - start.place)
  up_to_light start end read header is =
      let used = used_bytes bytes count start.number end in
      chosen used start.place glyph_count (is_variable bytes start.place) _ _ read
      (left_light used start.place glyph_count _ read header)
      (format_light used start.place glyph_count (format_of bytes start.place) (tuple_count_of bytes start.place) read header) is

  -- the bytes that a subtable may use reach to its end
  used_by : (b : Bool) (end : ℕ) → end ≤ length bytes
      → (end ≤ length (cond b bytes (take end bytes))) × (length (cond b bytes (take end bytes)) ≤ length bytes)
  used_by true end inside = (inside, omega arith)
  used_by false end inside =
      let cut = length-take end bytes in (omega (arith, cut, inside), omega (arith, cut, inside))

  used_cut : (number end : ℕ) → (number + 1 == count) ≡ false → length (used_bytes bytes count number end) ≤ end
  used_cut number end other =
      let cut = length-take end bytes in
      let same : length (used_bytes bytes count number end) ≡ length (take end bytes) =
      ap (λ (b : Bool). length (cond b bytes (take end bytes))) other in
      omega (arith, cut, same)

  -- a subtable weighs what its bytes do
  same_weight :
      (start next : KerxStart) (format : FormatRead)
      → subtable_weight bytes glyph_count count start (subtable_read bytes start format) next
      ≡ read_weight (used_bytes bytes count start.number next.place) start.place glyph_count format
  same_weight start next (Kerns format) = refl
  same_weight start next (LeftOut fault) = refl

  -- a subtable that is read, up to where it may reach
  record Step (start next : KerxStart) (read : SubtableRead) : Type 0 where
    low : start.place + 12 ≤ next.place
    high : next.place ≤ length bytes
    number : start.number + 1 ≡ next.number
    short : length (used_bytes bytes count start.number next.place) ≤ length bytes
    light : subtable_weight bytes glyph_count count start read next
        ≤ 32 * (length (used_bytes bytes count start.number next.place) - start.place)

  step :
      (start next : KerxStart) (read : SubtableRead)
      → subtable_at bytes glyph_count count start ≡ Ok (read, next) → Step start next read
  step start next read is =
      let r = subtable_parts bytes glyph_count count start next read is in
      let e = ends bytes start.place next.place r.ended in
      let low = e.low in
      let used = used_bytes bytes count start.number next.place in
      let within = used_by (start.number + 1 == count) next.place e.high in
      let long : next.place ≤ length used = within.0 in
      let weighs : subtable_weight bytes glyph_count count start read next
      ≡ read_weight used start.place glyph_count r.format =
      ap (λ (k : SubtableRead). subtable_weight bytes glyph_count count start k next) r.is ∙ same_weight start next r.format in
      let light = up_to_light start next.place r.format (omega (arith, low, long)) r.does in
      record {
        low = e.low;
        high = e.high;
        number = r.next_number;
        short = within.1;
        light = omega (arith, weighs, light);
      }

  not_last : (number n : ℕ) → number + suc (suc n) ≡ count → (number + 1 == count) ≡ false
  not_last number n whole = grind (arith, nat_tests)

  -- subtables in turn
  all_light :
      (n : ℕ) (start : KerxStart) (reads : List SubtableRead)
      → start.number + n ≡ count → start.place ≤ length bytes
      → in_turn (subtable_at bytes glyph_count count) n start ≡ Ok reads
      → weight_in_turn (subtable_at bytes glyph_count count) (subtable_weight bytes glyph_count count) n start
      ≤ 32 * (length bytes - start.place)
  all_light zero start reads whole begins is = omega arith
  all_light (suc zero) start reads whole begins is =
      let f = subtable_at bytes glyph_count count in
      let w = subtable_weight bytes glyph_count count in
      let t = turn f zero start reads is in
      let s = step start t.next t.one t.first in
      let total = weight_more f w zero start t.next t.one t.first in
      let short = s.short in
      let light = s.light in
      omega (arith, total, short, light)
  all_light (suc (suc n)) start reads whole begins is =
      let f = subtable_at bytes glyph_count count in
      let w = subtable_weight bytes glyph_count count in
      let t = turn f (suc n) start reads is in
      let s = step start t.next t.one t.first in
      let number = s.number in
      let low = s.low in
      let high = s.high in
      let rest = all_light (suc n) t.next t.others (omega (arith, number, whole)) s.high t.rest in
      let total = weight_more f w (suc n) start t.next t.one t.first in
      let cut = used_cut start.number t.next.place (not_last start.number n whole) in
      let light = s.light in
      omega (arith, total, rest, cut, light, low, high)

-- the law
pub kerx_bounded : KerxIsBounded
kerx_bounded bytes glyph_count kerx is =
    let table = table_parts bytes glyph_count kerx is in
    let many = be32 bytes 4 in
    let light = all_light bytes glyph_count many many first_subtable table.1.0 (omega arith) table.0 table.1.1 in
    omega (arith, light)
