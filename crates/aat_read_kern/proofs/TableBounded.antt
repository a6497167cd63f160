-- What a kerning table weighs that is read.
use Rattle.std.proofs.Common.{◌≡◌, ℕ, ℤ, zero, suc, ◌+◌, ◌-◌, ◌*◌, ◌≤◌, List, [], ◌∷◌, length, take, Bool, true, false, not, cond, Option, Some, None, Result, Ok, refl, sym, subst, arith, ◌==◌}
use Rattle.std.specs.Prelude.{sum_by}
use Rattle.std.specs.List.{filter_map}
use Rattle.std.proofs.lemmas.Bool.{eqb-true}
use Rattle.std.proofs.lemmas.List.{length-take}
use Rattle.std.proofs.lemmas.Option.{none-some}
use Rattle.std.proofs.lemmas.List.Sums.{sum_by-cons}
use Rattle.aat_bytes.specs.Faults.{after}
use Rattle.aat_bytes.specs.declared.error.Fault.{Fault}
use Rattle.aat_bytes.specs.facts.Parts.{ok_parts, parts}
use Rattle.aat_kerning_tables.specs.Classes.{ClassValues}
use Rattle.aat_kerning_tables.specs.KerningTables.{KernMachineTables}
use Rattle.aat_kerning_tables.specs.declared.kern.KernKind.{KernKind}
use Rattle.aat_kerning_tables.specs.declared.kern.KernKind.TheVariants.{Classes, Machine, Pairs}
use Rattle.aat_read_machine.specs.InTurn.{in_turn}
use Rattle.aat_read_machine.specs.facts.Turns.{turn}
use Rattle.aat_read_pairs.specs.KernClasses.{kern_classes_at}
use Rattle.aat_read_pairs.specs.KernIndexes.{kern_indexes_at}
use Rattle.aat_read_pairs.specs.ListedPairs.{kern_pairs_at}
use Rattle.aat_read_pairs.specs.declared.weights.TheConstants.{LEFT_OUT_SIZE}
use Rattle.aat_read_pairs.specs.facts.Starts.{few_starts}
use Rattle.aat_read_kern.specs.Kern.{KernStart, KernValue, as_kind, first_start, format_at, header_size, is_read, kern_kind_at, kern_value, kerning_of, left_out_at, list_of, read_up_to, subtable_at, subtable_of, subtables_of, unread_place}
use Rattle.aat_read_kern.specs.KernLaws.{KernIsBounded}
use Rattle.aat_read_kern.specs.KernMachines.{kern_machine_at}
use Rattle.aat_read_kern.specs.Weights.{kern_weight, kind_weight, subtable_weight}
use Rattle.aat_read_kern.specs.declared.header.KernHeader.{KernHeader}
use Rattle.aat_read_kern.specs.declared.header.KernHeader.TheVariants.{Apple, OpenType}
use Rattle.aat_read_kern.specs.declared.header.KernList.{KernList}
use Rattle.aat_read_kern.specs.declared.subtables.SubtableRead.{SubtableRead}
use Rattle.aat_read_kern.specs.declared.subtables.SubtableRead.TheVariants.{Kerns, LeftOut}
use Rattle.aat_read_kern.specs.declared.weights.TheConstants.{KERN_SUBTABLE_SIZE}
use Rattle.aat_read_kern.proofs.Counts.{classes_light, indexes_light, pairs_fit}
use Rattle.aat_read_kern.proofs.MachinesBounded.{machine_inside, machines_bounded}
use Rattle.aat_read_kern.proofs.ReadSubtables.{ends, subtable_parts}

-- a header has six bytes or more
headed : (header : KernHeader) → 6 ≤ header_size header
headed Apple = omega arith
headed OpenType = omega arith

-- that of a machine which is read has eight
machine_headed : (header : KernHeader) (format : ℕ) → is_read header format ≡ true → format ≡ 1 → 8 ≤ header_size header
machine_headed Apple format known one = omega arith
machine_headed OpenType format known one =
    let never : is_read OpenType 1 ≡ true = subst (λ (n : ℕ). is_read OpenType n ≡ true) one known in cc

module _ (bytes : List ℕ) (header : KernHeader) (place : ℕ) where
  -- how a subtable weighs whose tables weigh so much
  made_light :
      {X : Type 0} (kind : X → KernKind) (tables : Result X Fault) (read : KernKind)
      → ((x : X) → tables ≡ Ok x → KERN_SUBTABLE_SIZE + kind_weight (kind x) ≤ 32 * (length bytes - place))
      → as_kind kind tables ≡ Ok read → KERN_SUBTABLE_SIZE + kind_weight read ≤ 32 * (length bytes - place)
  made_light kind tables read light is =
      let x = parts tables _ read is in
      let same : kind x.0 ≡ read = ok_parts (kind x.0) read x.2 in
      subst (λ (k : KernKind). KERN_SUBTABLE_SIZE + kind_weight k ≤ 32 * (length bytes - place)) same (light x.0 x.1)

  -- a test chooses one of two, which are both light
  chosen :
      (b : Bool) (r s : Result KernKind Fault) (read : KernKind)
      → (r ≡ Ok read → KERN_SUBTABLE_SIZE + kind_weight read ≤ 32 * (length bytes - place))
      → (s ≡ Ok read → KERN_SUBTABLE_SIZE + kind_weight read ≤ 32 * (length bytes - place))
      → cond b r s ≡ Ok read → KERN_SUBTABLE_SIZE + kind_weight read ≤ 32 * (length bytes - place)
  chosen true r s read one other is = one is
  chosen false r s read one other is = other is

  -- as far as the test is passed
  chosen_if :
      (b : Bool) (r s : Result KernKind Fault) (read : KernKind)
      → (b ≡ true → r ≡ Ok read → KERN_SUBTABLE_SIZE + kind_weight read ≤ 32 * (length bytes - place))
      → (s ≡ Ok read → KERN_SUBTABLE_SIZE + kind_weight read ≤ 32 * (length bytes - place))
      → cond b r s ≡ Ok read → KERN_SUBTABLE_SIZE + kind_weight read ≤ 32 * (length bytes - place)
  chosen_if true r s read one other is = one refl is
  chosen_if false r s read one other is = other is

  pairs_light : (pairs : List (ℕ × ℕ × ℤ)) → kern_pairs_at bytes (place + header_size header) ≡ Ok pairs
      → KERN_SUBTABLE_SIZE + kind_weight (Pairs pairs) ≤ 32 * (length bytes - place)
  pairs_light pairs is =
      let inside = pairs_fit bytes (place + header_size header) pairs is in
      let starts = few_starts pairs in
      let wide = headed header in
      omega (arith, inside, starts, wide)

  machine_light : (t : KernMachineTables) → 8 ≤ header_size header → place + header_size header + 10 ≤ length bytes
      → kern_machine_at bytes (place + header_size header) ≡ Ok t
      → KERN_SUBTABLE_SIZE + kind_weight (Machine t) ≤ 32 * (length bytes - place)
  machine_light t wide inside is =
      let light = machines_bounded bytes (place + header_size header) t is in
      omega (arith, inside, light, wide)

  by_offsets_light : (pairs : ClassValues) → kern_classes_at bytes place (place + header_size header) ≡ Ok pairs
      → KERN_SUBTABLE_SIZE + kind_weight (Classes pairs) ≤ 32 * (length bytes - place)
  by_offsets_light pairs is =
      let light = classes_light bytes place (place + header_size header) pairs is in
      let inside = light.0 in
      let weighs = light.1 in
      let wide = headed header in
      omega (arith, inside, weighs, wide)

  by_indexes_light : (pairs : ClassValues) → kern_indexes_at bytes (place + header_size header) ≡ Ok pairs
      → KERN_SUBTABLE_SIZE + kind_weight (Classes pairs) ≤ 32 * (length bytes - place)
  by_indexes_light pairs is =
      let light = indexes_light bytes (place + header_size header) pairs is in
      let inside = light.0 in
      let weighs = light.1 in
      let wide = headed header in
      omega (arith, inside, weighs, wide)

  -- a subtable of any format
  kind_light : (format : ℕ) (read : KernKind) → is_read header format ≡ true
      → kern_kind_at bytes header place format ≡ Ok read
      → KERN_SUBTABLE_SIZE + kind_weight read ≤ 32 * (length bytes - place)
  unfolding kern_kind_at
  kind_light format read known is =
      let behind = place + header_size header in
      chosen (format == 0) _ _ read (made_light Pairs (kern_pairs_at bytes behind) read pairs_light)
      (chosen_if (format == 1) _ _ read
      (λ one. made_light Machine (kern_machine_at bytes behind) read
      (λ t there. machine_light t (machine_headed header format known (eqb-true format 1 one))
      (machine_inside bytes behind t there) there))
      (chosen (format == 2) _ _ read (made_light Classes (kern_classes_at bytes place behind) read by_offsets_light)
      (made_light Classes (kern_indexes_at bytes behind) read by_indexes_light))) is

-- what is read weighs so much
abbrev read_weight : SubtableRead → ℕ
read_weight (Kerns subtable) = subtable_weight subtable
read_weight (LeftOut subtable) = LEFT_OUT_SIZE

-- a table weighs what its subtables do
weight_of : (reads : List SubtableRead) → kern_weight (kern_value reads) ≡ sum_by read_weight reads
weight_of [] = refl
weight_of (Kerns subtable ∷ reads) =
    let rest = weight_of reads in
    let one = sum_by-cons subtable_weight subtable (filter_map kerning_of reads) in
    let all = sum_by-cons read_weight (Kerns subtable) reads in
    omega (arith, rest, one, all)
weight_of (LeftOut subtable ∷ reads) =
    let rest = weight_of reads in
    let all = sum_by-cons read_weight (LeftOut subtable) reads in
    omega (arith, rest, all)

-- what nothing leaves out is of a format that is read
known_by :
    (known variable : Bool) (a b : ℕ) → cond (not known) (Some a) (cond variable (Some b) None) ≡ None → known ≡ true
known_by true variable a b is = refl
known_by false variable a b is = absurd (none-some a (sym is))

module _ (bytes : List ℕ) (list : KernList) where
  -- by what leaves it out
  light_by :
      (start : KernStart) (end : ℕ) (read : SubtableRead) (unread : Option ℕ)
      → start.place + header_size list.header ≤ end → end ≤ length bytes
      → unread_place bytes list.header start.place ≡ unread
      → ◌≡◌ {A = Result SubtableRead Fault} (elim unread [
        | None ↦
            after (kern_kind_at (take end bytes) list.header start.place (format_at bytes list.header start.place)) (λ kind.
            Ok (Kerns (subtable_of bytes list.header start.place kind)))
        | Some at ↦ Ok (LeftOut (left_out_at list start.left at))
      ]) (Ok read)
      → read_weight read ≤ 32 * (end - start.place)
  light_by start end read None low high nothing is =
      let format = format_at bytes list.header start.place in
      let kind = parts (kern_kind_at (take end bytes) list.header start.place format) _ read is in
      let here : SubtableRead = Kerns (subtable_of bytes list.header start.place kind.0) in
      let cut = length-take end bytes in
      let known = known_by (is_read list.header format) _ _ _ nothing in
      let light = kind_light (take end bytes) list.header start.place format kind.0 known kind.1 in
      let weighs : read_weight here ≤ 32 * (end - start.place) = omega (arith, light, cut, high) in
      subst (λ (r : SubtableRead). read_weight r ≤ 32 * (end - start.place)) (ok_parts here read kind.2) weighs
  light_by start end read (Some at) low high unread is =
      let here : SubtableRead = LeftOut (left_out_at list start.left at) in
      let wide = headed list.header in
      let weighs : read_weight here ≤ 32 * (end - start.place) = omega (arith, low, wide) in
      subst (λ (r : SubtableRead). read_weight r ≤ 32 * (end - start.place)) (ok_parts here read is) weighs

  one_light :
      (start : KernStart) (end : ℕ) (read : SubtableRead)
      → start.place + header_size list.header ≤ end → end ≤ length bytes
      → read_up_to bytes list start end ≡ Ok read → read_weight read ≤ 32 * (end - start.place)
  unfolding read_up_to
  one_light start end read low high is =
      light_by start end read (unread_place bytes list.header start.place) low high refl is

  -- subtables in turn
  all_light :
      (n : ℕ) (start : KernStart) (reads : List SubtableRead)
      → in_turn (subtable_at bytes list) n start ≡ Ok reads
      → sum_by read_weight reads ≤ 32 * (length bytes - start.place)
  all_light zero start reads is =
      let none : [] ≡ reads = ok_parts [] reads is in
      subst (λ (rs : List SubtableRead). sum_by read_weight rs ≤ 32 * (length bytes - start.place)) none (omega arith)
  all_light (suc n) start reads is =
      let t = turn (subtable_at bytes list) n start reads is in
      let r = subtable_parts bytes list start t.next t.one t.first in
      let e = ends bytes list.header start t.next.place r.ended in
      let low = e.low in
      let high = e.high in
      let one = one_light start t.next.place t.one e.low e.high r.does in
      let rest = all_light n t.next t.others t.rest in
      let total = sum_by-cons read_weight t.one t.others in
      let weighs : sum_by read_weight (t.one ∷ t.others) ≤ 32 * (length bytes - start.place) =
      omega (arith, low, high, one, rest, total) in
      subst (λ (rs : List SubtableRead). sum_by read_weight rs ≤ 32 * (length bytes - start.place)) t.whole weighs

-- the law
pub kern_bounded : KernIsBounded
kern_bounded bytes kern is =
    let table = parts (list_of bytes) _ kern is in
    let list = table.0 in
    let reads = parts (subtables_of bytes list) _ kern table.2 in
    let same : kern_value reads.0 ≡ kern = ok_parts (kern_value reads.0) kern reads.2 in
    let light = all_light bytes list list.count (first_start list) reads.0 reads.1 in
    let total = weight_of reads.0 in
    let weighs : kern_weight (kern_value reads.0) ≤ 32 * length bytes = omega (arith, light, total) in
    subst (λ (k : KernValue). kern_weight k ≤ 32 * length bytes) same weighs
