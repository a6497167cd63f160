-- What is known of subtables that are read.
use Rattle.std.proofs.Common.{◌≡◌, ℕ, zero, suc, ◌+◌, ◌-◌, ◌≤◌, List, [], ◌∷◌, length, take, Bool, true, false, cond, Option, Some, None, Result, Ok, Err, refl, sym, ap, ◌∙◌, subst, zero-add, arith, ◌==◌}
use Rattle.std.specs.List.{cons_option, filter_map}
use Rattle.std.specs.Prelude.{nat_lt, slice_get}
use Rattle.std.proofs.lemmas.Bool.{ltb-false, ne_eqb}
use Rattle.std.proofs.lemmas.Option.{none-some, same_Some}
use Rattle.aat_bytes.specs.Faults.{after, fault_at}
use Rattle.aat_bytes.specs.declared.error.Fault.{Fault}
use Rattle.aat_bytes.specs.declared.error.FaultKind.TheVariants.{PastEnd, ShortLength, UnknownFormat}
use Rattle.aat_bytes.specs.facts.Parts.{ok_parts, parts, passes}
use Rattle.aat_bytes.specs.declared.tags.TheConstants.{KERN}
use Rattle.aat_read_machine.specs.InTurn.{in_turn}
use Rattle.aat_read_machine.specs.facts.Turns.{counted, turn}
use Rattle.aat_read_kern.specs.Kern.{KernStart, end_at, first_start, format_at, header_size, kern_kind_at, kern_value, left_out_at, length_at, length_place, list_of, read_up_to, subtable_at, subtable_of, subtables_of, unread_place, value_of_subtables}
use Rattle.aat_read_kern.specs.KernLaws.{IsReadAs, IsSubtableAt, SubtablesAreThoseOfBytes, end_by_length, subtable_end, subtable_place}
use Rattle.aat_read_kern.specs.declared.header.KernHeader.{KernHeader}
use Rattle.aat_read_kern.specs.declared.header.KernList.{KernList}
use Rattle.aat_read_kern.specs.declared.subtables.SubtableRead.{SubtableRead}
use Rattle.aat_read_kern.specs.declared.subtables.SubtableRead.TheVariants.{Kerns, LeftOut}

-- as many values as elements, or fewer
pub filter_map_short : {X Y : Type 0} (h : X → Option Y) (xs : List X) → length (filter_map h xs) ≤ length xs
filter_map_short h [] = omega arith
filter_map_short {X} {Y} h (x ∷ xs) = by_head (h x) (filter_map_short h xs) where
  by_head : (o : Option Y) → length (filter_map h xs) ≤ length xs
      → length (cons_option o (filter_map h xs)) ≤ length (x ∷ xs)
  by_head None short = omega (arith, short)
  by_head (Some y) short = omega (arith, short)

-- a fault of the subtables is one of the table
pub refused_value :
    (bytes : List ℕ) (list : KernList) (fault : Fault)
    → subtables_of bytes list ≡ Err fault → value_of_subtables bytes list ≡ Err fault
refused_value bytes list fault is =
    ap (λ (r : Result (List SubtableRead) Fault). after r (λ subtables. Ok (kern_value subtables))) is

-- where a subtable ends that is read
pub record Ends (bytes : List ℕ) (header : KernHeader) (start : KernStart) (end : ℕ) : Type 0 where
  pub is : end ≡ cond (start.left == 1) (length bytes) (start.place + length_at bytes header start.place)
  pub low : start.place + header_size header ≤ end
  pub high : end ≤ length bytes
  pub long : header_size header ≤ length_at bytes header start.place
  pub inside : start.place + length_at bytes header start.place ≤ length bytes

-- by its length, which is one
ends_by :
    (bytes : List ℕ) (place size least field end : ℕ) (b : Bool)
    → cond (nat_lt size least) (Err (fault_at KERN ShortLength field))
    (cond (nat_lt (length bytes) (place + size)) (Err (fault_at KERN PastEnd field))
    (Ok (cond b (length bytes) (place + size)))) ≡ Ok end
    → (end ≡ cond b (length bytes) (place + size)) × (least ≤ size) × (place + size ≤ length bytes)
ends_by bytes place size least field end b is =
    let long = passes (nat_lt size least) _ _ end is in
    let within = passes (nat_lt (length bytes) (place + size)) _ _ end long.1 in
    let same : cond b (length bytes) (place + size) ≡ end = ok_parts (cond b (length bytes) (place + size)) end within.1 in
    (sym same, ltb-false size least long.0, ltb-false (length bytes) (place + size) within.0)

-- by whether it is the last one
between :
    (bytes : List ℕ) (place size least end : ℕ) (b : Bool) → end ≡ cond b (length bytes) (place + size)
    → least ≤ size → place + size ≤ length bytes → (place + least ≤ end) × (end ≤ length bytes)
between bytes place size least end true is low high = (omega (arith, is, low, high), omega (arith, is))
between bytes place size least end false is low high = (omega (arith, is, low), omega (arith, is, high))

pub ends : (bytes : List ℕ) (header : KernHeader) (start : KernStart) (end : ℕ)
    → end_at bytes header start ≡ Ok end → Ends bytes header start end
unfolding end_at
ends bytes header start end is =
    let whole = passes (nat_lt (length bytes) (start.place + header_size header)) _ _ end is in
    let size : ℕ = length_at bytes header start.place in
    let least : ℕ = header_size header in
    let by = ends_by bytes start.place size least (length_place header start.place) end (start.left == 1) whole.1 in
    let within = between bytes start.place size least end (start.left == 1) by.0 by.1 by.2 in
    record { is = by.0; low = within.0; high = within.1; long = by.1; inside = by.2 }

module _ (bytes : List ℕ) (list : KernList) where
  -- a subtable that is read, and where the next one starts
  pub record ReadSubtable (start next : KernStart) (read : SubtableRead) : Type 0 where
    pub ended : end_at bytes list.header start ≡ Ok next.place
    pub does : read_up_to bytes list start next.place ≡ Ok read
    pub fewer : next.left ≡ start.left - 1

  pub subtable_parts :
      (start next : KernStart) (read : SubtableRead)
      → subtable_at bytes list start ≡ Ok (read, next) → ReadSubtable start next read
  unfolding subtable_at
  subtable_parts start next read is =
      let ended = parts (end_at bytes list.header start) _ (read, next) is in
      let does = parts (read_up_to bytes list start ended.0) _ (read, next) ended.2 in
      let behind : KernStart = record { place = ended.0; left = start.left - 1 } in
      let whole : ◌≡◌ {A = SubtableRead × KernStart} (does.0, behind) (read, next) = ok_parts _ (read, next) does.2 in
      let made : ReadSubtable start behind does.0 = record { ended = ended.1; does = does.1; fewer = refl } in
      subst (λ (r : SubtableRead × KernStart). ReadSubtable start r.1 r.0) whole made

  -- by what leaves it out
  read_by :
      (i : ℕ) (start : KernStart) (end : ℕ) (read : SubtableRead) (unread : Option ℕ)
      → list.count - start.left ≡ i
      → unread_place bytes list.header start.place ≡ unread
      → ◌≡◌ {A = Result SubtableRead Fault} (elim unread [
        | None ↦
            after (kern_kind_at (take end bytes) list.header start.place (format_at bytes list.header start.place)) (λ kind.
            Ok (Kerns (subtable_of bytes list.header start.place kind)))
        | Some at ↦ Ok (LeftOut (left_out_at list start.left at))
      ]) (Ok read)
      → IsReadAs bytes list i start.place end read
  read_by i start end read None number known is =
      let format = format_at bytes list.header start.place in
      let kind = parts (kern_kind_at (take end bytes) list.header start.place format) _ read is in
      let here : SubtableRead = Kerns (subtable_of bytes list.header start.place kind.0) in
      subst (IsReadAs bytes list i start.place end) (ok_parts here read kind.2) (known, kind.1, refl)
  read_by i start end read (Some at) number unread is =
      let here : SubtableRead = LeftOut (left_out_at list start.left at) in
      let fault : Fault = fault_at KERN UnknownFormat at in
      subst (IsReadAs bytes list i start.place end) (ok_parts here read is)
      (at, unread, ap (λ n. record { number = n; fault = fault }) number)

  read_as :
      (i : ℕ) (start : KernStart) (end : ℕ) (read : SubtableRead) → list.count - start.left ≡ i
      → read_up_to bytes list start end ≡ Ok read → IsReadAs bytes list i start.place end read
  unfolding read_up_to
  read_as i start end read number is =
      read_by i start end read (unread_place bytes list.header start.place) number refl is

  -- it is that of the bytes
  one_is :
      (k : ℕ) (start next : KernStart) (read : SubtableRead)
      → k + start.left ≡ list.count → start.place ≡ subtable_place bytes list k
      → subtable_at bytes list start ≡ Ok (read, next)
      → IsSubtableAt bytes list k (subtable_place bytes list k) read
  one_is k start next read whole place is =
      let r = subtable_parts start next read is in
      let e = ends bytes list.header start next.place r.ended in
      let left : list.count - k ≡ start.left = omega (arith, whole) in
      let number : list.count - start.left ≡ k = omega (arith, whole) in
      let same : subtable_end bytes list k start.place ≡ next.place =
      ap (λ n. cond (n == 1) (length bytes) (end_by_length bytes list start.place)) left ∙ sym e.is in
      let here : IsSubtableAt bytes list k start.place read = record {
        header = omega (arith, e.long);
        inside = e.inside;
        is = subst (λ (n : ℕ). IsReadAs bytes list k start.place n read) (sym same)
            (read_as k start next.place read number r.does);
      } in
      subst (λ (p : ℕ). IsSubtableAt bytes list k p read) place here

  -- one that is not the last ends by its length
  next_place :
      (k m : ℕ) (start next : KernStart) (read : SubtableRead)
      → start.left ≡ suc (suc m) → start.place ≡ subtable_place bytes list k
      → subtable_at bytes list start ≡ Ok (read, next) → next.place ≡ subtable_place bytes list (suc k)
  next_place k m start next read left place is =
      let r = subtable_parts start next read is in
      let e = ends bytes list.header start next.place r.ended in
      let other : (start.left == 1) ≡ false = ne_eqb start.left 1 (λ one. omega (arith, one, left)) in
      e.is ∙ ap (λ (b : Bool). cond b (length bytes) (end_by_length bytes list start.place)) other
      ∙ ap (end_by_length bytes list) place

  none_at : {X : Type 0} (xs : List X) (i : ℕ) (x : X) {P : Type 0} → [] ≡ xs → slice_get xs i ≡ Some x → P
  none_at xs i x none at = absurd (none-some x (ap (λ ys. slice_get ys i) none ∙ at))

  -- subtables in turn are those of the bytes
  each_at :
      (n k : ℕ) (start : KernStart) (reads : List SubtableRead)
      → start.left ≡ n → k + n ≡ list.count → start.place ≡ subtable_place bytes list k
      → in_turn (subtable_at bytes list) n start ≡ Ok reads
      → (i : ℕ) (read : SubtableRead) → slice_get reads i ≡ Some read
      → IsSubtableAt bytes list (k + i) (subtable_place bytes list (k + i)) read
  each_at zero k start reads left whole place is i read at = none_at reads i read (ok_parts [] reads is) at
  each_at (suc n) k start reads left whole place is zero read at =
      let t = turn (subtable_at bytes list) n start reads is in
      let here : t.one ≡ read = same_Some t.one read (ap (λ (rs : List SubtableRead). slice_get rs 0) t.whole ∙ at) in
      let one = one_is k start t.next t.one (omega (arith, left, whole)) place t.first in
      let number : k ≡ k + 0 = omega arith in
      subst (λ (j : ℕ). IsSubtableAt bytes list j (subtable_place bytes list j) read) number
      (subst (IsSubtableAt bytes list k (subtable_place bytes list k)) here one)
  each_at (suc zero) k start reads left whole place is (suc i) read at =
      let t = turn (subtable_at bytes list) zero start reads is in
      let there : slice_get t.others i ≡ Some read = ap (λ (rs : List SubtableRead). slice_get rs (suc i)) t.whole ∙ at in
      none_at t.others i read (ok_parts [] t.others t.rest) there
  each_at (suc (suc n)) k start reads left whole place is (suc i) read at =
      let t = turn (subtable_at bytes list) (suc n) start reads is in
      let there : slice_get t.others i ≡ Some read = ap (λ (rs : List SubtableRead). slice_get rs (suc i)) t.whole ∙ at in
      let fewer = (subtable_parts start t.next t.one t.first).fewer in
      let later =
      each_at (suc n) (suc k) t.next t.others (omega (arith, fewer, left)) (omega (arith, whole))
      (next_place k n start t.next t.one left place t.first) t.rest i read there in
      let number : suc k + i ≡ k + suc i = omega arith in
      subst (λ (j : ℕ). IsSubtableAt bytes list j (subtable_place bytes list j) read) number later

-- the law
pub subtables_of_bytes : SubtablesAreThoseOfBytes
subtables_of_bytes bytes kern is =
    let table = parts (list_of bytes) _ kern is in
    let list = table.0 in
    let reads = parts (subtables_of bytes list) _ kern table.2 in
    let f = subtable_at bytes list in
    let whole : 0 + list.count ≡ list.count = omega arith in
    let each : (i : ℕ) (read : SubtableRead) → slice_get reads.0 i ≡ Some read
    → IsSubtableAt bytes list i (subtable_place bytes list i) read =
    λ i read at.
    subst (λ (j : ℕ). IsSubtableAt bytes list j (subtable_place bytes list j) read) (zero-add i)
    (each_at bytes list list.count 0 (first_start list) reads.0 refl whole refl reads.1 i read at) in
    (list, table.1, (reads.0, (counted f list.count (first_start list) reads.0 reads.1, each), sym (ok_parts (kern_value reads.0) kern reads.2)))
