-- Subtables that are written are read again.
use Rattle.std.proofs.Common.{◌≡◌, ℕ, zero, suc, ◌+◌, ◌-◌, ◌<◌, ◌≤◌, ◌^◌, List, [], ◌∷◌, ◌++◌, length, get_or, take, map, cond, All, Bool, true, false, not, ◌==◌, Some, None, Result, Ok, refl, sym, ap, ◌∙◌, append_assoc, arith}
use Rattle.std.specs.Prelude.{slice_index}
use Rattle.std.proofs.Math.Seq.{take-append-add}
use Rattle.std.proofs.lemmas.Bool.{le-ltb}
use Rattle.std.proofs.lemmas.Bool.Decides.{nat_tests}
use Rattle.std.proofs.lemmas.List.{append-nil, get_or-append-add, length-append}
use Rattle.aat_bytes.specs.Faults.{after}
use Rattle.aat_bytes.specs.Numbers.{be32}
use Rattle.aat_bytes.specs.declared.error.Fault.{Fault}
use Rattle.aat_kerning_tables.specs.declared.kern.KernKind.{KernKind}
use Rattle.aat_kerning_tables.specs.declared.kern.KernKind.TheVariants.{Classes, Machine, Pairs}
use Rattle.aat_kerning_tables.specs.declared.kern.KernSubtable.{KernSubtable}
use Rattle.aat_read_kern.specs.Kern.{KernStart, as_kerning, coverage_at, end_at, format_at, is_read, is_variable, kern_kind_at, read_and_next, read_up_to, subtable_at, subtable_of, unread_place, with_coverage}
use Rattle.aat_read_machine.specs.InTurn.{in_turn}
use Rattle.aat_write_machine.specs.Words.{long_bytes}
use Rattle.aat_write_machine.specs.facts.LongPlaces.{length_longs, long_at}
use Rattle.aat_write_truetype.specs.kern.KernBytes.{bit, coverage_number, format_number, header_bytes, kind_written, subtable_written, subtables_written}
use Rattle.aat_write_truetype.specs.kern.KernLaws.{IsKernSubtable}
use Rattle.aat_write_truetype.specs.kern.KernWriteErrors.{after_written}
use Rattle.aat_write_truetype.specs.declared.kern.error.KernWriteError.TheVariants.{Variable}
use Rattle.aat_write_truetype.proofs.kern.KindsAgain.{kind_is_read, kind_is_short}
use Rattle.aat_write_truetype.proofs.kern.Opened.{not_before, parts, same_ok}
use Rattle.aat_write_truetype.proofs.kern.Readers.{Apple, SubtableRead, apples_list}

-- the bits of a coverage are read again
bits_again :
    (kind : KernKind) (h c : Bool)
    → with_coverage Apple (cond h 0 128 + bit c 64) kind
    ≡ record { kind = kind; horizontal = h; has_cross_stream = c; variable = false }
bits_again kind true true = refl
bits_again kind true false = refl
bits_again kind false true = refl
bits_again kind false false = refl

coverage_again : (s : KernSubtable) → s.variable ≡ false → with_coverage Apple (coverage_number s) s.kind ≡ s
coverage_again s plain =
    let of_variable : Bool → KernSubtable =
    λ v. record { kind = s.kind; horizontal = s.horizontal; has_cross_stream = s.has_cross_stream; variable = v } in
    bits_again s.kind s.horizontal s.has_cross_stream ∙ ap of_variable (sym plain)

-- that for variations is not among them
plain_bits : (h c : Bool) → is_variable Apple (cond h 0 128 + bit c 64) ≡ false
plain_bits true true = refl
plain_bits true false = refl
plain_bits false true = refl
plain_bits false false = refl

-- where a subtable ends whose length stands in it, or which is the last
end_is :
    (bytes : List ℕ) (place left end size : ℕ)
    → be32 bytes place ≡ size → 8 ≤ size → place + size ≡ end → end ≤ length bytes
    → (b : Bool) → (left == 1) ≡ b → (b ≡ true → length bytes ≡ end)
    → end_at bytes Apple (record { place = place; left = left }) ≡ Ok end
unfolding end_at
end_is bytes place left end size is low sum high true test last =
    let inside : place + 8 ≤ length bytes = omega (arith, low, sum, high) in
    let within : place + size ≤ length bytes = omega (arith, sum, high) in
    rw (le-ltb (length bytes) (place + 8) inside)
    (rw test (rw is (rw (le-ltb size 8 low) (rw (le-ltb (length bytes) (place + size) within) (ap Ok (last refl))))))
end_is bytes place left end size is low sum high false test last =
    let inside : place + 8 ≤ length bytes = omega (arith, low, sum, high) in
    let within : place + size ≤ length bytes = omega (arith, sum, high) in
    rw (le-ltb (length bytes) (place + 8) inside)
    (rw test (rw is (rw (le-ltb size 8 low) (rw (le-ltb (length bytes) (place + size) within) (ap Ok sum)))))

-- the formats that are written are read
format_is_read : (kind : KernKind) → is_read Apple (format_number kind) ≡ true
format_is_read (Pairs pairs) = refl
format_is_read (Machine machine) = refl
format_is_read (Classes pairs) = refl

-- nothing leaves out what is of a format that is read and not of variations
nothing_by :
    (known variable : Bool) (a b : ℕ) → known ≡ true → variable ≡ false
    → cond (not known) (Some a) (cond variable (Some b) None) ≡ None
nothing_by true false a b is_known plain = refl
nothing_by true true a b is_known plain = absurd (let wrong : ⊥ = cc in wrong)
nothing_by false variable a b is_known plain = absurd (let wrong : ⊥ = cc in wrong)

-- what a subtable is read as whose parts are read
read_by :
    (bytes : List ℕ) (count : ℕ) (start : KernStart) (end format coverage : ℕ) (kind : KernKind)
    → format_at bytes Apple start.place ≡ format
    → is_read Apple format ≡ true
    → coverage_at bytes Apple start.place ≡ coverage
    → is_variable Apple coverage ≡ false
    → kern_kind_at (take end bytes) Apple start.place format ≡ Ok kind
    → read_up_to bytes (apples_list count) start end ≡ Ok (as_kerning (with_coverage Apple coverage kind))
unfolding read_up_to
read_by bytes count start end format coverage kind is_format known is_coverage plain read =
    let does : ℕ → Result SubtableRead Fault = λ n. after (kern_kind_at (take end bytes) Apple start.place n) (λ k.
    Ok (as_kerning (subtable_of bytes Apple start.place k))) in
    let nothing : unread_place bytes Apple start.place ≡ None =
    nothing_by _ _ _ _ (ap (is_read Apple) is_format ∙ known) (ap (is_variable Apple) is_coverage ∙ plain) in
    rw (nothing, read_up_to)
    (ap does is_format
    ∙ ap (λ (r : Result KernKind Fault). after r (λ k. Ok (as_kerning (subtable_of bytes Apple start.place k)))) read
    ∙ ap (λ n. Ok (as_kerning (with_coverage Apple n kind))) is_coverage)

-- a subtable whose parts are read
subtable_by :
    (bytes : List ℕ) (count : ℕ) (start : KernStart) (end : ℕ) (read : SubtableRead)
    → end_at bytes Apple start ≡ Ok end
    → read_up_to bytes (apples_list count) start end ≡ Ok read
    → subtable_at bytes (apples_list count) start ≡ Ok (read_and_next start.left (read, end))
unfolding subtable_at
subtable_by bytes count start end read ended is =
    ap (λ (r : Result ℕ Fault). after r (λ e. after (read_up_to bytes (apples_list count) start e) (λ read.
    Ok (read_and_next start.left (read, e))))) ended
    ∙ ap (λ (r : Result SubtableRead Fault). after r (λ read. Ok (read_and_next start.left (read, end)))) is

-- a subtable behind a front
module _ (s : KernSubtable) (body front rest bytes : List ℕ) (written : kind_written s.kind ≡ Ok body)
    (split : bytes ≡ front ++ ((header_bytes s (length body) ++ body) ++ rest)) where
  abbrev size : ℕ
  size = 8 + length body

  abbrev place : ℕ
  place = length front

  abbrev number : List ℕ
  number = long_bytes (size ∷ [])

  abbrev flags : List ℕ
  flags = coverage_number s ∷ format_number s.kind ∷ 0 ∷ 0 ∷ []

  abbrev header : List ℕ
  header = header_bytes s (length body)

  number_long : length number ≡ 4
  number_long = length_longs (size ∷ [])

  header_long : length header ≡ 8
  header_long = omega (arith, length-append number flags, number_long)

  at_header : bytes ≡ front ++ (header ++ (body ++ rest))
  at_header = split ∙ ap (λ (xs : List ℕ). front ++ xs) (append_assoc header body rest)

  at_number : bytes ≡ front ++ (number ++ (flags ++ (body ++ rest)))
  at_number = at_header ∙ ap (λ (xs : List ℕ). front ++ xs) (append_assoc number flags (body ++ rest))

  at_flags : bytes ≡ (front ++ number) ++ (flags ++ (body ++ rest))
  at_flags = at_number ∙ sym (append_assoc front number (flags ++ (body ++ rest)))

  size_stands : be32 bytes place ≡ size
  size_stands =
      let short : size < 2 ^ 32 = omega (arith, kind_is_short s.kind body written) in
      let one : All (λ n. n < 2 ^ 32) (size ∷ []) = only size short in
      ap (λ (b : List ℕ). be32 b place) at_number
      ∙ long_at (size ∷ []) front (flags ++ (body ++ rest)) place 0 (omega arith) one (omega arith)
    where
      only : (n : ℕ) → n < 2 ^ 32 → All (λ n. n < 2 ^ 32) (n ∷ [])
      only n small zero d lt = small
      only n small (suc k) d lt = absurd (omega arith)

  flag_stands : (j p : ℕ) → place + 4 + j ≡ p → slice_index bytes p ≡ get_or (flags ++ (body ++ rest)) j 0
  flag_stands j p at =
      let long : length (front ++ number) + j ≡ p = omega (arith, length-append front number, number_long, at) in
      ap (λ (b : List ℕ). slice_index b p) at_flags
      ∙ ap (λ k. slice_index ((front ++ number) ++ (flags ++ (body ++ rest))) k) (sym long)
      ∙ get_or-append-add (front ++ number) (flags ++ (body ++ rest)) j 0

  bytes_long : length bytes ≡ place + (size + length rest)
  bytes_long =
      ap length at_header
      ∙ omega (arith, length-append front (header ++ (body ++ rest)), length-append header (body ++ rest), length-append body rest, header_long)

  taken : take (place + size) bytes ≡ (front ++ header) ++ body
  taken =
      let cut : place + size ≡ place + (length (header ++ body) + 0) = omega (arith, length-append header body, header_long) in
      ap (λ n. take n bytes) cut
      ∙ ap (λ (b : List ℕ). take (place + (length (header ++ body) + 0)) b) split
      ∙ take-append-add front ((header ++ body) ++ rest) (length (header ++ body) + 0)
      ∙ ap (λ (xs : List ℕ). front ++ xs) (take-append-add (header ++ body) rest 0)
      ∙ ap (λ (xs : List ℕ). front ++ xs) (append-nil (header ++ body))
      ∙ sym (append_assoc front header body)

  pub subtable_is_read :
      (count left : ℕ) → s.variable ≡ false → IsKernSubtable s → (left ≡ 1 → length rest ≡ 0)
      → subtable_at bytes (apples_list count) (record { place = place; left = left })
      ≡ Ok (read_and_next left (as_kerning s, place + size))
  subtable_is_read count left plain small last =
      let start : KernStart = record { place = place; left = left } in
      let ended : end_at bytes Apple start ≡ Ok (place + size) =
      end_is bytes place left (place + size) size size_stands (omega arith) refl (omega (arith, bytes_long)) (left == 1) refl
      (λ test. let one : left ≡ 1 = grind (arith, nat_tests) in omega (arith, bytes_long, last one)) in
      let read : kern_kind_at (take (place + size) bytes) Apple place (format_number s.kind) ≡ Ok s.kind =
      ap (λ (b : List ℕ). kern_kind_at b Apple place (format_number s.kind)) taken
      ∙ kind_is_read s.kind body (front ++ header) place written small (omega (arith, length-append front header, header_long)) in
      let is = read_by bytes count start (place + size) (format_number s.kind) (coverage_number s) s.kind
      (flag_stands 1 (place + 5) (omega arith)) (format_is_read s.kind) (flag_stands 0 (place + 4) (omega arith))
      (plain_bits s.horizontal s.has_cross_stream) read
      ∙ ap (λ (k : KernSubtable). Ok (as_kerning k)) (coverage_again s plain) in
      subtable_by bytes count start (place + size) (as_kerning s) ended is

-- one subtable more
in_turn_more :
    {S X : Type 0} (read : S → Result (X × S) Fault) (count : ℕ) (start next : S) (x : X) (xs : List X)
    → read start ≡ Ok (x, next) → in_turn read count next ≡ Ok xs → in_turn read (suc count) start ≡ Ok (x ∷ xs)
in_turn_more read count start next x xs first rest = rw first (rw rest refl)

-- where there are no subtables, there are no bytes
nothing_left : (ss : List KernSubtable) (more : List ℕ) → suc (length ss) ≡ 1 → subtables_written ss ≡ Ok more → length more ≡ 0
nothing_left [] more none is = ap length (sym (same_ok [] more is))
nothing_left (s ∷ ss) more none is = absurd (omega arith)

-- the subtables from one on, up to the end of the table
pub subtables_are_read :
    (ss : List KernSubtable) (count : ℕ) (bytes front all : List ℕ) (place : ℕ)
    → All IsKernSubtable ss → subtables_written ss ≡ Ok all → bytes ≡ front ++ all → length front ≡ place
    → in_turn (subtable_at bytes (apples_list count)) (length ss) (record { place = place; left = length ss })
    ≡ Ok (map as_kerning ss)
subtables_are_read [] count bytes front all place small written split long = refl
subtables_are_read (s ∷ ss) count bytes front all place small written split long =
    let one = parts (subtable_written s) (λ b. after_written (subtables_written ss) (λ more. Ok (b ++ more))) all written in
    let plain = not_before s.variable Variable _ one.0 one.1 in
    let body = parts (kind_written s.kind) (λ body. Ok (header_bytes s (length body) ++ body)) one.0 plain.1 in
    let others = parts (subtables_written ss) (λ more. Ok (one.0 ++ more)) all one.2 in
    let made : header_bytes s (length body.0) ++ body.0 ≡ one.0 = same_ok (header_bytes s (length body.0) ++ body.0) one.0 body.2 in
    let joined : one.0 ++ others.0 ≡ all = same_ok (one.0 ++ others.0) all others.2 in
    let here : bytes ≡ front ++ ((header_bytes s (length body.0) ++ body.0) ++ others.0) =
    split ∙ ap (λ (b : List ℕ). front ++ b) (sym joined) ∙ ap (λ (b : List ℕ). front ++ (b ++ others.0)) (sym made) in
    let behind : bytes ≡ (front ++ (header_bytes s (length body.0) ++ body.0)) ++ others.0 =
    here ∙ sym (append_assoc front (header_bytes s (length body.0) ++ body.0) others.0) in
    let end : ℕ = length front + (8 + length body.0) in
    let first = subtable_is_read s body.0 front others.0 bytes body.1 here count (suc (length ss)) plain.0 (small 0 s (omega arith))
    (λ last. nothing_left ss others.0 last others.1) in
    let less : suc (length ss) - 1 ≡ length ss = omega arith in
    let next : KernStart = record { place = end; left = length ss } in
    let start_at : ℕ → KernStart = λ n. record { place = n; left = suc (length ss) } in
    let next_with : ℕ → KernStart = λ n. record { place = end; left = n } in
    let read_first : subtable_at bytes (apples_list count) (start_at place) ≡ Ok (as_kerning s, next) =
    ap (λ n. subtable_at bytes (apples_list count) (start_at n)) (sym long)
    ∙ first ∙ ap (λ n. Ok (as_kerning s, next_with n)) less in
    let long_next : length (front ++ (header_bytes s (length body.0) ++ body.0)) ≡ end =
    omega (arith, length-append front (header_bytes s (length body.0) ++ body.0), length-append (header_bytes s (length body.0)) body.0, header_long s body.0 front others.0 bytes body.1 here) in
    let read_others = subtables_are_read ss count bytes (front ++ (header_bytes s (length body.0) ++ body.0)) others.0 end
    (λ k d lt. small (suc k) d (omega arith)) others.1 behind long_next in
    in_turn_more (subtable_at bytes (apples_list count)) (length ss) (start_at place) next (as_kerning s) (map as_kerning ss)
    read_first read_others
