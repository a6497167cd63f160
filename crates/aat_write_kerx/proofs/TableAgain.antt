-- An extended kerning table that is written is read again, if its formats are.
use Rattle.std.proofs.Common.{◌≡◌, ℕ, zero, suc, ◌+◌, ◌%◌, ◌^◌, ◌<◌, ◌≤◌, List, [], ◌∷◌, ◌++◌, length, take, Bool, true, false, not, cond, Some, None, Result, Ok, Err, All, refl, sym, ap, ◌∙◌, subst, append_assoc, arith}
use Rattle.std.specs.Prelude.{nat_le, sum_by, ◌==◌}
use Rattle.std.specs.List.{AllZip, filter_map, flat_map}
use Rattle.std.proofs.lemmas.Bool.{le-ltb}
use Rattle.std.proofs.lemmas.Bool.Decides.{nat_tests}
use Rattle.std.proofs.lemmas.List.{append-nil, length-append, take_at}
use Rattle.std.proofs.lemmas.List.Sums.{sum_by-cons}
use Rattle.aat_bytes.specs.Faults.{after}
use Rattle.aat_bytes.specs.Numbers.{be16, be32}
use Rattle.aat_bytes.specs.declared.error.Fault.{Fault}
use Rattle.aat_kerning_tables.specs.declared.kerx.KerxFormat.{KerxFormat}
use Rattle.aat_kerning_tables.specs.declared.kerx.KerxSubtable.{KerxSubtable}
use Rattle.aat_read_machine.specs.InTurn.{in_turn}
use Rattle.aat_read_extended.specs.kerx.Formats.{as_format, format_at}
use Rattle.aat_read_extended.specs.kerx.KerxSubtables.{KerxStart, end_at, format_of, format_up_to, has_coverage, is_variable, read_and_next, subtable_at, subtable_of, subtable_read, tuple_count_of, used_bytes}
use Rattle.aat_read_extended.specs.kerx.KerxTables.{KerxValue, kerning_of, kerx_of, kerx_value, left_out_of}
use Rattle.aat_read_pairs.specs.declared.left_out.LeftOutSubtable.{LeftOutSubtable}
use Rattle.aat_write_machine.specs.Words.{long_bytes, word_bytes}
use Rattle.aat_write_machine.specs.facts.LongPlaces.{length_longs, long_at}
use Rattle.aat_write_kerx.specs.KerxBytes.{SubtableContent, contents_from, coverage_number, format_number, format_written, subtable_bytes, subtable_content, subtable_size, table_bytes, table_size, table_written}
use Rattle.aat_write_kerx.specs.KerxLaws.{IsTypedSubtable, WrittenFormatsAreRead, WrittenKerxIsRead}
use Rattle.aat_write_kerx.specs.KerxWriteErrors.{after_written, of_subtable}
use Rattle.aat_write_kerx.specs.declared.kerx_error.KerxWriteError.{KerxWriteError}
use Rattle.aat_write_kerx.specs.declared.kerx_error.KerxWriteError.TheVariants.{TooLong}
use Rattle.aat_write_kerx.specs.declared.subtable_error.SubtableWriteError.{SubtableWriteError}
use Rattle.aat_write_kerx.specs.declared.subtable_error.SubtableWriteError.TheVariants.{Variable}
use Rattle.aat_write_kerx.proofs.Coverage.{has_bit, has_flags}

not_not : (b : Bool) → not (not b) ≡ b
not_not true = refl
not_not false = refl

-- the end of a subtable whose length stands inside
end_by :
    (bytes : List ℕ) (place size : ℕ)
    → be32 bytes place ≡ size → 12 ≤ size → place + size ≤ length bytes → end_at bytes place ≡ Ok (place + size)
unfolding end_at
end_by bytes place size is long inside =
    rw (le-ltb (length bytes) (place + 12) (omega (arith, long, inside)))
    (rw is (rw (le-ltb size 12 long) (rw (le-ltb (length bytes) (place + size) inside) refl)))

-- the bytes that a subtable may use end with it, if it is the last one or another one follows
used_is :
    (bytes front here later : List ℕ) (count number more end : ℕ)
    → bytes ≡ front ++ (here ++ later) → length front + length here ≡ end → number + 1 + more ≡ count → (more ≡ 0 → later ≡ [])
    → used_bytes bytes count number end ≡ front ++ here
used_is bytes front here later count number zero end split at last none =
    let is_last : (number + 1 == count) ≡ true = let same : number + 1 ≡ count = omega (arith, last) in grind (arith, nat_tests) in
    ap (λ (b : Bool). cond b bytes (take end bytes)) is_last
    ∙ split ∙ ap (λ (ys : List ℕ). front ++ (here ++ ys)) (none refl) ∙ ap (λ (ys : List ℕ). front ++ ys) (append-nil here)
used_is bytes front here later count number (suc more) end split at last none =
    let is_not : (number + 1 == count) ≡ false = let below : number + 1 < count = omega (arith, last) in grind (arith, nat_tests) in
    ap (λ (b : Bool). cond b bytes (take end bytes)) is_not
    ∙ ap (take end) (split ∙ sym (append_assoc front here later))
    ∙ take_at (front ++ here) later end (length-append front here ∙ at)

-- a subtable whose parts are read
subtable_by :
    (bytes : List ℕ) (glyph_count count : ℕ) (start : KerxStart) (end : ℕ) (format : KerxFormat) (s : KerxSubtable)
    → end_at bytes start.place ≡ Ok end
    → format_up_to bytes glyph_count count start end ≡ as_format (λ f. f) (Ok format)
    → subtable_of bytes start.place format ≡ s
    → (read : _) × (subtable_at bytes glyph_count count start ≡ Ok (read, record { place = end; number = start.number + 1 }))
    × (kerning_of read ≡ Some s) × (left_out_of read ≡ None)
unfolding subtable_at
subtable_by bytes glyph_count count start end format s ends does is =
    let first = ap (λ (r : Result ℕ Fault). after r (λ e. after (format_up_to bytes glyph_count count start e) (λ f.
    Ok (read_and_next start.number (subtable_read bytes start f, e))))) ends in
    let second = ap (λ (r : Result _ Fault). after r (λ f. Ok (read_and_next start.number (subtable_read bytes start f, end)))) does in
    (_, first ∙ second, ap Some is, refl)

-- a subtable is its parts
subtable_parts :
    (s : KerxSubtable) (h x v l : Bool) (tuples : ℕ)
    → h ≡ s.horizontal → x ≡ s.has_cross_stream → v ≡ s.variable → l ≡ s.is_last_to_first → tuples ≡ s.tuple_count
    → (record { format = s.format; horizontal = h; has_cross_stream = x; variable = v; is_last_to_first = l; tuple_count = tuples }) ≡ s
subtable_parts s h x v l tuples is_h is_x is_v is_l is_tuples =
    let of_h : Bool → KerxSubtable = λ b. record { format = s.format; horizontal = b; has_cross_stream = x; variable = v; is_last_to_first = l; tuple_count = tuples } in
    let of_x : Bool → KerxSubtable = λ b. record { format = s.format; horizontal = s.horizontal; has_cross_stream = b; variable = v; is_last_to_first = l; tuple_count = tuples } in
    let of_v : Bool → KerxSubtable = λ b. record { format = s.format; horizontal = s.horizontal; has_cross_stream = s.has_cross_stream; variable = b; is_last_to_first = l; tuple_count = tuples } in
    let of_l : Bool → KerxSubtable = λ b. record { format = s.format; horizontal = s.horizontal; has_cross_stream = s.has_cross_stream; variable = s.variable; is_last_to_first = b; tuple_count = tuples } in
    let of_tuples : ℕ → KerxSubtable = λ n. record { format = s.format; horizontal = s.horizontal; has_cross_stream = s.has_cross_stream; variable = s.variable; is_last_to_first = s.is_last_to_first; tuple_count = n } in
    ap of_h is_h ∙ ap of_x is_x ∙ ap of_v is_v ∙ ap of_l is_l ∙ ap of_tuples is_tuples

-- three numbers of 32 bits
three_longs : (a b c : ℕ) → a < 2 ^ 32 → b < 2 ^ 32 → c < 2 ^ 32 → All (λ n. n < 2 ^ 32) (a ∷ b ∷ c ∷ [])
three_longs a b c first second third zero d below = first
three_longs a b c first second third (suc zero) d below = second
three_longs a b c first second third (suc (suc zero)) d below = third
three_longs a b c first second third (suc (suc (suc k))) d below = absurd (omega arith)

-- a subtable with the bytes of its format
abbrev content_of : KerxSubtable → List ℕ → SubtableContent
content_of s body = record { coverage = coverage_number s; tuple_count = s.tuple_count; body = body }

length_subtable : (c : SubtableContent) → length (subtable_bytes c) ≡ subtable_size c
length_subtable c =
    let header : List ℕ = long_bytes (subtable_size c ∷ c.coverage ∷ c.tuple_count ∷ []) in
    length-append header c.body ∙ omega (arith, length_longs (subtable_size c ∷ c.coverage ∷ c.tuple_count ∷ []))

module _ (law : WrittenFormatsAreRead) (glyph_count : ℕ) where
  -- a subtable behind a front
  subtable_is_read :
      (s : KerxSubtable) (body bytes front later : List ℕ) (count number more : ℕ)
      → IsTypedSubtable s → s.variable ≡ false → format_written s.tuple_count s.format ≡ Ok body
      → bytes ≡ front ++ (subtable_bytes (content_of s body) ++ later)
      → 12 + length body < 2 ^ 32 → number + 1 + more ≡ count → (more ≡ 0 → later ≡ [])
      → (read : _)
      × (subtable_at bytes glyph_count count (record { place = length front; number = number })
      ≡ Ok (read, record { place = length front + (12 + length body); number = number + 1 }))
      × (kerning_of read ≡ Some s) × (left_out_of read ≡ None)
  subtable_is_read s body bytes front later count number more typed plain written split small last none =
      let c : SubtableContent = content_of s body in
      let size : ℕ = 12 + length body in
      let place : ℕ = length front in
      let coverage : ℕ = coverage_number s in
      let longs : List ℕ = size ∷ coverage ∷ s.tuple_count ∷ [] in
      let header : List ℕ = long_bytes longs in
      let header_long : length header ≡ 12 = length_longs longs in
      let flags = has_flags s.format (not s.horizontal) s.has_cross_stream s.is_last_to_first in
      let all : All (λ n. n < 2 ^ 32) longs = three_longs size coverage s.tuple_count small (omega (arith, flags.small)) (omega (arith, typed.1)) in
      let at_header : bytes ≡ front ++ (header ++ (body ++ later)) = split ∙ ap (λ (ys : List ℕ). front ++ ys) (append_assoc header body later) in
      let first : be32 bytes place ≡ size =
      ap (λ xs. be32 xs place) at_header ∙ long_at longs front (body ++ later) place 0 (omega arith) all (omega arith) in
      let second : be32 bytes (place + 4) ≡ coverage =
      ap (λ xs. be32 xs (place + 4)) at_header ∙ long_at longs front (body ++ later) (place + 4) 1 (omega arith) all (omega arith) in
      let third : be32 bytes (place + 8) ≡ s.tuple_count =
      ap (λ xs. be32 xs (place + 8)) at_header ∙ long_at longs front (body ++ later) (place + 8) 2 (omega arith) all (omega arith) in
      let long : length bytes ≡ place + size + length later =
      ap length split ∙ omega (arith, length-append front (subtable_bytes c ++ later), length-append (subtable_bytes c) later, length_subtable c) in
      let start : KerxStart = record { place = place; number = number } in
      let ends : end_at bytes place ≡ Ok (place + size) = end_by bytes place size first (omega arith) (omega (arith, long)) in
      let used : used_bytes bytes count number (place + size) ≡ (front ++ header) ++ body =
      used_is bytes front (subtable_bytes c) later count number more (place + size) split (omega (arith, length_subtable c)) last none
      ∙ sym (append_assoc front header body) in
      let at_body : length (front ++ header) ≡ place + 12 = length-append front header ∙ ap (λ n. place + n) header_long in
      let format : format_of bytes place ≡ format_number s.format = ap (λ n. n % 256) second ∙ flags.format_is in
      let bit : is_variable bytes place ≡ false = ap (λ n. has_bit n 0x20000000) second ∙ flags.plain in
      let does : format_up_to bytes glyph_count count start (place + size) ≡ as_format (λ f. f) (Ok s.format) =
      rw bit
      (ap (λ xs. format_at xs place (format_of bytes place) glyph_count (tuple_count_of bytes place)) used
      ∙ ap (λ n. format_at ((front ++ header) ++ body) place n glyph_count (tuple_count_of bytes place)) format
      ∙ ap (format_at ((front ++ header) ++ body) place (format_number s.format) glyph_count) third
      ∙ law s.format s.tuple_count body (front ++ header) place glyph_count typed.0 written at_body) in
      let is : subtable_of bytes place s.format ≡ s =
      subtable_parts s (not (has_coverage bytes place 0x80000000)) (has_coverage bytes place 0x40000000) false
      (has_coverage bytes place 0x10000000) (tuple_count_of bytes place)
      (ap (λ n. not (has_bit n 0x80000000)) second ∙ ap not flags.vertical ∙ not_not s.horizontal)
      (ap (λ n. has_bit n 0x40000000) second ∙ flags.cross)
      (sym plain)
      (ap (λ n. has_bit n 0x10000000) second ∙ flags.last)
      third in
      subtable_by bytes glyph_count count start (place + size) s.format s ends does is

  -- what is written of subtables
  abbrev AreWritten : List KerxSubtable → List SubtableContent → Type 0
  AreWritten subtables contents =
      AllZip (λ s c. IsTypedSubtable s × (s.variable ≡ false) × ((body : List ℕ) × (format_written s.tuple_count s.format ≡ Ok body) × (content_of s body ≡ c))) subtables contents

  no_more : (subtables : List KerxSubtable) (contents : List SubtableContent) → AreWritten subtables contents → length subtables ≡ 0 → flat_map subtable_bytes contents ≡ []
  no_more [] [] are none = refl
  no_more [] (c ∷ contents) are none = absurd are
  no_more (s ∷ subtables) contents are none = absurd (omega (arith, none))

  same_count : (subtables : List KerxSubtable) (contents : List SubtableContent) → AreWritten subtables contents → length contents ≡ length subtables
  same_count [] [] are = refl
  same_count [] (c ∷ contents) are = absurd are
  same_count (s ∷ subtables) [] are = absurd are
  same_count (s ∷ subtables) (c ∷ contents) are = ap suc (same_count subtables contents are.1)

  one_by :
      (bytes : List ℕ) (count more : ℕ) (start next : KerxStart) (read : _) (reads : List _)
      → subtable_at bytes glyph_count count start ≡ Ok (read, next)
      → in_turn (subtable_at bytes glyph_count count) more next ≡ Ok reads
      → in_turn (subtable_at bytes glyph_count count) (suc more) start ≡ Ok (read ∷ reads)
  one_by bytes count more start next read reads one others =
      ap (λ (r : Result (_ × KerxStart) Fault). after r (λ q. after (in_turn (subtable_at bytes glyph_count count) more q.1) (λ xs. Ok (q.0 ∷ xs)))) one
      ∙ ap (λ (r : Result (List _) Fault). after r (λ xs. Ok (read ∷ xs))) others

  subtables_are_read :
      (subtables : List KerxSubtable) (contents : List SubtableContent) (bytes front : List ℕ) (count number : ℕ)
      → AreWritten subtables contents → bytes ≡ front ++ flat_map subtable_bytes contents
      → sum_by subtable_size contents < 2 ^ 32 → number + length subtables ≡ count
      → (reads : List _)
      × (in_turn (subtable_at bytes glyph_count count) (length subtables) (record { place = length front; number = number }) ≡ Ok reads)
      × (filter_map kerning_of reads ≡ subtables) × (filter_map left_out_of reads ≡ [])
  subtables_are_read [] contents bytes front count number are split small last = ([], refl, refl, refl)
  subtables_are_read (s ∷ subtables) [] bytes front count number are split small last = absurd are
  subtables_are_read (s ∷ subtables) (c ∷ contents) bytes front count number are split small last =
      let body : List ℕ = are.0.2.0 in
      let is : content_of s body ≡ c = are.0.2.2 in
      let here : List ℕ = subtable_bytes (content_of s body) in
      let later : List ℕ = flat_map subtable_bytes contents in
      let parted : bytes ≡ front ++ (here ++ later) =
      split ∙ ap (λ (x : SubtableContent). front ++ (subtable_bytes x ++ later)) (sym is) in
      let sized : subtable_size c ≡ 12 + length body = ap subtable_size (sym is) in
      let size : ℕ = 12 + length body in
      let one = subtable_is_read s body bytes front later count number (length subtables) are.0.0 are.0.1 are.0.2.1 parted
      (omega (arith, small, sized, sum_by-cons subtable_size c contents)) (omega (arith, last)) (no_more subtables contents are.1) in
      let longer : length (front ++ here) ≡ length front + size = length-append front here ∙ ap (λ n. length front + n) (length_subtable (content_of s body)) in
      let others = subtables_are_read subtables contents bytes (front ++ here) count (number + 1) are.1
      (parted ∙ sym (append_assoc front here later)) (omega (arith, small, sum_by-cons subtable_size c contents)) (omega (arith, last)) in
      let next : KerxStart = record { place = length front + size; number = number + 1 } in
      let turned = ap (λ (n : ℕ). in_turn (subtable_at bytes glyph_count count) (length subtables) (record { place = n; number = number + 1 })) (sym longer) ∙ others.1 in (
        one.0 ∷ others.0,
        one_by bytes count (length subtables) (record { place = length front; number = number }) next one.0 others.0 one.1 turned,
        rw one.2 (ap (λ xs. s ∷ xs) others.2),
        rw one.3 others.3,
      )

-- a table whose subtables are read
kerx_by :
    (bytes : List ℕ) (glyph_count count : ℕ) (subtables : List KerxSubtable) (reads : List _)
    → 8 ≤ length bytes → be16 bytes 0 ≡ 2 → be32 bytes 4 ≡ count → count ≤ 65535
    → in_turn (subtable_at bytes glyph_count count) count (record { place = 8; number = 0 }) ≡ Ok reads
    → filter_map kerning_of reads ≡ subtables → filter_map left_out_of reads ≡ []
    → kerx_of bytes glyph_count ≡ Ok (record { subtables = subtables; left_out = [] })
unfolding kerx_of
kerx_by bytes glyph_count count subtables reads long version counted few read kerns none =
    let of_kerning : List KerxSubtable → Result KerxValue Fault = λ xs. Ok (record { subtables = xs; left_out = filter_map left_out_of reads }) in
    let of_left : List LeftOutSubtable → Result KerxValue Fault = λ xs. Ok (record { subtables = subtables; left_out = xs }) in
    rw (le-ltb (length bytes) 8 long) (rw version (rw counted (rw (le-ltb 65535 count few)
    (ap (λ (r : Result (List _) Fault). after r (λ xs. Ok (kerx_value xs))) read ∙ ap of_kerning kerns ∙ ap of_left none))))

-- what comes after something is written comes of it
parts :
    {E X Y : Type 0} (written : Result X E) (next : X → Result Y E) (y : Y)
    → after_written written next ≡ Ok y → (x : X) × (written ≡ Ok x) × (next x ≡ Ok y)
parts (Ok x) next y is = (x, refl, is)
parts (Err e) next y is = absurd (let wrong : ⊥ = cc in wrong)

ok_parts : {E X : Type 0} (x y : X) → ◌≡◌ {A = Result X E} (Ok x) (Ok y) → x ≡ y
ok_parts x y is = cc

of_parts : {X : Type 0} (number : ℕ) (written : Result X SubtableWriteError) (x : X) → of_subtable number written ≡ Ok x → written ≡ Ok x
of_parts number (Ok y) x is = cc
of_parts number (Err e) x is = absurd (let wrong : ⊥ = cc in wrong)

-- what is written was not refused by a test before it
not_before :
    {X : Type 0} (b : Bool) (e : SubtableWriteError) (written : Result X SubtableWriteError) (x : X)
    → cond b (Err e) written ≡ Ok x → (b ≡ false) × (written ≡ Ok x)
not_before true e written x is = absurd (let wrong : ⊥ = cc in wrong)
not_before false e written x is = (refl, is)

-- each subtable is written
each_is_written :
    (law : WrittenFormatsAreRead) (glyph_count number : ℕ) (subtables : List KerxSubtable) (contents : List SubtableContent)
    → All IsTypedSubtable subtables → contents_from number subtables ≡ Ok contents → AreWritten law glyph_count subtables contents
each_is_written law glyph_count number [] contents typed is = none contents (ok_parts [] contents is)
  where
    none : (cs : List SubtableContent) → [] ≡ cs → AreWritten law glyph_count [] cs
    none [] same = tt
    none (c ∷ cs) same = absurd (let wrong : ⊥ = cc in wrong)
each_is_written law glyph_count number (s ∷ subtables) contents typed is =
    let one = parts (of_subtable number (subtable_content s)) (λ c. after_written (contents_from (number + 1) subtables) (λ cs. Ok (c ∷ cs))) contents is in
    let more = parts (contents_from (number + 1) subtables) (λ cs. Ok (one.0 ∷ cs)) contents one.2 in
    let whole : one.0 ∷ more.0 ≡ contents = ok_parts (one.0 ∷ more.0) contents more.2 in
    let plain = not_before s.variable Variable _ one.0 (of_parts number (subtable_content s) one.0 one.1) in
    let body = parts (format_written s.tuple_count s.format) (λ b. Ok (content_of s b)) one.0 plain.1 in
    let first : content_of s body.0 ≡ one.0 = ok_parts (content_of s body.0) one.0 body.2 in
    let rest = each_is_written law glyph_count (number + 1) subtables more.0 (λ k d lt. typed (suc k) d (omega arith)) more.1 in
    subst (λ (cs : List SubtableContent). AreWritten law glyph_count (s ∷ subtables) cs) whole
    ((typed 0 s (omega arith), plain.0, (body.0, body.1, first)), rest)

-- a table that is written is not too long
table_parts :
    (long : Bool) (made bytes : List ℕ) → ◌≡◌ {A = Result (List ℕ) KerxWriteError} (cond long (Err TooLong) (Ok made)) (Ok bytes)
    → (long ≡ false) × (made ≡ bytes)
table_parts true made bytes is = absurd (let wrong : ⊥ = cc in wrong)
table_parts false made bytes is = (refl, cc)

-- the law
pub written_kerx_is_read : WrittenFormatsAreRead → WrittenKerxIsRead
written_kerx_is_read law subtables bytes glyph_count typed few is =
    let made = parts (contents_from 0 subtables) table_written bytes is in
    let contents : List SubtableContent = made.0 in
    let table = table_parts (nat_le (2 ^ 32) (table_size contents)) (table_bytes contents) bytes made.2 in
    let short : table_size contents < 2 ^ 32 = below (table_size contents) table.0 in
    let are = each_is_written law glyph_count 0 subtables contents typed made.1 in
    let count : ℕ = length subtables in
    let same : length contents ≡ count = same_count law glyph_count subtables contents are in
    let version : List ℕ = word_bytes (2 ∷ 0 ∷ []) in
    let number : List ℕ = long_bytes (length contents ∷ []) in
    let later : List ℕ = flat_map subtable_bytes contents in
    let counted : be32 (table_bytes contents) 4 ≡ count =
    long_at (length contents ∷ []) version later 4 0 (omega arith) (one_long (length contents) (omega (arith, same, few))) (omega arith) ∙ same in
    let front : List ℕ = version ++ number in
    let front_long : length front ≡ 8 = length-append version number ∙ omega (arith, length_longs (length contents ∷ [])) in
    let split : table_bytes contents ≡ front ++ later = sym (append_assoc version number later) in
    let long : length (table_bytes contents) ≡ 8 + length later = ap length split ∙ omega (arith, length-append front later, front_long) in
    let read = subtables_are_read law glyph_count subtables contents (table_bytes contents) front count 0 are split (omega (arith, short)) (omega arith) in
    let from_8 = ap (λ (n : ℕ). in_turn (subtable_at (table_bytes contents) glyph_count count) count (record { place = n; number = 0 })) (sym front_long) ∙ read.1 in
    subst (λ (b : List ℕ). kerx_of b glyph_count ≡ Ok (record { subtables = subtables; left_out = [] })) table.1
    (kerx_by (table_bytes contents) glyph_count count subtables read.0 (omega (arith, long)) refl counted few from_8 read.2 read.3)
  where
    below : (n : ℕ) → nat_le (2 ^ 32) n ≡ false → n < 2 ^ 32
    below n is = grind (arith, nat_tests)

    one_long : (n : ℕ) → n < 4294967296 → All (λ m. m < 2 ^ 32) (n ∷ [])
    one_long n small zero d lt = small
    one_long n small (suc k) d lt = absurd (omega arith)
