-- The data of each glyph is found again at its offsets.
use Rattle.std.proofs.Common.{◌≡◌, ◌∙◌, ap, refl, sym, ℕ, ◌+◌, ◌-◌, ◌*◌, ◌<◌, ◌≤◌, ◌^◌, Bool, true, cond, List, [], ◌++◌, length, get_or, map, take, drop, All, Option, Some, None, Result, Ok, Err, append_assoc, length-append, zero-add, arith}
use Rattle.std.specs.Prelude.{◌&&◌, nat_le, slice_range}
use Rattle.std.specs.List.{range_with_len}
use Rattle.std.proofs.lemmas.Bool.{lt-ltb}
use Rattle.std.proofs.lemmas.Bool.Decides.{nat_tests}
use Rattle.std.proofs.lemmas.List.{append-nil, drop_at, take_at, take-append-drop}
use Rattle.std.proofs.lemmas.List.Concat.{flat_map-append}
use Rattle.std.proofs.lemmas.List.FromFn.{get_or-map-range_with_len, length-map-range_with_len}
use Rattle.aat_bytes.specs.Faults.{after, fault_at}
use Rattle.aat_bytes.specs.Numbers.{be32, u32_at}
use Rattle.aat_bytes.specs.declared.error.Fault.{Fault}
use Rattle.aat_bytes.specs.declared.error.FaultKind.TheVariants.{Missing}
use Rattle.aat_bytes.specs.declared.tags.TheConstants.{LOCA}
use Rattle.aat_read_outlines.specs.Glyphs.{GlyphBytes}
use Rattle.aat_read_outlines.specs.Offsets.{OutlineTables, bytes_between, entry_fault, entry_place, glyph_bytes, offset_at}
use Rattle.aat_read_outlines.specs.Outlines.{PointLists}
use Rattle.aat_write_machine.specs.facts.LongPlaces.{length_longs, long_at}
use Rattle.aat_write_truetype.specs.outlines.GlyphData.{glyph_data}
use Rattle.aat_write_truetype.specs.outlines.OutlineLaws.{tables_over}
use Rattle.aat_write_truetype.specs.outlines.Tables.{Written, glyf_bytes, loca_bytes, offset_of}
use Rattle.aat_write_truetype.proofs.outlines.Offsets.{data_more, part_short}

-- a number of 32 bits that is there
long_there : (bytes : List ℕ) (place number : ℕ) → place + 4 ≤ length bytes → be32 bytes place ≡ number → u32_at bytes place ≡ Some number
unfolding u32_at
long_there bytes place number within is =
    let test : nat_le (place + 4) (length bytes) ≡ true = grind (arith, nat_tests, within) in
    ap (λ (b : Bool). cond b (Some (be32 bytes place)) None) test ∙ ap Some is

-- a part of a list
part :
    (front middle rest : List ℕ) (start end : ℕ)
    → start ≡ length front
    → end ≡ length front + length middle
    → slice_range (front ++ (middle ++ rest)) start end ≡ middle
part front middle rest start end begins ends =
    let size : length middle ≡ end - start = omega arith in
    ap (take (end - start)) (drop_at front (middle ++ rest) start (sym begins))
    ∙ take_at middle rest (end - start) size

two_tests : (a b : ℕ) (c : ℕ) → a ≤ b → b ≤ c → (nat_le a b && nat_le b c) ≡ true
two_tests a b c low high =
    let first : nat_le a b ≡ true = grind (arith, nat_tests, low) in
    let second : nat_le b c ≡ true = grind (arith, nat_tests, high) in
    ap (λ (x : Bool). x && nat_le b c) first ∙ second

module _ (outlines : List PointLists) (short : length (glyf_bytes outlines) ≤ 4294967295) where
  abbrev count : ℕ
  count = length outlines

  abbrev written : Written
  written = record { glyf = glyf_bytes outlines; loca = loca_bytes outlines }

  abbrev tables : OutlineTables
  tables = tables_over written count

  abbrev offsets : List ℕ
  offsets = map (offset_of outlines) (range_with_len 0 (count + 1))

  offset_is : (k d : ℕ) → k ≤ count → get_or offsets k d ≡ offset_of outlines k
  offset_is k d below = get_or-map-range_with_len (offset_of outlines) 0 (count + 1) k k d (omega (arith, below)) (zero-add k)

  offsets_count : length offsets ≡ count + 1
  offsets_count = length-map-range_with_len (offset_of outlines) 0 (count + 1)

  offsets_small : All (λ n. n < 2 ^ 32) offsets
  offsets_small k d below =
      let inside : k ≤ count = omega (arith, below, offsets_count) in
      omega (arith, offset_is k d inside, part_short outlines k, short)

  -- each offset is read again
  offset_read : (k : ℕ) → k ≤ count → offset_at tables k ≡ Ok (offset_of outlines k)
  offset_read k below =
      let number : be32 (loca_bytes outlines) (4 * k) ≡ offset_of outlines k =
      ap (λ (b : List ℕ). be32 b (4 * k)) (sym (append-nil (loca_bytes outlines)))
      ∙ long_at offsets [] [] (4 * k) k (omega (arith, below, offsets_count)) offsets_small (omega arith)
      ∙ offset_is k 0 below in
      let within : 4 * k + 4 ≤ length (loca_bytes outlines) = omega (arith, below, length_longs offsets, offsets_count) in
      ap (λ (o : Option ℕ). elim o [ Some offset ↦ Ok offset | None ↦ Err (entry_fault tables k) ])
      (long_there (loca_bytes outlines) (4 * k) (offset_of outlines k) within number)

  module _ (glyph : ℕ) (outline : PointLists) (below : glyph < count) (is : outline ≡ get_or outlines glyph outline) where
    abbrev front : List ℕ
    front = glyf_bytes (take glyph outlines)

    abbrev rest : List ℕ
    rest = glyf_bytes (drop (glyph + 1) outlines)

    more : front ++ glyph_data outline ≡ glyf_bytes (take (glyph + 1) outlines)
    more = data_more outlines glyph outline front (front ++ glyph_data outline) below is refl refl

    all : glyf_bytes outlines ≡ front ++ (glyph_data outline ++ rest)
    all =
        ap glyf_bytes (sym (take-append-drop (glyph + 1) outlines))
        ∙ flat_map-append glyph_data (take (glyph + 1) outlines) (drop (glyph + 1) outlines)
        ∙ ap (λ (b : List ℕ). b ++ rest) (sym more)
        ∙ append_assoc front (glyph_data outline) rest

    stop : offset_of outlines (glyph + 1) ≡ offset_of outlines glyph + length (glyph_data outline)
    stop = sym (ap length more) ∙ length-append front (glyph_data outline)

    between :
        bytes_between tables glyph (offset_of outlines glyph) (offset_of outlines (glyph + 1))
        ≡ Ok (record { bytes = glyph_data outline; place = offset_of outlines glyph })
    between =
        let start = offset_of outlines glyph in
        let end = offset_of outlines (glyph + 1) in
        let found : List ℕ → Result GlyphBytes Fault = λ (b : List ℕ). Ok (record { bytes = b; place = start }) in
        let inside = two_tests start end (length (glyf_bytes outlines)) (omega (arith, stop)) (part_short outlines (glyph + 1)) in
        ap (λ (b : Bool). cond b (found (slice_range (glyf_bytes outlines) start end)) (Err (entry_fault tables (glyph + 1)))) inside
        ∙ ap (λ (b : List ℕ). found (slice_range b start end)) all
        ∙ ap found (part front (glyph_data outline) rest start end refl stop)

    -- the bytes of a glyph are the data of its outline
    pub data_again : glyph_bytes tables glyph ≡ Ok (record { bytes = glyph_data outline; place = offset_of outlines glyph })
    data_again =
        let second : ℕ → Result GlyphBytes Fault = λ (start : ℕ). after (offset_at tables (glyph + 1)) (bytes_between tables glyph start) in
        ap (λ (b : Bool). cond b (after (offset_at tables glyph) second) (Err (fault_at LOCA Missing (entry_place tables glyph)))) (lt-ltb glyph count below)
        ∙ ap (λ (r : Result ℕ Fault). after r second) (offset_read glyph (omega (arith, below)))
        ∙ ap (λ (r : Result ℕ Fault). after r (bytes_between tables glyph (offset_of outlines glyph))) (offset_read (glyph + 1) (omega (arith, below)))
        ∙ between
