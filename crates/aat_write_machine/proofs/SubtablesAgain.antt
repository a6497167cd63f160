-- Subtables that are written are read again, where their bodies are.
use Rattle.std.proofs.Common.{◌≡◌, ℕ, zero, suc, ◌+◌, ◌*◌, ◌/◌, ◌%◌, ◌<◌, ◌≤◌, ◌^◌, List, [], ◌∷◌, ◌++◌, length, get_or, take, cond, All, Result, Ok, refl, sym, ap, ◌∙◌, append_assoc, arith}
use Rattle.std.specs.Prelude.{bit_and, sum_by}
use Rattle.std.specs.List.{AllZip, flat_map}
use Rattle.std.proofs.Math.Seq.{take-append-add}
use Rattle.std.proofs.lemmas.Bool.{le-ltb}
use Rattle.std.proofs.lemmas.List.{length-append}
use Rattle.std.proofs.lemmas.List.Sums.{sum_by-cons}
use Rattle.aat_bytes.specs.Faults.{after}
use Rattle.aat_bytes.specs.Numbers.{be32}
use Rattle.aat_bytes.specs.declared.error.Fault.{Fault}
use Rattle.aat_machine_tables.specs.declared.morx.Coverage.{Coverage}
use Rattle.aat_machine_tables.specs.declared.morx.Subtable.{Subtable}
use Rattle.aat_machine_tables.specs.declared.morx.SubtableKind.{SubtableKind}
use Rattle.aat_read_machine.specs.SubtableKinds.{subtable_kind_at}
use Rattle.aat_read_extended.specs.morx.ChainSubtables.{coverage_at, flags_at, is_known, kind_at, subtable_at}
use Rattle.aat_read_machine.specs.InTurn.{in_turn}
use Rattle.aat_read_extended.specs.morx.InTurn.{end_at}
use Rattle.aat_write_machine.specs.ChainBytes.{SubtableContent, coverage_number, subtable_bytes, subtable_header, subtable_size}
use Rattle.aat_write_machine.specs.MachineLaws.{IsLong}
use Rattle.aat_write_machine.specs.ChainLaws.{DoesAsRead, IsReadable, IsSameSubtable, IsSubtable}
use Rattle.aat_write_machine.specs.Words.{long_bytes}
use Rattle.aat_write_machine.specs.facts.LongPlaces.{length_longs, long_at}

-- a record whose length stands in it ends behind it
pub end_is :
    (bytes : List ℕ) (place header field size : ℕ)
    → be32 bytes (place + field) ≡ size → header ≤ size → place + size ≤ length bytes
    → end_at bytes place header field ≡ Ok (place + size)
unfolding end_at
end_is bytes place header field size is low high =
    let inside : place + header ≤ length bytes = omega arith in
    rw (le-ltb (length bytes) (place + header) inside)
    (rw is (rw (le-ltb size header low) (rw (le-ltb (length bytes) (place + size) high) refl)))

-- one record more
pub in_turn_more :
    {S X : Type 0} (read : S → Result (X × S) Fault) (count : ℕ) (start next : S) (x : X) (xs : List X)
    → read start ≡ Ok (x, next) → in_turn read count next ≡ Ok xs → in_turn read (suc count) start ≡ Ok (x ∷ xs)
in_turn_more read count start next x xs first rest = rw first (rw rest refl)

-- bytes that are cut behind a part of them
pub cut :
    (bytes front part rest : List ℕ) (end more : ℕ)
    → bytes ≡ front ++ (part ++ rest) → end ≡ length front + (length part + more)
    → take end bytes ≡ front ++ (part ++ take more rest)
cut bytes front part rest end more split is =
    ap (λ n. take n bytes) is
    ∙ ap (λ (b : List ℕ). take (length front + (length part + more)) b) split
    ∙ take-append-add front (part ++ rest) (length part + more)
    ∙ ap (λ (xs : List ℕ). front ++ xs) (take-append-add part rest more)

-- a subtable of a size
pub subtable_long : (s : SubtableContent) → length (subtable_bytes s) ≡ subtable_size s
subtable_long s =
    omega (arith, length-append (long_bytes (subtable_header s)) s.body, length_longs (subtable_header s))

pub subtables_long : (ss : List SubtableContent) → length (flat_map subtable_bytes ss) ≡ sum_by subtable_size ss
subtables_long [] = refl
subtables_long (s ∷ ss) =
    length-append (subtable_bytes s) (flat_map subtable_bytes ss)
    ∙ omega (arith, subtable_long s, subtables_long ss, sum_by-cons subtable_size s ss)

three_longs : (a b c : ℕ) → IsLong a → IsLong b → IsLong c → All IsLong (a ∷ b ∷ c ∷ [])
three_longs a b c one two three zero d below = one
three_longs a b c one two three (suc zero) d below = two
three_longs a b c one two three (suc (suc zero)) d below = three
three_longs a b c one two three (suc (suc (suc k))) d below = absurd (omega arith)

-- the numbers of the header of a subtable stand at their places
module _ (s : SubtableContent) (small : IsSubtable s) (short : subtable_size s < 2 ^ 32) where
  header_read :
      (bytes front rest : List ℕ) (place i : ℕ)
      → bytes ≡ front ++ (subtable_bytes s ++ rest) → i < 3 → length front + 4 * i ≡ place
      → be32 bytes place ≡ get_or (subtable_header s) i 0
  header_read bytes front rest place i split below at =
      let kind = small.0 in
      let coverage = small.2.0 in
      let number : IsLong (coverage_number s) = omega (arith, kind, coverage) in
      let longs : All IsLong (subtable_header s) =
      three_longs (subtable_size s) (coverage_number s) s.feature_flags short number small.3 in
      ap (λ (b : List ℕ). be32 b place) split
      ∙ ap (λ (xs : List ℕ). be32 (front ++ xs) place) (append_assoc (long_bytes (subtable_header s)) s.body rest)
      ∙ long_at (subtable_header s) front (s.body ++ rest) place i (omega arith) longs at

  module _ (bytes front rest : List ℕ) (place : ℕ) (split : bytes ≡ front ++ (subtable_bytes s ++ rest)) (long : length front ≡ place) where
    second : be32 bytes (place + 4) ≡ coverage_number s
    second = header_read bytes front rest (place + 4) 1 split (omega arith) (omega (arith, long))

    kind_read : kind_at bytes place ≡ s.kind
    kind_read =
        let kind = small.0 in
        ap (λ n. n % 256) second ∙ omega (arith, kind)

    coverage_read : coverage_at bytes place ≡ s.coverage
    coverage_read =
        let kind = small.0 in
        let byte : coverage_number s / 16777216 ≡ s.coverage.0 = omega (arith, kind) in
        let of : ℕ → Coverage = λ n. record { 0 = n } in
        ap (λ n. of (bit_and (n / 16777216) 240)) second ∙ ap (λ n. of (bit_and n 240)) byte ∙ ap of small.2.1

    flags_read : flags_at bytes place ≡ s.feature_flags
    flags_read =
        let third : be32 bytes (place + 8) ≡ s.feature_flags = header_read bytes front rest (place + 8) 2 split (omega arith) (omega (arith, long)) in
        ap (λ k. cond (is_known k) (be32 bytes (place + 8)) 0) kind_read
        ∙ ap (λ b. cond b (be32 bytes (place + 8)) 0) small.1
        ∙ third

    ended : (last more : ℕ) → last ≡ place + (subtable_size s + more) → end_at (take last bytes) place 12 0 ≡ Ok (place + subtable_size s)
    ended last more end =
        let is : take last bytes ≡ front ++ (subtable_bytes s ++ take more rest) =
        cut bytes front (subtable_bytes s) rest last more split (omega (arith, end, subtable_long s, long)) in
        let first : be32 (take last bytes) (place + 0) ≡ subtable_size s =
        header_read (take last bytes) front (take more rest) (place + 0) 0 is (omega arith) (omega (arith, long)) in
        let inside : place + subtable_size s ≤ length (take last bytes) =
        omega (arith, ap length is, length-append front (subtable_bytes s ++ take more rest), length-append (subtable_bytes s) (take more rest), subtable_long s, long) in
        end_is (take last bytes) place 12 0 (subtable_size s) first (omega arith) inside

    does_read :
        (glyph_count : ℕ) (allowance : ℕ) → IsReadable glyph_count s
        → (does : SubtableKind)
        × (subtable_kind_at (take (place + subtable_size s + allowance) bytes) (place + 12) s.kind glyph_count ≡ Ok does)
        × DoesAsRead glyph_count s does
    does_read glyph_count allowance readable =
        let header : List ℕ = long_bytes (subtable_header s) in
        let behind : List ℕ = take allowance rest in
        let is : take (place + subtable_size s + allowance) bytes ≡ front ++ (subtable_bytes s ++ behind) =
        cut bytes front (subtable_bytes s) rest (place + subtable_size s + allowance) allowance split (omega (arith, subtable_long s, long)) in
        let parts : take (place + subtable_size s + allowance) bytes ≡ (front ++ header) ++ (s.body ++ behind) =
        is
        ∙ ap (λ (xs : List ℕ). front ++ xs) (append_assoc header s.body behind)
        ∙ sym (append_assoc front header (s.body ++ behind)) in
        let at : place + 12 ≡ length (front ++ header) =
        omega (arith, length-append front header, length_longs (subtable_header s), long) in
        let there = readable (front ++ header) behind in
        let read : subtable_kind_at (take (place + subtable_size s + allowance) bytes) (place + 12) s.kind glyph_count ≡ Ok there.0 =
        ap (λ (b : List ℕ). subtable_kind_at b (place + 12) s.kind glyph_count) parts
        ∙ ap (λ n. subtable_kind_at ((front ++ header) ++ (s.body ++ behind)) n s.kind glyph_count) at
        ∙ there.1 in
        (there.0, read, (front ++ header, behind, there.1))

-- a subtable whose parts are read
subtable_by :
    (bytes : List ℕ) (glyph_count last more place end kind : ℕ) (does : SubtableKind)
    → end_at (take last bytes) place 12 0 ≡ Ok end
    → kind_at bytes place ≡ kind
    → subtable_kind_at (take (end + more) bytes) (place + 12) kind glyph_count ≡ Ok does
    → subtable_at bytes glyph_count (record { end = last; allowance = more }) place
    ≡ Ok (record { kind = does; coverage = coverage_at bytes place; feature_flags = flags_at bytes place }, end)
unfolding subtable_at
subtable_by bytes glyph_count last more place end kind does ended is read =
    let subtable : SubtableKind → Subtable × ℕ =
    λ k. (record { kind = k; coverage = coverage_at bytes place; feature_flags = flags_at bytes place }, end) in
    ap (λ (r : Result ℕ Fault). after r (λ e.
    after (subtable_kind_at (take (e + more) bytes) (place + 12) (kind_at bytes place) glyph_count) (λ k.
    Ok (record { kind = k; coverage = coverage_at bytes place; feature_flags = flags_at bytes place }, e)))) ended
    ∙ ap (λ n. after (subtable_kind_at (take (end + more) bytes) (place + 12) n glyph_count) (λ k. Ok (subtable k))) is
    ∙ ap (λ (r : Result SubtableKind Fault). after r (λ k. Ok (subtable k))) read

-- the subtables of a chain, which ends behind them
pub subtables_are_read :
    (ss : List SubtableContent) (bytes front rest : List ℕ) (place glyph_count last allowance : ℕ)
    → bytes ≡ front ++ (flat_map subtable_bytes ss ++ rest) → length front ≡ place
    → last ≡ place + sum_by subtable_size ss → sum_by subtable_size ss < 2 ^ 32
    → All IsSubtable ss → All (IsReadable glyph_count) ss
    → (read : List Subtable)
    × (in_turn (subtable_at bytes glyph_count (record { end = last; allowance = allowance })) (length ss) place ≡ Ok read)
    × AllZip (IsSameSubtable (DoesAsRead glyph_count)) ss read
subtables_are_read [] bytes front rest place glyph_count last allowance split long end short small readable = ([], refl, tt)
subtables_are_read (s ∷ ss) bytes front rest place glyph_count last allowance split long end short small readable =
    let tail : List ℕ = flat_map subtable_bytes ss in
    let size : ℕ = subtable_size s in
    let more : ℕ = sum_by subtable_size ss in
    let total : sum_by subtable_size (s ∷ ss) ≡ size + more = sum_by-cons subtable_size s ss in
    let here : bytes ≡ front ++ (subtable_bytes s ++ (tail ++ rest)) =
    split ∙ ap (λ (xs : List ℕ). front ++ xs) (append_assoc (subtable_bytes s) tail rest) in
    let behind : bytes ≡ (front ++ subtable_bytes s) ++ (tail ++ rest) =
    here ∙ sym (append_assoc front (subtable_bytes s) (tail ++ rest)) in
    let is : IsSubtable s = small 0 s (omega arith) in
    let reads : IsReadable glyph_count s = readable 0 s (omega arith) in
    let fits : size < 2 ^ 32 = omega (arith, short, total) in
    let ends : last ≡ place + (size + more) = omega (arith, end, total) in
    let does = does_read s is fits bytes front (tail ++ rest) place here long glyph_count allowance reads in
    let one : Subtable = record { kind = does.0; coverage = coverage_at bytes place; feature_flags = flags_at bytes place } in
    let first : subtable_at bytes glyph_count (record { end = last; allowance = allowance }) place ≡ Ok (one, place + size) =
    subtable_by bytes glyph_count last allowance place (place + size) s.kind does.0
    (ended s is fits bytes front (tail ++ rest) place here long last more ends)
    (kind_read s is fits bytes front (tail ++ rest) place here long) does.1 in
    let same : IsSameSubtable (DoesAsRead glyph_count) s one =
    (does.2, coverage_read s is fits bytes front (tail ++ rest) place here long, flags_read s is fits bytes front (tail ++ rest) place here long) in
    let long_next : length (front ++ subtable_bytes s) ≡ place + size =
    omega (arith, length-append front (subtable_bytes s), subtable_long s, long) in
    let others =
    subtables_are_read ss bytes (front ++ subtable_bytes s) rest (place + size) glyph_count last allowance behind long_next
    (omega (arith, ends)) (omega (arith, short, total))
    (λ k d lt. small (suc k) d (omega arith)) (λ k d lt. readable (suc k) d (omega arith)) in (
      one ∷ others.0,
      in_turn_more (subtable_at bytes glyph_count (record { end = last; allowance = allowance })) (length ss) place (place + size) one others.0 first others.1,
      (same, others.2),
    )
