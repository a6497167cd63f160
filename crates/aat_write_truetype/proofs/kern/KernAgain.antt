-- A kerning table that is written is read again.
use Rattle.std.proofs.Common.{◌≡◌, ℕ, zero, suc, ◌<◌, ◌≤◌, ◌^◌, List, [], ◌∷◌, ◌++◌, length, map, All, Result, Ok, refl, sym, ap, ◌∙◌, append_assoc, arith}
use Rattle.std.proofs.lemmas.Bool.{le-ltb}
use Rattle.std.proofs.lemmas.List.{length-append}
use Rattle.aat_bytes.specs.Faults.{after}
use Rattle.aat_bytes.specs.Numbers.{be16, be32}
use Rattle.aat_bytes.specs.declared.error.Fault.{Fault}
use Rattle.std.specs.List.{filter_map}
use Rattle.aat_kerning_tables.specs.declared.kern.KernSubtable.{KernSubtable}
use Rattle.aat_read_kern.specs.Kern.{as_kerning, kern_value, kerning_of, left_out_of, list_of, value_of_subtables}
use Rattle.aat_write_machine.specs.Words.{long_bytes, word_bytes}
use Rattle.aat_write_machine.specs.facts.LongPlaces.{length_longs, long_at}
use Rattle.aat_write_machine.specs.facts.WordPlaces.{AreWords, length_words, word_at}
use Rattle.aat_write_truetype.specs.kern.KernBytes.{subtables_written}
use Rattle.aat_write_truetype.specs.kern.KernLaws.{WrittenKernIsRead}
use Rattle.aat_write_truetype.proofs.kern.Opened.{parts, same_ok}
use Rattle.aat_write_truetype.proofs.kern.Readers.{KernList, SubtableRead, apples_list}
use Rattle.aat_write_truetype.proofs.kern.SubtablesAgain.{subtables_are_read}

one_long : (a : ℕ) → a < 2 ^ 32 → All (λ n. n < 2 ^ 32) (a ∷ [])
one_long a small zero d below = small
one_long a small (suc k) d below = absurd (omega arith)

-- a table of Apple's version
list_by :
    (bytes : List ℕ) (count : ℕ) → 8 ≤ length bytes → be16 bytes 0 ≡ 1 → be32 bytes 4 ≡ count → count ≤ 65535
    → list_of bytes ≡ Ok (apples_list count)
unfolding list_of
list_by bytes count long version counted few =
    let four : 4 ≤ length bytes = omega arith in
    rw (le-ltb (length bytes) 4 four)
    (rw version (rw (le-ltb (length bytes) 8 long) (rw counted (rw (le-ltb 65535 count few) refl))))

-- subtables that kern are in the table, and none of them is left out
all_kern : (ss : List KernSubtable) → filter_map kerning_of (map as_kerning ss) ≡ ss
all_kern [] = refl
all_kern (s ∷ ss) = ap (λ (xs : List KernSubtable). s ∷ xs) (all_kern ss)

none_is_left_out : (ss : List KernSubtable) → filter_map left_out_of (map as_kerning ss) ≡ []
none_is_left_out [] = refl
none_is_left_out (s ∷ ss) = none_is_left_out ss

kerning_value : (ss : List KernSubtable) → kern_value (map as_kerning ss) ≡ record { subtables = ss; left_out = [] }
kerning_value ss = cc (all_kern ss, none_is_left_out ss)

-- the law
pub written_kern_is_read : WrittenKernIsRead
written_kern_is_read subtables bytes small few is =
    let version : List ℕ = word_bytes (1 ∷ 0 ∷ []) in
    let count : List ℕ = long_bytes (length subtables ∷ []) in
    let all = parts (subtables_written subtables) (λ b. Ok ((version ++ count) ++ b)) bytes is in
    let split : bytes ≡ (version ++ count) ++ all.0 = sym (same_ok ((version ++ count) ++ all.0) bytes all.2) in
    let apart : bytes ≡ version ++ (count ++ all.0) = split ∙ append_assoc version count all.0 in
    let are_words : AreWords (1 ∷ 0 ∷ []) = (omega arith, (omega arith, tt)) in
    let long_version : length version ≡ 4 = length_words (1 ∷ 0 ∷ []) in
    let long_header : length (version ++ count) ≡ 8 =
    omega (arith, length-append version count, long_version, length_longs (length subtables ∷ [])) in
    let is_version : be16 bytes 0 ≡ 1 =
    ap (λ (b : List ℕ). be16 b 0) apart ∙ word_at (1 ∷ 0 ∷ []) [] (count ++ all.0) 0 0 (omega arith) are_words (omega arith) in
    let is_count : be32 bytes 4 ≡ length subtables =
    ap (λ (b : List ℕ). be32 b 4) apart
    ∙ long_at (length subtables ∷ []) version all.0 4 0 (omega arith) (one_long (length subtables) (omega (arith, few))) (omega (arith, long_version)) in
    let header : 8 ≤ length bytes = omega (arith, ap length split, length-append (version ++ count) all.0, long_header) in
    ap (λ (r : Result KernList Fault). after r (value_of_subtables bytes))
    (list_by bytes (length subtables) header is_version is_count few)
    ∙ ap (λ (r : Result (List SubtableRead) Fault). after r (λ reads. Ok (kern_value reads)))
    (subtables_are_read subtables (length subtables) bytes (version ++ count) all.0 8 small all.1 split long_header)
    ∙ ap Ok (kerning_value subtables)
