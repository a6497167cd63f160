-- The units of a lookup, appended behind what is there already.
use Rattle.std.proofs.Common.{◌≡◌, ◌≤◌, ◌+◌, ℕ, List, [], ◌∷◌, ◌++◌, length, Bool, Option, None, Ok, Err, sym, ap, ◌∙◌, append_assoc, if◌then◌else◌}
use Rattle.std.specs.Prelude.{nat_lt}
use Rattle.std.specs.Int.{w16, to_be_bytes}
use Rattle.std.specs.List.{flat_map}
use Rattle.std.proofs.lemmas.Bool.{le-ltb}
use Rattle.std.proofs.lemmas.List.Concat.{flat_map-append}
use Rattle.aat_lookup.specs.Keys.{first, first_fall}
use Rattle.aat_write_machine.specs.Lookups.{lookup_words, lookup_written, pair_words}
use Rattle.aat_write_machine.specs.Words.{word_bytes}
use Rattle.aat_write_machine.specs.WriteErrors.{behind, unless_refused}
use Rattle.aat_write_machine.specs.declared.write_error.WriteError.TheVariants.{TooMany}

-- the words in front, the units and the terminator are the bytes of a lookup
pub lookup_is_appended :
    (pairs : List (ℕ × ℕ)) (old begun listed new : List ℕ)
    → first_fall first pairs ≡ None → length pairs ≤ 65534
    → begun ≡ old ++ word_bytes (6 ∷ 4 ∷ (length pairs + 1) ∷ 0 ∷ 0 ∷ 0 ∷ []) → listed ≡ begun ++ word_bytes (flat_map pair_words pairs)
    → new ≡ listed ++ word_bytes (65535 ∷ 65535 ∷ []) → behind old (lookup_written pairs) ≡ Ok new
lookup_is_appended pairs old begun listed new rises few is_begun is_listed is_new =
    let front : List ℕ = 6 ∷ 4 ∷ (length pairs + 1) ∷ 0 ∷ 0 ∷ 0 ∷ [] in
    let units : List ℕ = flat_map pair_words pairs in
    let end : List ℕ = 65535 ∷ 65535 ∷ [] in
    let all = word_bytes (lookup_words pairs) in
    let parts : all ≡ word_bytes front ++ (word_bytes units ++ word_bytes end) =
    flat_map-append (to_be_bytes w16) front (units ++ end) ∙ ap (λ (bs : List ℕ). word_bytes front ++ bs) (flat_map-append (to_be_bytes w16) units end) in
    let made : new ≡ old ++ (word_bytes front ++ (word_bytes units ++ word_bytes end)) =
    is_new
    ∙ ap (λ (bs : List ℕ). bs ++ word_bytes end) (is_listed ∙ ap (λ (bs : List ℕ). bs ++ word_bytes units) is_begun)
    ∙ append_assoc (old ++ word_bytes front) (word_bytes units) (word_bytes end)
    ∙ append_assoc old (word_bytes front) (word_bytes units ++ word_bytes end) in
    ap (λ (o : Option ℕ). behind old (unless_refused o (nat_lt 65534 (length pairs)) all)) rises
    ∙ ap (λ (many : Bool). behind old (if many then Err TooMany else Ok all)) (le-ltb 65534 (length pairs) few)
    ∙ ap Ok (ap (λ (bs : List ℕ). old ++ bs) parts ∙ sym made)
