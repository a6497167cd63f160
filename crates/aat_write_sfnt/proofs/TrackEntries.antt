-- Entries that a loop appends, one track after the other.
use Rattle.std.proofs.Common.{◌≡◌, ◌∙◌, ap, sym, ℕ, ◌+◌, ◌<◌, List, [], ◌∷◌, ◌++◌, length, None, append_assoc, arith}
use Rattle.std.specs.Prelude.{nat_lt}
use Rattle.std.specs.List.{flat_map, range_with_len}
use Rattle.std.specs.Int.{to_be_bytes, w16}
use Rattle.std.proofs.lemmas.Bool.Decides.{nat_tests}
use Rattle.std.proofs.lemmas.List.{append-nil}
use Rattle.std.proofs.lemmas.List.Concat.{flat_map-append}
use Rattle.aat_bytes.specs.facts.Ranges.{none_each, range_more}
use Rattle.aat_glyph.specs.placement.Tracks.{TrackTable, track_at}
use Rattle.aat_glyph.specs.declared.placement.track_data.Track.{Track}
use Rattle.aat_write_machine.specs.Words.{word_bytes}
use Rattle.aat_write_sfnt.specs.TrakBytes.{entry_of, entry_words, first_far, place_of_values}

-- where no track is found whose values stand too far, none does
pub near_each :
    (at : ℕ) (t : TrackTable) (k : ℕ) → first_far at t ≡ None → k < length t.tracks → place_of_values at t k < 65536
near_each at t k none below =
    let near = none_each (λ i. nat_lt 65535 (place_of_values at t i)) 0 (length t.tracks) none k (omega arith) (omega arith) in
    grind (arith, nat_tests, near)

-- the words of one number more
pub words_more :
    (f : ℕ → List ℕ) (k : ℕ)
    → word_bytes (flat_map f (range_with_len 0 (k + 1))) ≡ word_bytes (flat_map f (range_with_len 0 k)) ++ word_bytes (f k)
words_more f k =
    ap (λ r. word_bytes (flat_map f r)) (range_more k)
    ∙ (ap word_bytes (flat_map-append f (range_with_len 0 k) (k ∷ []))
    ∙ (ap (λ ws. word_bytes (flat_map f (range_with_len 0 k) ++ ws)) (append-nil (f k))
    ∙ flat_map-append (to_be_bytes w16) (flat_map f (range_with_len 0 k)) (f k)))

-- one entry more
pub entry_more :
    (at : ℕ) (t : TrackTable) (front here new : List ℕ) (k place : ℕ) (track : Track)
    → track ≡ track_at t.tracks k
    → place ≡ place_of_values at t k
    → here ≡ front ++ word_bytes (flat_map (entry_of at t) (range_with_len 0 k))
    → new ≡ here ++ word_bytes (entry_words track place)
    → new ≡ front ++ word_bytes (flat_map (entry_of at t) (range_with_len 0 (k + 1)))
entry_more at t front here new k place track is stands so_far appended =
    let done = word_bytes (flat_map (entry_of at t) (range_with_len 0 k)) in
    appended
    ∙ (ap (λ x. here ++ word_bytes (entry_words x place)) is
    ∙ (ap (λ p. here ++ word_bytes (entry_words (track_at t.tracks k) p)) stands
    ∙ (ap (λ (xs : List ℕ). xs ++ word_bytes (entry_of at t k)) so_far
    ∙ (append_assoc front done (word_bytes (entry_of at t k))
    ∙ ap (λ (xs : List ℕ). front ++ xs) (sym (words_more (entry_of at t) k))))))
