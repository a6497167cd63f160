-- What is made of the characters of a text at their places.
use Rattle.std.proofs.Common.{◌≡◌, ℕ, ◌+◌, List, [], ◌∷◌, ◌++◌, length, map, sym, ap, ap₂, ◌∙◌, append_assoc, append-nil}
use Rattle.std.proofs.lemmas.Str.{chars_past_char}
use Rattle.std.specs.Prelude.{encode_utf8}
use Rattle.std.specs.Str.{chars, IsUtf8}
use Rattle.aat_text.specs.Places.{with_places}
use Rattle.aat_text.proofs.Chars.{chars_of_empty}

module _ {X : Type 0} (f : ℕ × ℕ → X) (width : ℕ → ℕ) (done all now : List X) (place next : ℕ) (bs rest : List ℕ) (c : ℕ) where
  -- one more character is placed
  pub placed_more : IsUtf8 bs → bs ≡ encode_utf8 c ++ rest → next ≡ place + width c → now ≡ done ++ f (place, c) ∷ []
      → done ++ map f (with_places width place (chars bs)) ≡ all → now ++ map f (with_places width next (chars rest)) ≡ all
  placed_more u e n put h =
      ap₂ (λ xs k. xs ++ map f (with_places width k (chars rest))) put n ∙ append_assoc done (f (place, c) ∷ []) _
      ∙ ap (λ cs. done ++ map f (with_places width place cs)) (sym (chars_past_char bs rest c u e)) ∙ h

-- none is left
pub placed_all : {X : Type 0} (f : ℕ × ℕ → X) (width : ℕ → ℕ) (done all : List X) (place : ℕ) (bs : List ℕ) → length bs ≡ 0
    → done ++ map f (with_places width place (chars bs)) ≡ all → done ≡ all
placed_all f width done all place bs e h =
    sym (append-nil done) ∙ ap (λ cs. done ++ map f (with_places width place cs)) (sym (chars_of_empty bs e)) ∙ h
