-- A character more of a text.
use Rattle.std.proofs.Common.{◌≡◌, ◌∙◌, ◌&&◌, ap, ap₂, false, sym, true, ℕ, ◌+◌, ◌<◌, List, [], ◌∷◌, ◌++◌, get_or, length, map, take}
use Rattle.std.proofs.Math.Numerals.{suc-eq-add-one}
use Rattle.std.proofs.Math.Seq.{take-suc}
use Rattle.std.proofs.lemmas.List.{append-nil, map-append, take_more}
use Rattle.std.proofs.lemmas.List.Folds.{list_all_at, list_all_more}
use Rattle.std.proofs.lemmas.Str.{encodes-append}
use Rattle.std.specs.Char.{encode_utf8}
use Rattle.std.specs.Str.{encode_utf8_all}
use Rattle.aat_records.specs.Decoded.{is_character, is_utf32}

-- the encoding of the characters through a place is that of those before it, and then that of its own
pub one_more :
    (cs : List ℕ) (i : ℕ) → i < length cs
    → encode_utf8_all (take (i + 1) cs) ≡ encode_utf8_all (take i cs) ++ encode_utf8 (get_or cs i 0)
one_more cs i inside =
    ap (λ (n : ℕ). encode_utf8_all (take n cs)) (sym (suc-eq-add-one i))
    ∙ (ap encode_utf8_all (take-suc cs i 0 inside)
    ∙ (encodes-append (take i cs) (get_or cs i 0 ∷ [])
    ∙ ap (λ (r : List ℕ). encode_utf8_all (take i cs) ++ r) (append-nil (encode_utf8 (get_or cs i 0)))))

-- the same of characters that are made of others
pub one_more_of :
    (f : ℕ → ℕ) (xs : List ℕ) (i : ℕ) → i < length xs
    → encode_utf8_all (map f (take (i + 1) xs))
    ≡ encode_utf8_all (map f (take i xs)) ++ encode_utf8 (f (get_or xs i 0))
one_more_of f xs i inside =
    ap (λ (r : List ℕ). encode_utf8_all (map f r)) (take_more xs i 0 inside)
    ∙ (ap encode_utf8_all (map-append f (take i xs) (get_or xs i 0 ∷ []))
    ∙ (encodes-append (map f (take i xs)) (f (get_or xs i 0) ∷ [])
    ∙ ap (λ (r : List ℕ). encode_utf8_all (map f (take i xs)) ++ r) (append-nil (encode_utf8 (f (get_or xs i 0))))))

-- one more number of a character
pub one_more_is :
    (cs : List ℕ) (i : ℕ) → i < length cs → is_character (get_or cs i 0) ≡ true → is_utf32 (take i cs) ≡ true
    → is_utf32 (take (i + 1) cs) ≡ true
one_more_is cs i inside is before =
    list_all_more is_character cs i 0 inside ∙ ap₂ (λ a b. a && b) before is

-- a number of none
pub one_is_not :
    (cs : List ℕ) (i : ℕ) → i < length cs → is_character (get_or cs i 0) ≡ false → is_utf32 cs ≡ false
one_is_not cs i inside is_not = list_all_at is_character cs i 0 inside is_not
