-- The first character of a text of which something is found.
use Rattle.std.proofs.Common.{◌≡◌, ℕ, true, false, List, [], ◌∷◌, ◌++◌, length, slice_get, Option, Some, None, refl, sym, ap, ◌∙◌, arith}
use Rattle.std.proofs.lemmas.Str.{chars-nil, chars_past_char}
use Rattle.std.specs.List.{cons_option, filter_map}
use Rattle.std.specs.Prelude.{encode_utf8, is_some}
use Rattle.std.specs.Str.{chars, IsUtf8}

first_there : {A : Type 0} (first : Option A) (others : List A) → is_some first ≡ true → slice_get (cons_option first others) 0 ≡ first
first_there (Some x) others e = refl
first_there None others e = cc

first_later : {A : Type 0} (first : Option A) (others : List A) → is_some first ≡ false → slice_get (cons_option first others) 0 ≡ slice_get others 0
first_later (Some x) others e = cc
first_later None others e = refl

-- what is found of the first character of a text of which something is
abbrev pub first_found : {A : Type 0} → (ℕ → Option A) → List ℕ → Option A
first_found f bs = slice_get (filter_map f (chars bs)) 0

module _ {A : Type 0} (f : ℕ → Option A) (bs rest : List ℕ) (c : ℕ) (u : IsUtf8 bs) (e : bs ≡ encode_utf8 c ++ rest) where
  -- it is that of the first one, or of none of those before the rest
  pub found_here : is_some (f c) ≡ true → first_found f bs ≡ f c
  found_here s =
      ap (λ cs. slice_get (filter_map f cs) 0) (chars_past_char bs rest c u e) ∙ first_there (f c) (filter_map f (chars rest)) s

  pub found_later : is_some (f c) ≡ false → first_found f bs ≡ first_found f rest
  found_later s =
      ap (λ cs. slice_get (filter_map f cs) 0) (chars_past_char bs rest c u e) ∙ first_later (f c) (filter_map f (chars rest)) s

-- of an empty text nothing is found
pub found_none : {A : Type 0} (f : ℕ → Option A) (bs : List ℕ) → length bs ≡ 0 → None ≡ first_found f bs
found_none f [] e = ap (λ cs. slice_get (filter_map f cs) 0) (sym chars-nil)
found_none f (b ∷ bs) e = absurd (omega arith)
