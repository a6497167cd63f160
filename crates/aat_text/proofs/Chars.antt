-- Steps over the characters of a text.
use Rattle.std.proofs.Common.{◌≡◌, ℕ, true, false, List, [], ◌∷◌, ◌++◌, length, map, slice_get, Option, Some, None, refl, sym, ap, ◌∙◌, append_assoc, append-nil, arith}
use Rattle.std.proofs.lemmas.Str.{chars-nil, chars_past_char}
use Rattle.std.specs.List.{cons_option, filter_map, fold}
use Rattle.std.specs.Prelude.{encode_utf8, is_some, if◌then◌else◌}
use Rattle.std.specs.Str.{chars, IsUtf8}
use Rattle.aat_text.specs.LineEnds.{is_mark, role_of}
use Rattle.aat_text.specs.Strong.{first_strong_direction, strong_direction}
use Rattle.aat_text.specs.declared.role.LineRole.{LineRole}

-- an empty text has none
pub chars_of_empty : (bs : List ℕ) → length bs ≡ 0 → chars bs ≡ []
chars_of_empty [] e = chars-nil
chars_of_empty (b ∷ bs) e = absurd (omega arith)

module _ {A : Type 0} (f : ℕ → A) (done all : List A) (bs : List ℕ) where
  -- one more character of what is left goes to what is made
  pub map_more : (rest : List ℕ) (c : ℕ) → IsUtf8 bs → bs ≡ encode_utf8 c ++ rest → done ++ map f (chars bs) ≡ all
      → (done ++ f c ∷ []) ++ map f (chars rest) ≡ all
  map_more rest c u e made =
      append_assoc done (f c ∷ []) (map f (chars rest)) ∙ ap (λ cs. done ++ map f cs) (sym (chars_past_char bs rest c u e)) ∙ made

  -- nothing is left
  pub map_all : length bs ≡ 0 → done ++ map f (chars bs) ≡ all → done ≡ all
  map_all e made = sym (append-nil done) ∙ ap (λ cs. done ++ map f cs) (sym (chars_of_empty bs e)) ∙ made

-- the first of those that are there
first_there : {A : Type 0} (first : Option A) (others : List A) → is_some first ≡ true → slice_get (cons_option first others) 0 ≡ first
first_there (Some x) others e = refl
first_there None others e = cc

first_later : {A : Type 0} (first : Option A) (others : List A) → is_some first ≡ false → slice_get (cons_option first others) 0 ≡ slice_get others 0
first_later (Some x) others e = cc
first_later None others e = refl

-- the role of the last character that is no mark
abbrev pub last_role : LineRole → List ℕ → LineRole
last_role last cs = fold (λ last role. if is_mark role then last else role) last (map role_of cs)

module _ (bs rest : List ℕ) (c : ℕ) (u : IsUtf8 bs) (e : bs ≡ encode_utf8 c ++ rest) where
  -- a text whose first character is strong, and one whose first character is not
  pub strong_here : is_some (strong_direction c) ≡ true → first_strong_direction bs ≡ strong_direction c
  strong_here s =
      ap (λ cs. slice_get (filter_map strong_direction cs) 0) (chars_past_char bs rest c u e)
      ∙ first_there (strong_direction c) (filter_map strong_direction (chars rest)) s

  pub strong_later : is_some (strong_direction c) ≡ false → first_strong_direction bs ≡ first_strong_direction rest
  strong_later s =
      ap (λ cs. slice_get (filter_map strong_direction cs) 0) (chars_past_char bs rest c u e)
      ∙ first_later (strong_direction c) (filter_map strong_direction (chars rest)) s

  -- the role of the last character that is no mark, where the first one is no mark, and where it is one
  pub role_taken : (last role : LineRole) → role ≡ role_of c → is_mark role ≡ false → last_role role (chars rest) ≡ last_role last (chars bs)
  role_taken last role of seen =
      sym (ap (last_role last) (chars_past_char bs rest c u e)
      ∙ ap (λ next. last_role (if is_mark next then last else next) (chars rest)) (sym of)
      ∙ ap (λ b. last_role (if b then last else role) (chars rest)) seen)

  pub role_kept : (last role : LineRole) → role ≡ role_of c → is_mark role ≡ true → last_role last (chars rest) ≡ last_role last (chars bs)
  role_kept last role of unseen =
      sym (ap (last_role last) (chars_past_char bs rest c u e)
      ∙ ap (λ next. last_role (if is_mark next then last else next) (chars rest)) (sym of)
      ∙ ap (λ b. last_role (if b then last else role) (chars rest)) unseen)
