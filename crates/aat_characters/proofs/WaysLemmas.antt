-- Which way to write a character is chosen.
use Rattle.std.proofs.Common.{◌≡◌, ℕ, zero, suc, ◌+◌, ◌<◌, ◌≤◌, Bool, true, false, ◌&&◌, ◌==◌, cond, List, [], ◌∷◌, ◌++◌, length, map, drop, reverse, slice_get, get_or, Option, Some, None, refl, sym, ap, ap₂, ◌∙◌, arith}
use Rattle.std.proofs.lemmas.List.{drop_all, reverse-append}
use Rattle.std.specs.List.{find, list_all}
use Rattle.std.specs.Option.{option_map_or, option_or}
use Rattle.std.specs.Prelude.{if◌then◌else◌, option_and_then, option_map}
use Rattle.unicode_normalization.specs.Compose.{primary_composite}
use Rattle.unicode_normalization.specs.Decompose.{decompose_canonical}
use Rattle.aat_characters.specs.Decomposed.{chosen_way, decomposed_character, is_other_space, stand_in, ways, ways_from, ways_of_parts}
use Rattle.aat_characters.specs.PlacedCharacters.{written_as}
use Rattle.aat_characters.specs.declared.placed_character.PlacedCharacter.{PlacedCharacter}
use Rattle.aat_characters.specs.inside.Ways.{passing, way_at}

find-append : {X : Type 0} (test : X → Bool) (xs ys : List X) → find test (xs ++ ys) ≡ option_or (find test xs) (find test ys)
find-append test [] ys = refl
find-append test (x ∷ xs) ys = of (test x) (find-append test xs ys)
  where
    of : (b : Bool) → find test (xs ++ ys) ≡ option_or (find test xs) (find test ys)
        → cond b (Some x) (find test (xs ++ ys)) ≡ option_or (cond b (Some x) (find test xs)) (find test ys)
    of true e = refl
    of false e = e

find_one : {X : Type 0} (test : X → Bool) (x : X) → find test (x ∷ []) ≡ passing test x
find_one test x = refl

module _ (has : ℕ → Bool) (ws : List (List ℕ)) (way : List ℕ) where
  -- of one more way with more characters
  pub chosen_shortest : chosen_way has true (ws ++ way ∷ []) ≡ option_or (chosen_way has true ws) (passing (list_all has) way)
  chosen_shortest = find-append (list_all has) ws (way ∷ [])

  pub chosen_longest : chosen_way has false (ws ++ way ∷ []) ≡ option_or (passing (list_all has) way) (chosen_way has false ws)
  chosen_longest =
      ap (find (list_all has)) (reverse-append ws (way ∷ [])) ∙ find-append (list_all has) (way ∷ []) (reverse ws)

option_map-option_or : {X Y : Type 0} (f : X → Y) (a b : Option X) → option_map f (option_or a b) ≡ option_or (option_map f a) (option_map f b)
option_map-option_or f (Some x) b = refl
option_map-option_or f None b = refl

-- the ways in which more parts are joined
abbrev pub further_ways : ℕ → List ℕ → ℕ → List (List ℕ)
further_ways first parts at =
    option_map_or (λ joined. ways_from joined (drop (at + 1) parts)) (option_and_then (primary_composite first) (slice_get parts at)) []

ways_split : (first at : ℕ) (parts : List ℕ) → at ≤ length parts
    → ways_from first (drop at parts) ≡ further_ways first parts at ++ (first ∷ drop at parts) ∷ []
ways_split first zero [] le = refl
ways_split first zero (part ∷ parts) le = refl
ways_split first (suc at) [] le = absurd (omega arith)
ways_split first (suc at) (part ∷ parts) le =
    let next : suc (at + 1) ≡ suc at + 1 = omega arith in
    ways_split first at parts (omega arith)
    ∙ ap (λ k. option_map_or (λ joined. ways_from joined (drop k (part ∷ parts))) (option_and_then (primary_composite first) (slice_get parts at)) []
    ++ (first ∷ drop at parts) ∷ []) next

module _ (has : ℕ → Bool) (shortest : Bool) (first at : ℕ) (parts : List ℕ) where
  -- what is chosen of them, where a part joins, and where none does
  pub further_joined : (joined : ℕ) (way : Option (List ℕ)) → Some joined ≡ option_and_then (primary_composite first) (slice_get parts at)
      → way ≡ chosen_way has shortest (ways_from joined (drop (at + 1) parts)) → way ≡ chosen_way has shortest (further_ways first parts at)
  further_joined joined way e h =
      h ∙ ap (λ o. chosen_way has shortest (option_map_or (λ joined. ways_from joined (drop (at + 1) parts)) o [])) e

  pub further_none : None ≡ option_and_then (primary_composite first) (slice_get parts at) → None ≡ chosen_way has shortest (further_ways first parts at)
  further_none e =
      sym (none shortest)
      ∙ ap (λ o. chosen_way has shortest (option_map_or (λ joined. ways_from joined (drop (at + 1) parts)) o [])) e
    where
      none : (b : Bool) → chosen_way has b [] ≡ None
      none true = refl
      none false = refl

  module _ (here further way : Option (ℕ × ℕ)) (le : at ≤ length parts)
      (h : option_map (way_at parts) here ≡ passing (list_all has) (first ∷ drop at parts))
      (f : option_map (way_at parts) further ≡ chosen_way has shortest (further_ways first parts at)) where
    pub way_of_shortest : shortest ≡ true → way ≡ option_or further here
        → option_map (way_at parts) way ≡ chosen_way has shortest (ways_from first (drop at parts))
    way_of_shortest s e =
        ap (option_map (way_at parts)) e ∙ option_map-option_or (way_at parts) further here ∙ ap₂ option_or f h
        ∙ ap (λ b. option_or (chosen_way has b (further_ways first parts at)) (passing (list_all has) (first ∷ drop at parts))) s
        ∙ sym (ap (λ b. chosen_way has b (ways_from first (drop at parts))) s ∙ ap (chosen_way has true) (ways_split first at parts le)
        ∙ chosen_shortest has (further_ways first parts at) (first ∷ drop at parts))

    pub way_of_longest : shortest ≡ false → way ≡ option_or here further
        → option_map (way_at parts) way ≡ chosen_way has shortest (ways_from first (drop at parts))
    way_of_longest s e =
        ap (option_map (way_at parts)) e ∙ option_map-option_or (way_at parts) here further ∙ ap₂ option_or h f
        ∙ ap (λ b. option_or (passing (list_all has) (first ∷ drop at parts)) (chosen_way has b (further_ways first parts at))) s
        ∙ sym (ap (λ b. chosen_way has b (ways_from first (drop at parts))) s ∙ ap (chosen_way has false) (ways_split first at parts le)
        ∙ chosen_longest has (further_ways first parts at) (first ∷ drop at parts))

chosen-cons : (has : ℕ → Bool) (way : List ℕ) (ws : List (List ℕ)) → find (list_all has) (way ∷ ws) ≡ option_or (passing (list_all has) way) (find (list_all has) ws)
chosen-cons has way ws = find-append (list_all has) (way ∷ []) ws

-- the parts of a character are some, and the first of them has the others behind it
ways_of : (character first : ℕ) (parts : List ℕ) → 0 < length parts → first ≡ get_or parts 0 first → parts ≡ decompose_canonical character
    → ways_from first (drop 1 parts) ≡ ways_of_parts (decompose_canonical character)
ways_of character first [] some is e = absurd (omega arith)
ways_of character first (part ∷ parts) some is e = ap (λ p. ways_from p parts) is ∙ ap ways_of_parts e

module _ (has : ℕ → Bool) (shortest : Bool) (character first : ℕ) (parts : List ℕ) (own other way : Option (ℕ × ℕ))
    (some : 0 < length parts) (is : first ≡ get_or parts 0 first) (e : parts ≡ decompose_canonical character)
    (o : option_map (way_at parts) own ≡ passing (list_all has) (character ∷ drop (length parts) parts))
    (f : option_map (way_at parts) other ≡ chosen_way has shortest (ways_from first (drop 1 parts))) where
  alone : option_map (way_at parts) own ≡ passing (list_all has) (character ∷ [])
  alone = o ∙ ap (λ ps. passing (list_all has) (character ∷ ps)) (drop_all (length parts) parts (omega arith))

  among : chosen_way has shortest (ways_from first (drop 1 parts)) ≡ chosen_way has shortest (ways_of_parts (decompose_canonical character))
  among = ap (chosen_way has shortest) (ways_of character first parts some is e)

  pub chosen_first : shortest ≡ true → way ≡ option_or own other → option_map (way_at parts) way ≡ chosen_way has shortest (ways character)
  chosen_first s w =
      ap (option_map (way_at parts)) w ∙ option_map-option_or (way_at parts) own other ∙ ap₂ option_or alone (f ∙ among)
      ∙ ap (λ b. option_or (passing (list_all has) (character ∷ [])) (chosen_way has b (ways_of_parts (decompose_canonical character)))) s
      ∙ sym (ap (λ b. chosen_way has b (ways character)) s ∙ chosen-cons has (character ∷ []) (ways_of_parts (decompose_canonical character)))

  pub chosen_last : shortest ≡ false → way ≡ option_or other own → option_map (way_at parts) way ≡ chosen_way has shortest (ways character)
  chosen_last s w =
      ap (option_map (way_at parts)) w ∙ option_map-option_or (way_at parts) other own ∙ ap₂ option_or (f ∙ among) alone
      ∙ ap (λ b. option_or (chosen_way has b (ways_of_parts (decompose_canonical character))) (passing (list_all has) (character ∷ []))) s
      ∙ sym (ap (λ b. chosen_way has b (ways character)) s
      ∙ ap (find (list_all has)) (reverse-append ((character ∷ []) ∷ []) (ways_of_parts (decompose_canonical character)))
      ∙ find-append (list_all has) (reverse (ways_of_parts (decompose_canonical character))) ((character ∷ []) ∷ []))

-- the characters with which one is written, where a way is chosen, and where none is
pub written_some : (has : ℕ → Bool) (shortest : Bool) (c : PlacedCharacter) (parts : List ℕ) (way : ℕ × ℕ)
    → option_map (way_at parts) (Some way) ≡ chosen_way has shortest (ways c.character)
    → map (written_as c) (way_at parts way) ≡ decomposed_character has shortest c
written_some has shortest c parts way e = ap (λ o. option_map_or (map (written_as c)) o (stand_in has c ∷ [])) e

pub written_none : (has : ℕ → Bool) (shortest : Bool) (c : PlacedCharacter)
    → None ≡ chosen_way has shortest (ways c.character) → stand_in has c ∷ [] ≡ decomposed_character has shortest c
written_none has shortest c e = ap (λ o. option_map_or (map (written_as c)) o (stand_in has c ∷ [])) e

-- a character that is not decomposed, and for which no other one stands, is written as itself
pub stays_written : (has : ℕ → Bool) (shortest : Bool) (c : PlacedCharacter) → decompose_canonical c.character ≡ c.character ∷ []
    → is_other_space c.character ≡ false → (c.character == 0x2011) ≡ false → decomposed_character has shortest c ≡ c ∷ []
stays_written has shortest c parts space hyphen =
    ap (λ ps. option_map_or (map (written_as c)) (chosen_way has shortest ((c.character ∷ []) ∷ ways_of_parts ps)) (stand_in has c ∷ [])) parts
    ∙ ap₂ (λ way other. option_map_or (map (written_as c)) way (other ∷ [])) (two shortest) stands
    ∙ one (has c.character)
  where
    two : (s : Bool) → chosen_way has s ((c.character ∷ []) ∷ (c.character ∷ []) ∷ [])
        ≡ cond (has c.character && true) (Some (c.character ∷ [])) (cond (has c.character && true) (Some (c.character ∷ [])) None)
    two true = refl
    two false = refl

    stands : stand_in has c ≡ c
    stands =
        ap₂ (λ s h. if s && has 0x20 then record c { character = 0x20; space = Some c.character } else if h && has 0x2010 then written_as c 0x2010 else c)
        space hyphen

    one : (b : Bool) → option_map_or (map (written_as c)) (cond (b && true) (Some (c.character ∷ [])) (cond (b && true) (Some (c.character ∷ [])) None)) (c ∷ [])
        ≡ c ∷ []
    one true = refl
    one false = refl
