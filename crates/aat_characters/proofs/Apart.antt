-- Characters that are clusters by themselves, none of which is a mark, and characters that the font has.
use Rattle.std.proofs.Common.{◌≡◌, ℕ, ◌-◌, Bool, true, false, not, ◌&&◌, ◌||◌, cond, List, [], ◌∷◌, ◌++◌, length, map, take, Some, refl, sym, ap, ap₂, ◌∙◌, append_assoc, append-nil}
use Rattle.std.specs.List.{find, flat_map, fold, list_all, list_any}
use Rattle.std.specs.Option.{option_map_or}
use Rattle.std.specs.Prelude.{if◌then◌else◌}
use Rattle.std.proofs.lemmas.Bool.{and_parts}
use Rattle.ucd_emoji.specs.Binary.{is_extended_pictographic}
use Rattle.unicode_normalization.specs.Decompose.{decompose_canonical}
use Rattle.aat_characters.specs.Clusters.{continues, extends, is_joiner, merged, merged_clusters}
use Rattle.aat_characters.specs.Composed.{composed, has_marks, normalized}
use Rattle.aat_characters.specs.Decomposed.{decomposed, decomposed_character, decomposed_part, has_selector, stand_in, ways_of_parts}
use Rattle.aat_characters.specs.Native.{is_regional_indicator}
use Rattle.aat_characters.specs.Ordered.{ordered}
use Rattle.aat_characters.specs.Parts.{last_part, parts_of, with_next}
use Rattle.aat_characters.specs.PlacedCharacters.{has_mark, written_as}
use Rattle.aat_characters.specs.declared.placed_character.PlacedCharacter.{PlacedCharacter}
use Rattle.aat_characters.specs.Apart.{is_apart}
use Rattle.aat_characters.proofs.PartsLemmas.{last_is}

-- a character that the font has is written by itself where few characters are wanted
pub kept_character : (has : ℕ → Bool) (c : PlacedCharacter) → has c.character ≡ true → decomposed_character has true c ≡ c ∷ []
kept_character has c h =
    ap (λ b. option_map_or (map (written_as c)) (cond (b && true) (Some (c.character ∷ [])) (find (list_all has) (ways_of_parts (decompose_canonical c.character)))) (stand_in has c ∷ [])) h

-- ---- parts of one element

abbrev alone : {X : Type 0} → List X → List (List X)
alone xs = map (λ x. x ∷ []) xs

-- what is proved of each element
abbrev Each : {X : Type 0} → (X → Type 0) → List X → Type 0
Each P [] = Unit {0}
Each P (x ∷ xs) = P x × Each P xs

module _ {X : Type 0} (joins : List X → X → Bool) (P : X → Type 0) (none : (x : X) → P x → joins [] x ≡ false) (one : (x y : X) → P x → P y → joins (x ∷ []) y ≡ false) where
  behind_one : (done : List (List X)) (x : X) (xs : List X) → P x → Each P xs → fold (with_next joins) (done ++ (x ∷ []) ∷ []) xs ≡ done ++ alone (x ∷ xs)
  behind_one done x [] h hs = refl
  behind_one done x (y ∷ ys) h hs =
      let apart : joins (last_part (done ++ (x ∷ []) ∷ [])) y ≡ false = ap (λ part. joins part y) (last_is done (x ∷ [])) ∙ one x y h hs.0 in
      begun apart ∙ behind_one (done ++ (x ∷ []) ∷ []) y ys hs.0 hs.1 ∙ append_assoc done ((x ∷ []) ∷ []) (alone (y ∷ ys))
    where
      begun : joins (last_part (done ++ (x ∷ []) ∷ [])) y ≡ false
          → fold (with_next joins) (with_next joins (done ++ (x ∷ []) ∷ []) y) ys ≡ fold (with_next joins) ((done ++ (x ∷ []) ∷ []) ++ (y ∷ []) ∷ []) ys
      begun apart =
          let parts = done ++ (x ∷ []) ∷ [] in
          ap (λ b. fold (with_next joins) (if b then take (length parts - 1) parts ++ (last_part parts ++ y ∷ []) ∷ [] else parts ++ (y ∷ []) ∷ []) ys) apart

  pub parts_alone : (xs : List X) → Each P xs → parts_of joins xs ≡ alone xs
  parts_alone [] hs = refl
  parts_alone (x ∷ xs) hs =
      ap (λ b. fold (with_next joins) (if b then ([] ++ x ∷ []) ∷ [] else (x ∷ []) ∷ []) xs) (none x hs.0) ∙ behind_one [] x xs hs.0 hs.1

flat_map_alone : {X Y : Type 0} (f : List X → List Y) (xs : List X) → flat_map f (alone xs) ≡ flat_map (λ x. f (x ∷ [])) xs
flat_map_alone f [] = refl
flat_map_alone f (x ∷ xs) = ap (λ ys. f (x ∷ []) ++ ys) (flat_map_alone f xs)

flat_map_same : {X : Type 0} (xs : List X) → flat_map (λ x. x ∷ []) xs ≡ xs
flat_map_same [] = refl
flat_map_same (x ∷ xs) = ap (λ ys. x ∷ ys) (flat_map_same xs)

-- ---- characters that continue no cluster

-- nor are they marks, joiners or halves of flags
tests_fail : (mark modifier joiner sound tag flag : Bool) → not ((mark || modifier || joiner || sound || tag) || flag) ≡ true
    → (mark ≡ false) × (joiner ≡ false) × ((mark || modifier || joiner || sound || tag) ≡ false) × (flag ≡ false)
tests_fail false false false false false false e = (refl, refl, refl, refl)
tests_fail true modifier joiner sound tag flag e = cc
tests_fail false true joiner sound tag flag e = cc
tests_fail false false true sound tag flag e = cc
tests_fail false false false true tag flag e = cc
tests_fail false false false false true flag e = cc
tests_fail false false false false false true e = cc

-- what is known of such a character
record Known (c : PlacedCharacter) : Type 0 where
  mark : has_mark c ≡ false
  joiner : is_joiner c.character ≡ false
  extends : extends c.character ≡ false
  flag : is_regional_indicator c.character ≡ false

known : (c : PlacedCharacter) → is_apart c.character ≡ true → Known c
known c h =
    let tests = tests_fail _ _ _ _ _ _ h in
    record { mark = tests.0; joiner = tests.1; extends = tests.2; flag = tests.3 }

all_known : (cs : List PlacedCharacter) → list_all (λ c. is_apart c.character) cs ≡ true → Each Known cs
all_known [] h = tt
all_known (c ∷ cs) h =
    let both = and_parts (is_apart c.character) (list_all (λ c. is_apart c.character) cs) h in (known c both.0, all_known cs both.1)

continues_nothing : (c : PlacedCharacter) → Known c → continues [] c ≡ false
continues_nothing c k = ap (λ b. b || (false && is_extended_pictographic c.character) || (false && is_regional_indicator c.character)) k.extends

continues_one : (c d : PlacedCharacter) → Known c → Known d → continues (c ∷ []) d ≡ false
continues_one c d k l =
    ap₂ (λ b j. b || ((j || false) && is_extended_pictographic d.character) || ((true && (is_regional_indicator c.character && true)) && is_regional_indicator d.character)) l.extends k.joiner
    ∙ ap (λ f. (f && true) && is_regional_indicator d.character) k.flag

-- each is a cluster
merged_alone : (cs : List PlacedCharacter) → flat_map merged (alone cs) ≡ cs
merged_alone cs = flat_map_alone merged cs ∙ flat_map_same cs

pub apart_merged : (cs : List PlacedCharacter) → list_all (λ c. is_apart c.character) cs ≡ true → merged_clusters cs ≡ cs
apart_merged cs h =
    ap (flat_map merged) (parts_alone continues Known continues_nothing continues_one cs (all_known cs h)) ∙ merged_alone cs

-- ---- and each is written by itself

parts_single : {X : Type 0} (joins : List X → X → Bool) (x : X) → parts_of joins (x ∷ []) ≡ (x ∷ []) ∷ []
parts_single joins x = by (joins [] x)
  where
    by : (b : Bool) → (if b then (x ∷ []) ∷ [] else (x ∷ []) ∷ []) ≡ (x ∷ []) ∷ []
    by true = refl
    by false = refl

written_single : (has : ℕ → Bool) (c : PlacedCharacter) → normalized has (c ∷ []) ≡ decomposed_part has (c ∷ [])
written_single has c = ap (flat_map (decomposed_part has)) (parts_single (λ part d. has_mark d) c) ∙ append-nil (decomposed_part has (c ∷ []))

no_marks : (cs : List PlacedCharacter) → Each Known cs → list_any has_mark cs ≡ false
no_marks [] ks = refl
no_marks (c ∷ cs) ks = ap (λ b. b || list_any has_mark cs) ks.0.mark ∙ no_marks cs ks.1

none_behind : (cs : List PlacedCharacter) → Each Known cs → has_marks cs ≡ false
none_behind [] ks = refl
none_behind (c ∷ cs) ks = no_marks cs ks.1

all_written : (has : ℕ → Bool) (cs : List PlacedCharacter) → flat_map (λ c. decomposed_part has (c ∷ [])) cs ≡ flat_map (λ c. normalized has (c ∷ [])) cs
all_written has [] = refl
all_written has (c ∷ cs) = ap₂ (λ xs ys. xs ++ ys) (sym (written_single has c)) (all_written has cs)

pub apart_normalized : (has : ℕ → Bool) (cs : List PlacedCharacter) → list_all (λ c. is_apart c.character) cs ≡ true
    → normalized has cs ≡ flat_map (λ c. normalized has (c ∷ [])) cs
apart_normalized has cs h =
    let ks = all_known cs h in
    let joins = λ (part : List PlacedCharacter) (c : PlacedCharacter). has_mark c in
    ap (λ b. if b then composed has (ordered (decomposed has cs)) else decomposed has cs) (none_behind cs ks)
    ∙ ap (flat_map (decomposed_part has)) (parts_alone joins Known (λ c k. k.mark) (λ c d k l. l.mark) cs ks)
    ∙ flat_map_alone (decomposed_part has) cs ∙ all_written has cs

-- one that the font has stays
pub kept_single : (has : ℕ → Bool) (c : PlacedCharacter) → has c.character ≡ true → normalized has (c ∷ []) ≡ c ∷ []
kept_single has c h = written_single has c ∙ by (has_selector (c ∷ []))
  where
    by : (b : Bool) → (if b then c ∷ [] else flat_map (decomposed_character has true) (c ∷ [])) ≡ c ∷ []
    by true = refl
    by false = append-nil (decomposed_character has true c) ∙ kept_character has c h
