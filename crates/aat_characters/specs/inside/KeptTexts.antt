-- What only this crate's own calls say of texts with marks of which each character is written as it is.
use Rattle.std.specs.Prelude.{◌≡◌, ℕ, Bool, true, false, ◌&&◌, ◌||◌, ◌==◌, ◌⊎◌, ◌<◌, nat_le, List, [], ◌∷◌, Some, None, is_some, slice_index, slice_index_or, if◌then◌else◌}
use Rattle.std.specs.Option.{option_map_or}
use Rattle.unicode_normalization.specs.Decompose.{decompose_canonical}
use Rattle.aat_characters.specs.Composed.{composite_in}
use Rattle.aat_characters.specs.Decomposed.{is_other_space, is_variation_selector}
use Rattle.aat_characters.specs.Marks.{is_mark, mark_class}
use Rattle.aat_characters.specs.PlacedCharacters.{placed_class}
use Rattle.aat_characters.specs.declared.kept.KnownWritings.{KnownWritings}
use Rattle.aat_characters.specs.declared.kept.Way.{Way}
use Rattle.aat_characters.specs.declared.kept.Way.TheVariants.{Itself, Joined, Other}
use Rattle.aat_characters.specs.declared.kept.Writing.{Writing}
use Rattle.aat_characters.specs.declared.placed_character.PlacedCharacter.{PlacedCharacter}

-- a character is written as itself: it is not decomposed, and no other one stands for it
pub record IsItself (c : ℕ) : Type 0 where
  pub selector : is_variation_selector c ≡ false
  pub parts : decompose_canonical c ≡ c ∷ []
  pub space : is_other_space c ≡ false
  pub hyphen : (c == 0x2011) ≡ false

-- a mark is written as two characters of the font, which are composed again
pub record IsJoined (has : ℕ → Bool) (c first last : ℕ) : Type 0 where
  pub selector : is_variation_selector c ≡ false
  pub mark : is_mark c ≡ true
  pub class : mark_class c ≡ 0
  pub parts : decompose_canonical c ≡ first ∷ last ∷ []
  pub has_first : has first ≡ true
  pub has_last : has last ≡ true
  pub first_class : mark_class first ≡ 0
  pub last_class : mark_class last ≡ 0
  pub last_mark : is_mark last ≡ true
  pub composite : composite_in has first last ≡ Some c

-- so it is with some last one
pub record IsJoinedFrom (has : ℕ → Bool) (c first : ℕ) : Type 0 where
  pub last : ℕ
  pub joined : IsJoined has c first last

-- what is told of a character by how it is written
pub record WritesItself (c first : ℕ) (mark : Bool) : Type 0 where
  pub itself : IsItself c
  pub same : first ≡ c
  pub told : mark ≡ is_mark c

pub record WritesJoined (has : ℕ → Bool) (c first : ℕ) (mark : Bool) : Type 0 where
  pub joined : IsJoinedFrom has c first
  pub told : mark ≡ is_mark first

abbrev pub IsWay : (ℕ → Bool) → ℕ → ℕ → Bool → Way → Type 0
IsWay has c first mark Itself = WritesItself c first mark
IsWay has c first mark Joined = WritesJoined has c first mark
IsWay has c first mark Other = Unit {0}

pub record IsWriting (has : ℕ → Bool) (c : ℕ) (writing : Writing) : Type 0 where
  pub class : writing.class ≡ mark_class c
  pub way : IsWay has c writing.first writing.is_mark writing.way

-- two characters are composed to another one
abbrev pub composes_to : (ℕ → Bool) → ℕ → ℕ → ℕ → Bool
composes_to has first last c = option_map_or (λ p. p == c) (composite_in has first last) false

-- a mark that becomes two characters is written as these and composed again
abbrev pub joins_again : (ℕ → Bool) → ℕ → ℕ → ℕ → Bool
joins_again has c first last =
    is_mark c && mark_class c == 0 && is_mark last && mark_class first == 0 && mark_class last == 0
    && has first && has last && composes_to has first last c

-- which characters a character becomes is known
abbrev pub is_written : Way → Bool
is_written Other = false
is_written _ = true

-- a character stays as it is behind a starter and one of a class
pub record StaysItself (has : ℕ → Bool) (starter class : ℕ) (c : PlacedCharacter) : Type 0 where
  pub itself : IsItself c.character
  pub order : (placed_class c == 0 || nat_le class (placed_class c)) ≡ true
  pub apart : (is_mark c.character && is_some (composite_in has starter c.character)) ≡ false

pub record StaysJoined (has : ℕ → Bool) (starter : ℕ) (c : PlacedCharacter) : Type 0 where
  pub first : ℕ
  pub last : ℕ
  pub joined : IsJoined has c.character first last
  pub space : c.space ≡ None
  pub apart : (is_mark first && is_some (composite_in has starter first)) ≡ false

abbrev pub Stays : (ℕ → Bool) → ℕ → ℕ → PlacedCharacter → Type 0
Stays has starter class c = StaysItself has starter class c ⊎ StaysJoined has starter c

-- the starter behind a character
abbrev pub starter_behind : ℕ → PlacedCharacter → ℕ
starter_behind starter c = if placed_class c == 0 then c.character else starter

-- each of some characters stays as it is, behind the starter and the class that those before it leave
abbrev pub AllStay : (ℕ → Bool) → ℕ → ℕ → List PlacedCharacter → Type 0
AllStay has starter class [] = Unit {0}
AllStay has starter class (c ∷ cs) = Stays has starter class c × AllStay has (starter_behind starter c) (placed_class c) cs

-- the first character of a text is written as itself, and each one behind it stays as it is
abbrev pub TextStays : (ℕ → Bool) → List PlacedCharacter → Type 0
TextStays has [] = Unit {0}
TextStays has (c ∷ cs) = IsItself c.character × AllStay has c.character (placed_class c) cs

-- ---- the writings of characters that were looked up before

-- a character that is kept at a place has its writing kept there too
abbrev pub IsKnownWriting : (ℕ → Bool) → KnownWritings → ℕ → Type 0
IsKnownWriting has known i =
    (w : Writing) → 0 < slice_index known.characters i
    → IsWriting has (slice_index known.characters i) (slice_index_or known.writings i w)

abbrev pub AreKnownWritings : (ℕ → Bool) → KnownWritings → Type 0
AreKnownWritings has known = (i : ℕ) → i < 128 → IsKnownWriting has known i
