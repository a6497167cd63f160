-- Places of strings that a loop reads, one after the other.
use Rattle.std.proofs.Common.{◌≡◌, ◌∙◌, ap, sym, ℕ, suc, ◌+◌, ◌-◌, ◌*◌, ◌<◌, Bool, true, if◌then◌else◌, List, [], ◌∷◌, ◌++◌, Option, Some, None, append_assoc, arith}
use Rattle.std.specs.Prelude.{slice_get, option_and_then}
use Rattle.std.proofs.lemmas.List.{append-nil}
use Rattle.aat_bytes.specs.Numbers.{be16}
use Rattle.aat_read_metrics.specs.names.Names.{has_numbers, own_name, places_from, places_of, string_at}

-- the places of strings, of which the first is there or not
abbrev pub first_of : List ℕ → ℕ → ℕ → Option ℕ → List ℕ
first_of post place count (Some size) = place ∷ places_from post (place + (1 + size)) count
first_of post place count None = []

module _ (post places : List ℕ) (place count i : ℕ) (below : i < count) (o : Option ℕ) (is : o ≡ slice_get post place)
    (all : List ℕ) (was : places ++ places_from post place (count - i) ≡ all) where
  -- what is left, of which one is next
  left : places ++ first_of post place (count - (i + 1)) o ≡ all
  left =
      let more : count - i ≡ suc (count - (i + 1)) = omega arith in
      ap (λ (p : Option ℕ). places ++ first_of post place (count - (i + 1)) p) is
      ∙ sym (ap (λ (n : ℕ). places ++ places_from post place n) more)
      ∙ was

  -- one more, if there is one
  pub still_pushed :
      (size next : ℕ) (new : List ℕ)
      → o ≡ Some size
      → new ≡ places ++ place ∷ []
      → next ≡ place + (1 + size)
      → new ++ places_from post next (count - (i + 1)) ≡ all
  still_pushed size next new there pushed behind =
      ap (λ (ps : List ℕ). ps ++ places_from post next (count - (i + 1))) pushed
      ∙ ap (λ (n : ℕ). (places ++ place ∷ []) ++ places_from post n (count - (i + 1))) behind
      ∙ append_assoc places (place ∷ []) (places_from post (place + (1 + size)) (count - (i + 1)))
      ∙ sym (ap (λ (p : Option ℕ). places ++ first_of post place (count - (i + 1)) p) there)
      ∙ left

  pub still_missing : o ≡ None → places ≡ all
  still_missing missing =
      sym (append-nil places)
      ∙ sym (ap (λ (p : Option ℕ). places ++ first_of post place (count - (i + 1)) p) missing)
      ∙ left

-- at the end nothing is left
pub still_none :
    (post places : List ℕ) (place left : ℕ) (all : List ℕ)
    → left ≡ 0
    → places ++ places_from post place left ≡ all
    → places ≡ all
still_none post places place more all none was =
    sym (append-nil places) ∙ sym (ap (λ (n : ℕ). places ++ places_from post place n) none) ∙ was

-- the places of a table that has numbers
pub places_numbered :
    (post : List ℕ) (has : Bool) (count : ℕ)
    → has ≡ has_numbers post
    → has ≡ true
    → count ≡ be16 post 32
    → places_from post (34 + 2 * count) 65278 ≡ places_of post
places_numbered post has count is holds counted =
    ap (λ (n : ℕ). places_from post (34 + 2 * n) 65278) counted
    ∙ ap (λ (b : Bool). if b then places_from post (34 + 2 * be16 post 32) 65278 else []) (sym holds ∙ is)

-- a string whose place is kept, and one without a place
pub own_is :
    (post items kept : List ℕ) (number : ℕ) (o : Option ℕ) (name : Option (List ℕ))
    → items ≡ places_of post
    → kept ≡ items
    → o ≡ slice_get kept number
    → name ≡ option_and_then (string_at post) o
    → name ≡ own_name post number
own_is post items kept number o name places same found is =
    is
    ∙ ap (λ (p : Option ℕ). option_and_then (string_at post) p) found
    ∙ ap (λ (ps : List ℕ). option_and_then (string_at post) (slice_get ps number)) (same ∙ places)
