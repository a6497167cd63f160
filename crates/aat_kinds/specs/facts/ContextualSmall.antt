-- The contextual act keeps glyph ids to 16 bits, where the values of its lookups have 16 bits.
use Rattle.std.proofs.Common.{◌≡◌, ℕ, ◌≤◌, ◌==◌, Bool, List, [], ◌∷◌, Option, Some, None, refl, arith}
use Rattle.std.proofs.lemmas.List.Elements.{All-set, All-tail}
use Rattle.std.proofs.lemmas.Option.{get_or_from_slice_get, slice_get_within}
use Rattle.std.specs.Prelude.{All, find, option_map, slice_get}
use Rattle.aat_buffer.specs.Buffer.{Is16Bit, glyph_at}
use Rattle.aat_buffer.specs.Clusters.{IsSmall}
use Rattle.aat_buffer.specs.facts.Cases.{chosen}
use Rattle.aat_buffer.specs.facts.Ids.{small_of_unsafe}
use Rattle.aat_machine_tables.specs.Entries.{is_present}
use Rattle.aat_lookup.specs.Keys.{value_in}
use Rattle.aat_kinds.specs.Contextual.{IsFit, act, answer_of}
use Rattle.aat_kinds.specs.Lawful.{HasSmallValues, KeepsSmall}
use Rattle.aat_kinds.specs.Values.{with_value}
use Rattle.aat_kinds.specs.facts.ContextualLaws.{OnValue, of_good_act}

-- P of what is there, if it is
OnSome : {X : Type 0} → (X → Type 0) → Option X → Type 0
OnSome P None = Unit {0}
OnSome P (Some x) = P x

found_has : {X : Type 0} (P : X → Type 0) (test : X → Bool) (xs : List X) → All P xs → OnSome P (find test xs)
unfolding OnSome
found_has P test [] all = tt
found_has P test (x ∷ xs) all = chosen (OnSome P) (test x) (Some x) (find test xs) (λ _. all 0 x (omega arith)) (λ _. found_has P test xs (All-tail P x xs all))

got_has : {X : Type 0} (P : X → Type 0) (xs : List X) (i : ℕ) (o : Option X) → slice_get xs i ≡ o → All P xs → OnSome P o
unfolding OnSome
got_has P xs i None is all = tt
got_has P xs i (Some x) is all = rw (get_or_from_slice_get xs i x x is) at (all i x (slice_get_within xs i x is))

module _ (classes : Option (List (ℕ × ℕ))) (lookups : List (List (ℕ × ℕ))) where
  value_small : (o : Option (ℕ × ℕ)) → OnSome (λ (pair : ℕ × ℕ). pair.1 ≤ 65535) o → OnValue classes lookups (λ v. v ≤ 65535) (Some (option_map (λ (pair : ℕ × ℕ). pair.1) o))
  unfolding OnSome OnValue
  value_small None small = tt
  value_small (Some pair) small = small

  lookup_small : (g : ℕ) (o : Option (List (ℕ × ℕ))) → OnSome (All (λ (pair : ℕ × ℕ). pair.1 ≤ 65535)) o → OnValue classes lookups (λ v. v ≤ 65535) (option_map (λ lookup. value_in lookup g) o)
  unfolding OnSome OnValue
  lookup_small g None small = tt
  lookup_small g (Some pairs) small = value_small (find (λ pair. pair.0 == g) pairs) (found_has (λ (pair : ℕ × ℕ). pair.1 ≤ 65535) (λ pair. pair.0 == g) pairs small)

  answer_small : HasSmallValues lookups → (index g : ℕ) → OnValue classes lookups (λ v. v ≤ 65535) (answer_of classes lookups index g)
  unfolding answer_of OnValue
  answer_small small index g =
      chosen (OnValue classes lookups (λ v. v ≤ 65535)) (is_present index) (option_map (λ lookup. value_in lookup g) (slice_get lookups index)) (Some None)
      (λ _. lookup_small g (slice_get lookups index) (got_has (All (λ (pair : ℕ × ℕ). pair.1 ≤ 65535)) lookups index (slice_get lookups index) refl small)) (λ _. tt)

  pub keeps_small : HasSmallValues lookups → KeepsSmall (act classes lookups) IsFit
  keeps_small values e r b fit small =
      of_good_act classes lookups IsSmall (λ v. v ≤ 65535) (answer_small values) (λ d i j k. small_of_unsafe d i j k)
      (λ d i v low k. All-set Is16Bit d.line i (with_value classes v (glyph_at d.line i)) low k) e r b small
