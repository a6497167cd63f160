-- Flags that share no bit with others.
use Rattle.std.proofs.Common.{◌≡◌, ◌==◌, ◌&&◌, ◌||◌, ◌∙◌, sym, ap, refl, ℕ, Bool, true, false, cond, min, max, List, [], ◌∷◌, arith, bit_and, bit_or, fold}
use Rattle.std.proofs.lemmas.Nat.Bits.{bit_at_and, bit_at_or, same_from_bits, bit_at-zero}
use Rattle.std.specs.Int.{bit_at}
use Rattle.aat_machine_tables.specs.declared.morx.ChainFeature.{ChainFeature}
use Rattle.aat_map.specs.ChainFlags.{after_feature, flags_by, is_asked}
use Rattle.aat_map.specs.Live.{requested_at}

module _ (m : ℕ) where
  apart_bits : (a : ℕ) → bit_and a m ≡ 0 → (i : ℕ) → min (bit_at a i) (bit_at m i) ≡ 0
  apart_bits a e i = sym (bit_at_and a m i) ∙ (ap (λ n. bit_at n i) e ∙ bit_at-zero i)

  from_bits : (a : ℕ) → ((i : ℕ) → min (bit_at a i) (bit_at m i) ≡ 0) → bit_and a m ≡ 0
  from_bits a each = same_from_bits (bit_and a m) 0 (λ i. bit_at_and a m i ∙ (each i ∙ sym (bit_at-zero i)))

  pub or_left : (a b : ℕ) → bit_and (bit_or a b) m ≡ 0 → bit_and a m ≡ 0
  or_left a b e = from_bits a (λ i. below (bit_at a i) (bit_at b i) (bit_at m i) (bit_at (bit_or a b) i) (bit_at_or a b i) (apart_bits (bit_or a b) e i))
    where
      below : (x y z w : ℕ) → w ≡ max x y → min w z ≡ 0 → min x z ≡ 0
      below x y z w e h = omega arith

  pub or_right : (a b : ℕ) → bit_and (bit_or a b) m ≡ 0 → bit_and b m ≡ 0
  or_right a b e = from_bits b (λ i. below (bit_at a i) (bit_at b i) (bit_at m i) (bit_at (bit_or a b) i) (bit_at_or a b i) (apart_bits (bit_or a b) e i))
    where
      below : (x y z w : ℕ) → w ≡ max x y → min w z ≡ 0 → min y z ≡ 0
      below x y z w e h = omega arith

  or_both : (a b : ℕ) → bit_and a m ≡ 0 → bit_and b m ≡ 0 → bit_and (bit_or a b) m ≡ 0
  or_both a b e h = from_bits (bit_or a b) (λ i. below (bit_at a i) (bit_at b i) (bit_at m i) (bit_at (bit_or a b) i) (bit_at_or a b i) (apart_bits a e i) (apart_bits b h i))
    where
      below : (x y z w : ℕ) → w ≡ max x y → min x z ≡ 0 → min y z ≡ 0 → min w z ≡ 0
      below x y z w e h k = omega arith

  and_either : (a b : ℕ) → bit_and a m ≡ 0 → bit_and (bit_and a b) m ≡ 0
  and_either a b e = from_bits (bit_and a b) (λ i. below (bit_at a i) (bit_at b i) (bit_at m i) (bit_at (bit_and a b) i) (bit_at_and a b i) (apart_bits a e i))
    where
      below : (x y z w : ℕ) → w ≡ min x y → min x z ≡ 0 → min w z ≡ 0
      below x y z w e h = omega arith

  first_off :
      (b : ℕ) (fs : List ChainFeature) → bit_and (fold (λ flags f. bit_or flags f.enable_flags) b fs) m ≡ 0
      → bit_and b m ≡ 0
  first_off b [] e = e
  first_off b (f ∷ fs) e = or_left b f.enable_flags (first_off (bit_or b f.enable_flags) fs e)

  flags_off :
      (requested : ℕ → ℕ → Bool) (a b : ℕ) (fs : List ChainFeature) → bit_and a m ≡ 0
      → bit_and (fold (λ flags f. bit_or flags f.enable_flags) b fs) m ≡ 0 → bit_and (flags_by requested a fs) m ≡ 0
  flags_off requested a b [] e h = e
  flags_off requested a b (f ∷ fs) e h =
      flags_off requested (after_feature requested a f) (bit_or b f.enable_flags) fs (by (is_asked requested f)) h
    where
      by : (t : Bool) → bit_and (cond t (bit_or (bit_and a f.disable_flags) f.enable_flags) a) m ≡ 0
      by true =
          or_both (bit_and a f.disable_flags) f.enable_flags (and_either a f.disable_flags e)
          (or_right b f.enable_flags (first_off (bit_or b f.enable_flags) fs h))
      by false = e

  -- flags that share a bit with none that a chain can have share none with those that it has
  pub possible_are_all :
      (requested : ℕ → ℕ → Bool) (a : ℕ) (fs : List ChainFeature)
      → bit_and (fold (λ flags f. bit_or flags f.enable_flags) a fs) m ≡ 0 → bit_and (flags_by requested a fs) m ≡ 0
  possible_are_all requested a fs h = flags_off requested a a fs (first_off a fs h) h

-- without a request no feature of a chain is asked for
not_asked : (x : ℕ) (f : ChainFeature) → is_asked (requested_at x []) f ≡ false
not_asked x f = by (f.kind == 3) (f.setting == 3)
  where
    by : (t u : Bool) → (false || (t && u && false)) ≡ false
    by true true = refl
    by true false = refl
    by false true = refl
    by false false = refl

-- and it has its default flags
pub none_asks : (x a : ℕ) (fs : List ChainFeature) → flags_by (requested_at x []) a fs ≡ a
none_asks x a [] = refl
none_asks x a (f ∷ fs) =
    let next : Bool → ℕ = λ t. cond t (bit_or (bit_and a f.disable_flags) f.enable_flags) a in
    ap (λ (t : Bool). flags_by (requested_at x []) (next t) fs) (not_asked x f) ∙ none_asks x a fs
