-- Words of 64 bits that tell which keys pairs have.
use Rattle.std.proofs.Common.{◌≡◌, ℕ, ℤ, ◌+◌, ◌-◌, ◌<◌, ◌≤◌, ◌≢◌, ◌%◌, ◌^◌, ◌⊎◌, inl, inr, List, length, get_or, None, false, true, ltb, ◌==◌, ap, sym, subst, ◌∙◌, arith}
use Rattle.std.specs.Int.{bit_at}
use Rattle.std.specs.Int.RustNames.{bit_or}
use Rattle.std.proofs.lemmas.Bool.{cases_lt, false≢true}
use Rattle.std.proofs.lemmas.Bool.Decides.{nat_tests}
use Rattle.std.proofs.lemmas.List.{get_or_default}
use Rattle.std.proofs.lemmas.Nat.Bits.{bit_at_or, bit_at-pow_same}
use Rattle.aat_kerning_tables.specs.Pairs.{key_of_pair, kerning_of, pair_key}
use Rattle.aat_kerning_tables.specs.inside.Lefts.{LeftsWithin}
use Rattle.aat_kerning_tables.specs.inside.Rights.{has_bit, may_have, TellKeys, TellRights, TellWords}
use Rattle.aat_kerning_tables.proofs.LeftParts.{of_none}
use Rattle.aat_lookup.specs.facts.Search.{at_key_none}

-- the bits that a word has stay
pub bit_stays : (word k j : ℕ) → bit_at word j ≡ 1 → bit_at (bit_or word (2 ^ k)) j ≡ 1
bit_stays word k j has = rw (bit_at_or word (2 ^ k) j) (omega (arith, has))

-- a bit that is put in is there
pub bit_put : (word k : ℕ) → bit_at (bit_or word (2 ^ k)) k ≡ 1
bit_put word k = rw (bit_at_or word (2 ^ k) k) (omega (arith, bit_at-pow_same k))

module _ (word : ℕ) (pairs : List (ℕ × ℕ × ℤ))
    (has : (i : ℕ) (d : ℕ × ℕ × ℤ) → i < length pairs → bit_at word (key_of_pair (get_or pairs i d) % 64) ≡ 1) where
  -- a word with the bit of each pair tells their keys
  pub keys_told : TellKeys word pairs
  keys_told key lacks =
      let clear : bit_at word (key % 64) ≢ 1 = grind (arith, nat_tests) in
      at_key_none key_of_pair pairs key (λ i d lt. λ e. clear (ap (λ k. bit_at word (k % 64)) (sym e) ∙ has i d lt))

module _ (word key : ℕ) (pairs : List (ℕ × ℕ × ℤ)) (n : ℕ) (d₀ : ℕ × ℕ × ℤ) (lt : n < length pairs)
    (is : key ≡ key_of_pair (get_or pairs n d₀))
    (before : (i : ℕ) (d : ℕ × ℕ × ℤ) → i < n → bit_at word (key_of_pair (get_or pairs i d) % 64) ≡ 1) where
  bit_by_place :
      (i : ℕ) (d : ℕ × ℕ × ℤ) → (i < n) ⊎ (n ≤ i) → i < n + 1
      → bit_at (bit_or word (2 ^ (key % 64))) (key_of_pair (get_or pairs i d) % 64) ≡ 1
  bit_by_place i d (inl low) within = bit_stays word (key % 64) (key_of_pair (get_or pairs i d) % 64) (before i d low)
  bit_by_place i d (inr high) within =
      let same : n ≡ i = omega arith in
      let there : get_or pairs n d₀ ≡ get_or pairs i d = get_or_default pairs n d₀ d lt ∙ ap (λ k. get_or pairs k d) same in
      let keys : key ≡ key_of_pair (get_or pairs i d) = is ∙ ap key_of_pair there in
      ap (λ k. bit_at (bit_or word (2 ^ (key % 64))) (k % 64)) (sym keys) ∙ bit_put word (key % 64)

  -- the bit of one pair more
  pub bits_more :
      (i : ℕ) (d : ℕ × ℕ × ℤ) → i < n + 1
      → bit_at (bit_or word (2 ^ (key % 64))) (key_of_pair (get_or pairs i d) % 64) ≡ 1
  bits_more i d within = bit_by_place i d (cases_lt i n) within

module _ (lowest : ℕ) (words : List ℕ) (pairs : List (ℕ × ℕ × ℤ)) where
  inside_told :
      (left right : ℕ) → right < 65536 → TellWords lowest words (length words) pairs → lowest ≤ left
      → left - lowest < length words → may_have lowest words left right ≡ false → kerning_of pairs left right ≡ None
  inside_told left right small told high inside lacks =
      let some : (length words == 0) ≡ false = grind (arith, nat_tests) in
      let above : ltb left lowest ≡ false = grind (arith, nat_tests) in
      let within : ltb (left - lowest) (length words) ≡ true = grind (arith, nat_tests) in
      let same : lowest + (left - lowest) ≡ left = omega arith in
      let clear : has_bit (get_or words (left - lowest) 0) (pair_key left right) ≡ false = rw (some, above, within) at lacks in
      sym (ap (λ l. kerning_of pairs l right) same)
      ∙ told (left - lowest) inside right small (ap (λ l. has_bit (get_or words (left - lowest) 0) (pair_key l right)) same ∙ clear)

  told_by_place :
      (left right : ℕ) → right < 65536 → LeftsWithin lowest (length words) pairs
      → TellWords lowest words (length words) pairs → (left < lowest) ⊎ (lowest ≤ left)
      → (left - lowest < length words) ⊎ (length words ≤ left - lowest)
      → may_have lowest words left right ≡ false → kerning_of pairs left right ≡ None
  told_by_place left right small within told (inl low) place lacks =
      sym (of_none pairs left right small lowest (length words) within (inl low))
  told_by_place left right small within told (inr high) (inl inside) lacks =
      inside_told left right small told high inside lacks
  told_by_place left right small within told (inr high) (inr past) lacks =
      sym (of_none pairs left right small lowest (length words) within (inr (omega arith)))

  no_words : (left right : ℕ) → length words ≤ 0 → may_have lowest words left right ≡ false → ⊥
  no_words left right none lacks =
      let empty : (length words == 0) ≡ true = grind (arith, nat_tests) in
      absurd (false≢true (sym (rw empty at lacks)))

  any_words :
      (left right : ℕ) → right < 65536 → (0 < length words → LeftsWithin lowest (length words) pairs)
      → TellWords lowest words (length words) pairs → (0 < length words) ⊎ (length words ≤ 0)
      → may_have lowest words left right ≡ false → kerning_of pairs left right ≡ None
  any_words left right small within told (inl some) lacks =
      told_by_place left right small (within some) told (cases_lt left lowest) (cases_lt (left - lowest) (length words)) lacks
  any_words left right small within told (inr none) lacks = absurd (no_words left right none lacks)

  -- words of all left glyphs tell which right ones these have
  pub rights_told :
      (count : ℕ) → length words ≡ count → (0 < count → LeftsWithin lowest count pairs)
      → TellWords lowest words count pairs → TellRights lowest words pairs
  rights_told count long within told left right small lacks =
      any_words left right small (subst (λ n. 0 < n → LeftsWithin lowest n pairs) (sym long) within) (subst (λ n. TellWords lowest words n pairs) (sym long) told) (cases_lt 0 (length words)) lacks
