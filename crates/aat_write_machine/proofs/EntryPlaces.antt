-- Entries stand where they were written.
use Rattle.std.proofs.Common.{◌≡◌, ℕ, zero, suc, ◌+◌, ◌*◌, ◌<◌, List, [], ◌∷◌, ◌++◌, length, get_or, All, sym, ap, ◌∙◌, append_assoc, arith}
use Rattle.std.specs.Int.{w16, to_be_bytes}
use Rattle.std.specs.List.{flat_map}
use Rattle.std.proofs.lemmas.List.{length-append}
use Rattle.std.proofs.lemmas.List.Concat.{flat_map-append}
use Rattle.aat_bytes.specs.Numbers.{be16}
use Rattle.aat_machine_tables.specs.Table.{Rule}
use Rattle.aat_machine_tables.specs.declared.state_table.GenericStateEntry.{GenericStateEntry}
use Rattle.aat_read_machine.specs.Entries.{entry_at}
use Rattle.aat_write_machine.specs.Words.{word_bytes}
use Rattle.aat_write_machine.specs.EntryLaws.{HasSize, ReadsAgain}
use Rattle.aat_write_machine.specs.EntryWords.{rule_words}
use Rattle.aat_write_machine.specs.MachineLaws.{IsRule}
use Rattle.aat_write_machine.specs.facts.WordPlaces.{length_words}
use Rattle.aat_write_machine.proofs.Places.{word_at}

module _ {T : Type 0} (size : ℕ) (extra_at : List ℕ → ℕ → T) (words_of : T → List ℕ)
    (has_size : HasSize size words_of) (reads_again : ReadsAgain extra_at words_of) where
  -- the bytes of the entry of a rule, and of the entries of rules
  abbrev pub rule_bytes : Rule (GenericStateEntry T) → List ℕ
  rule_bytes r = word_bytes (rule_words words_of r)

  abbrev pub entry_bytes : List (Rule (GenericStateEntry T)) → List ℕ
  entry_bytes rules = word_bytes (flat_map (rule_words words_of) rules)

  length_rule : (r : Rule (GenericStateEntry T)) → length (rule_bytes r) ≡ 4 + size
  length_rule r = length_words (rule_words words_of r) ∙ omega (arith, has_size r.2.extra)

  first_and_rest :
      (r : Rule (GenericStateEntry T)) (rules : List (Rule (GenericStateEntry T))) (rest : List ℕ)
      → entry_bytes (r ∷ rules) ++ rest ≡ rule_bytes r ++ (entry_bytes rules ++ rest)
  first_and_rest r rules rest =
      ap (λ xs. xs ++ rest) (flat_map-append (to_be_bytes w16) (rule_words words_of r) (flat_map (rule_words words_of) rules))
      ∙ append_assoc (rule_bytes r) (entry_bytes rules) rest

  pub length_entries : (rules : List (Rule (GenericStateEntry T))) → length (entry_bytes rules) ≡ (4 + size) * length rules
  length_entries [] = omega arith
  length_entries (r ∷ rules) =
      let whole : length (entry_bytes (r ∷ rules)) ≡ length (rule_bytes r) + length (entry_bytes rules) =
      ap length (flat_map-append (to_be_bytes w16) (rule_words words_of r) (flat_map (rule_words words_of) rules))
      ∙ length-append (rule_bytes r) (entry_bytes rules) in
      let product : (4 + size) * suc (length rules) ≡ (4 + size) + (4 + size) * length rules = omega arith in
      omega (arith, whole, length_rule r, length_entries rules, product)

  entry_here :
      (r : Rule (GenericStateEntry T)) (front rest : List ℕ) (place : ℕ)
      → IsRule words_of r → length front ≡ place
      → entry_at extra_at (front ++ (rule_bytes r ++ rest)) place ≡ r.2
  entry_here r front rest place small at =
      let bytes : List ℕ = front ++ (rule_bytes r ++ rest) in
      let state : be16 bytes place ≡ r.2.new_state =
      word_at (rule_words words_of r) front rest place 0 (omega arith) small.1 (omega arith) in
      let flags : be16 bytes (place + 2) ≡ r.2.flags =
      word_at (rule_words words_of r) front rest (place + 2) 1 (omega arith) small.1 (omega arith) in
      let extra : extra_at bytes (place + 4) ≡ r.2.extra =
      reads_again bytes (place + 4) r.2.extra (λ i below.
      word_at (rule_words words_of r) front rest (place + 4 + 2 * i) (suc (suc i)) (omega arith) small.1 (omega arith)) in
      let of_state : ℕ → GenericStateEntry T = λ s. record { new_state = s; flags = be16 bytes (place + 2); extra = extra_at bytes (place + 4) } in
      let of_flags : ℕ → GenericStateEntry T = λ f. record { new_state = r.2.new_state; flags = f; extra = extra_at bytes (place + 4) } in
      let of_extra : T → GenericStateEntry T = λ x. record { new_state = r.2.new_state; flags = r.2.flags; extra = x } in
      ap of_state state ∙ ap of_flags flags ∙ ap of_extra extra

  -- the entry of each rule stands at its place
  pub entry_stands :
      (rules : List (Rule (GenericStateEntry T))) (front rest : List ℕ) (place cell : ℕ) (d : Rule (GenericStateEntry T))
      → cell < length rules → All (IsRule words_of) rules → length front + (4 + size) * cell ≡ place
      → entry_at extra_at (front ++ (entry_bytes rules ++ rest)) place ≡ (get_or rules cell d).2
  entry_stands [] front rest place cell d below small at = absurd (omega arith)
  entry_stands (r ∷ rules) front rest place zero d below small at =
      let here : (4 + size) * 0 ≡ 0 = omega arith in
      ap (λ xs. entry_at extra_at (front ++ xs) place) (first_and_rest r rules rest)
      ∙ entry_here r front (entry_bytes rules ++ rest) place (small 0 r (omega arith)) (omega arith)
  entry_stands (r ∷ rules) front rest place (suc cell) d below small at =
      let longer : length (front ++ rule_bytes r) ≡ length front + (4 + size) =
      length-append front (rule_bytes r) ∙ ap (λ n. length front + n) (length_rule r) in
      let next : (4 + size) * suc cell ≡ (4 + size) + (4 + size) * cell = omega arith in
      ap (λ xs. entry_at extra_at (front ++ xs) place) (first_and_rest r rules rest)
      ∙ ap (λ xs. entry_at extra_at xs place) (sym (append_assoc front (rule_bytes r) (entry_bytes rules ++ rest)))
      ∙ entry_stands rules (front ++ rule_bytes r) rest place cell d (omega arith) (λ k e lt. small (suc k) e (omega arith)) (omega arith)
