-- Flags of an entry that are written are read again.
use Rattle.std.proofs.Common.{◌≡◌, ℕ, ◌+◌, ◌*◌, ◌-◌, ◌/◌, ◌%◌, ◌<◌, Bool, true, false, ◌==◌, ◌||◌, refl, sym, ap, ◌∙◌, arith}
use Rattle.std.specs.Prelude.{bit_and, nat_lt}
use Rattle.std.proofs.lemmas.Bool.{le-ltb}
use Rattle.std.proofs.lemmas.Bool.Decides.{nat_tests}
use Rattle.std.proofs.lemmas.Nat.Bits.{and_high}
use Rattle.aat_machine_tables.specs.declared.entries.KernEntryData.{KernEntryData}
use Rattle.aat_machine_tables.specs.declared.state_table.GenericStateEntry.{GenericStateEntry}
use Rattle.aat_read_kern.specs.ByteStates.{value_named}
use Rattle.aat_write_truetype.specs.kern.MachineBytes.{fits_flags, flags_word}
use Rattle.aat_write_truetype.proofs.kern.Opened.{both_true, same_by}
use Rattle.aat_write_truetype.proofs.kern.Readers.{ByteMachine}

-- flags of the two highest bits, with an offset in the others
split_bits :
    (flags offset : ℕ) → bit_and flags 49152 ≡ flags → offset < 16384
    → (bit_and (flags + offset) 49152 ≡ flags) × ((flags + offset) % 16384 ≡ offset) × (flags + offset < 65536)
split_bits flags offset acts small =
    let high : bit_and flags 49152 ≡ flags / 16384 % 4 * 16384 = and_high flags 2 14 in
    let part : flags ≡ flags / 16384 % 4 * 16384 = sym acts ∙ high in
    let all : bit_and (flags + offset) 49152 ≡ (flags + offset) / 16384 % 4 * 16384 = and_high (flags + offset) 2 14 in (
      omega (arith, all, part, small),
      omega (arith, part, small),
      omega (arith, part, small),
    )

-- what is known of the word of flags
pub record IsFlags (m : ByteMachine) (word : ℕ) (entry : GenericStateEntry KernEntryData) : Type 0 where
  pub acts : bit_and word 49152 ≡ entry.flags
  pub value : value_named m word ≡ entry.extra
  pub small : word < 65536

pub flags_again :
    (m : ByteMachine) (entry : GenericStateEntry KernEntryData)
    → 0 < m.values → fits_flags m.values entry ≡ true
    → IsFlags m (flags_word m.values entry) entry
flags_again m entry some fits = by_value (entry.extra.value_index == 65535) refl
  where
    both : ((bit_and entry.flags 49152 == entry.flags) ≡ true) × (((entry.extra.value_index == 65535) || nat_lt (m.values + 2 * entry.extra.value_index) 16384) ≡ true)
    both = both_true (bit_and entry.flags 49152 == entry.flags) ((entry.extra.value_index == 65535) || nat_lt (m.values + 2 * entry.extra.value_index) 16384) fits

    acts : bit_and entry.flags 49152 ≡ entry.flags
    acts = same_by (bit_and entry.flags 49152) entry.flags both.0

    value_of : ℕ → KernEntryData
    value_of n = record { value_index = n }

    by_value : (b : Bool) → (entry.extra.value_index == 65535) ≡ b → IsFlags m (flags_word m.values entry) entry
    by_value true none =
        let bits = split_bits entry.flags 0 acts (omega arith) in
        let plain : entry.flags + 0 ≡ entry.flags = omega arith in
        let word : flags_word m.values entry ≡ entry.flags = rw none refl in
        let rest : entry.flags % 16384 ≡ 0 = ap (λ n. n % 16384) (sym plain) ∙ bits.1 in
        let index : entry.extra.value_index ≡ 65535 = same_by entry.extra.value_index 65535 none in
        record {
          acts = ap (λ n. bit_and n 49152) word ∙ acts;
          value = ap (value_named m) word ∙ rw rest (ap value_of (sym index));
          small = let most = bits.2 in omega (arith, most, word, plain);
        }
    by_value false some_value =
        let near : nat_lt (m.values + 2 * entry.extra.value_index) 16384 ≡ true =
        ap (λ b. b || nat_lt (m.values + 2 * entry.extra.value_index) 16384) (sym some_value) ∙ both.1 in
        let offset : ℕ = m.values + 2 * entry.extra.value_index in
        let below : offset < 16384 = grind (arith, nat_tests, near) in
        let bits = split_bits entry.flags offset acts below in
        let word : flags_word m.values entry ≡ entry.flags + offset = rw some_value refl in
        let there : (offset == 0) ≡ false = grind (arith, nat_tests, some) in
        let behind : nat_lt offset m.values ≡ false = le-ltb offset m.values (omega arith) in
        let half : (offset - m.values) / 2 ≡ entry.extra.value_index = omega arith in
        record {
          acts = ap (λ n. bit_and n 49152) word ∙ bits.0;
          value = ap (value_named m) word ∙ rw bits.1 (rw there (rw behind (ap value_of half)));
          small = let most = bits.2 in omega (arith, most, word);
        }
