-- A table of any number of subtables that meets both bounds.
use Rattle.std.proofs.Common.{◌≡◌, ◌∙◌, ap, refl, ℕ, zero, suc, pos, negsuc, ◌+◌, ◌*◌, List, [], ◌∷◌, length, replicate, arith}
use Rattle.std.specs.Prelude.{fold}
use Rattle.aat_buffer.specs.Buffer.{Buffer}
use Rattle.aat_buffer.specs.Clusters.{IsSmall}
use Rattle.aat_kinds.specs.Insertion as insertion
use Rattle.aat_kinds.specs.Kinds.{Sizes, insertion_run}
use Rattle.aat_map.specs.SwitchedChains.{SwitchedChain}
use Rattle.aat_machine_tables.specs.declared.morx.Subtable.{Subtable}
use Rattle.aat_morx.specs.BestBounds.{two_before_and_stay, one_six, MayGrow, MeetsBounds, BoundsAreMet}
use Rattle.aat_morx.specs.Rows.{subtable, chain}
use Rattle.aat_morx.specs.Substitution.{subtable_run, chain_run, prepared, substituted}
use Rattle.aat_run.specs.Driven.{machine_run}
use Rattle.aat_run.specs.Machine.{run, run_to_end, turn, off, by_entry, acted, marked}
use Rattle.aat_run.specs.Outcome.{Outcome, untouched, then_run}
use Rattle.aat_run.specs.Rows.{buffer_with, all_at, printed}
use Rattle.aat_run.specs.Safe.{is_safe}

-- 5 5 6, with what the stay was paid from owed
abbrev grown : Buffer
grown = buffer_with (all_at 0 (5 ∷ 5 ∷ 6 ∷ [])) (negsuc 0)

abbrev one : Subtable
one = subtable two_before_and_stay

-- no glyph is put in that is of more than 16 bits
six_is_small : IsSmall one_six
six_is_small zero d within = omega arith
six_is_small (suc n) d within = absurd (omega (arith, within))

module _ (z : Sizes) where
  abbrev one_run : Buffer → Outcome
  one_run b = subtable_run z (chain []).switch one b

  first : one_run (prepared one_six) ≡ record { buffer = grown; turns = 4 }
  unfolding subtable_run machine_run run run_to_end turn off by_entry acted marked is_safe insertion_run insertion.act insertion.at_mark insertion.at_cursor insertion.inserted
  first = refl

  again : one_run grown ≡ record { buffer = grown; turns = 4 }
  unfolding subtable_run machine_run run run_to_end turn off by_entry acted marked is_safe insertion_run insertion.act insertion.at_mark insertion.at_cursor insertion.inserted
  again = refl

  -- each copy behind the first passes the line
  copies_pass : (n : ℕ) (o : Outcome) → o.buffer ≡ grown → fold (λ o s. then_run o (subtable_run z (chain []).switch s)) o (replicate n one) ≡ record { buffer = grown; turns = o.turns + 4 * n }
  copies_pass zero o here =
      let none : o.turns ≡ o.turns + 4 * 0 = omega arith in
      ap (λ (b : Buffer). record { buffer = b; turns = o.turns }) here ∙ ap (λ (t : ℕ). record { buffer = grown; turns = t }) none
  copies_pass (suc n) o here =
      let ran : one_run o.buffer ≡ record { buffer = grown; turns = 4 } = ap one_run here ∙ again in
      let four : (one_run o.buffer).turns ≡ 4 = ap (λ (p : Outcome). p.turns) ran in
      let more : o.turns + (one_run o.buffer).turns + 4 * n ≡ o.turns + 4 * suc n = omega (arith, four) in
      copies_pass n (then_run o one_run) (ap (λ (p : Outcome). p.buffer) ran) ∙ ap (λ (t : ℕ). record { buffer = grown; turns = t }) more

  all_copies : (n : ℕ) → substituted z (chain (replicate (suc n) one) ∷ []) one_six ≡ record { buffer = grown; turns = 4 * suc n }
  all_copies n =
      let ran : chain_run z (chain (replicate (suc n) one)) (prepared one_six) ≡ record { buffer = grown; turns = 0 + (one_run (prepared one_six)).turns + 4 * n } =
      copies_pass n (then_run (untouched (prepared one_six)) one_run) (ap (λ (p : Outcome). p.buffer) first) in
      let four : (one_run (prepared one_six)).turns ≡ 4 = ap (λ (p : Outcome). p.turns) first in
      let count : 0 + (0 + (one_run (prepared one_six)).turns + 4 * n) ≡ 4 * suc n = omega (arith, four) in
      ap (λ (p : Outcome). record { buffer = p.buffer; turns = 0 + p.turns }) ran ∙ ap (λ (t : ℕ). record { buffer = grown; turns = t }) count

length-copies : (n : ℕ) → length (replicate n one) ≡ n
length-copies zero = refl
length-copies (suc n) = ap suc (length-copies n)

met : (count : ℕ) → (chains : List SwitchedChain) × (b : Buffer) × MayGrow count b × MeetsBounds count chains b
met zero = (
  [],
  buffer_with [] (pos 0),
  record { ids = λ k d within. absurd (omega (arith, within)); room = omega arith; grows = λ some. absurd (omega (arith, some)) },
  record { counted = refl; turns = λ z. refl; length = λ z. refl },
)
met (suc n) =
    let made : length (replicate (suc n) one) ≡ suc n = length-copies (suc n) in (
      chain (replicate (suc n) one) ∷ [],
      one_six,
      record { ids = six_is_small; room = omega arith; grows = λ some. omega arith },
      record {
        counted = omega (arith, made);
        turns = λ z. ap (λ (o : Outcome). o.turns) (all_copies z n) ∙ (let e : 4 * suc n ≡ suc n * 4 = omega arith in e);
        length = λ z. ap (λ (o : Outcome). length o.buffer.line) (all_copies z n);
      },
    )

pub bounds_are_met : BoundsAreMet
bounds_are_met = record { on_one_six = λ z n. ap printed (all_copies z n); every = met }
