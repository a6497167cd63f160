-- How many chains are read, and how many subtables all of them have.
use Rattle.std.proofs.Common.{◌≡◌, ℕ, zero, suc, ◌+◌, ◌≤◌, List, [], length, Ok, sym, ap, ◌∙◌, arith}
use Rattle.std.specs.Prelude.{sum_by}
use Rattle.std.proofs.lemmas.List.Sums.{sum_by-cons}
use Rattle.aat_bytes.specs.Numbers.{be32}
use Rattle.aat_bytes.specs.facts.Parts.{ok_parts}
use Rattle.aat_read_extended.specs.morx.ChainSubtables.{subtable_at}
use Rattle.aat_read_extended.specs.morx.Chains.{ChainStart, ChainValue, chain_at, chain_value_at, first_chain}
use Rattle.aat_read_extended.specs.morx.ChainsOfBytes.{feature_place}
use Rattle.aat_read_machine.specs.InTurn.{in_turn}
use Rattle.aat_read_machine.specs.facts.Turns.{counted, turn}
use Rattle.aat_read_extended.specs.morx.MorxLaws.{ChainsAreCounted}
use Rattle.aat_read_extended.specs.morx.Weights.{chain_reach}
use Rattle.aat_read_extended.proofs.morx.ReadParts.{chain_parts, table_parts, turn_parts}

module _ (bytes : List ℕ) (glyph_count : ℕ) where
  -- a chain has no more subtables than it may
  chain_fits : (start : ChainStart) (end : ℕ) (c : ChainValue)
      → chain_value_at bytes glyph_count start end ≡ Ok c → length c.subtables ≤ start.most_subtables
  chain_fits start end c is =
      let read = chain_parts bytes glyph_count start end c is in
      let few = read.few in
      let all =
      counted (subtable_at bytes glyph_count (chain_reach bytes start.place end)) (be32 bytes (start.place + 12))
      (feature_place start.place (be32 bytes (start.place + 8))) c.subtables read.subtables in
      omega (arith, few, all)

  -- what a chain leaves to those behind it
  chain_leaves : (start next : ChainStart) (c : ChainValue)
      → chain_at bytes glyph_count start ≡ Ok (c, next)
      → length c.subtables + next.most_subtables ≤ start.most_subtables
  chain_leaves start next c is =
      let read = turn_parts bytes glyph_count start next c is in
      let left = read.left in
      let fits = chain_fits start next.place c read.value in
      omega (arith, left, fits)

  -- all chains have no more subtables than they may
  all_fit : (count : ℕ) (start : ChainStart) (xs : List ChainValue)
      → in_turn (chain_at bytes glyph_count) count start ≡ Ok xs
      → sum_by (λ (c : ChainValue). length c.subtables) xs ≤ start.most_subtables
  all_fit zero start xs is =
      let none : sum_by (λ (c : ChainValue). length c.subtables) xs ≡ 0 =
      ap (sum_by (λ (c : ChainValue). length c.subtables)) (sym (ok_parts [] xs is)) in
      omega (arith, none)
  all_fit (suc count) start xs is =
      let t = turn (chain_at bytes glyph_count) count start xs is in
      let rest = all_fit count t.next t.others t.rest in
      let leaves = chain_leaves start t.next t.one t.first in
      let total : sum_by (λ (c : ChainValue). length c.subtables) xs
      ≡ length t.one.subtables + sum_by (λ (c : ChainValue). length c.subtables) t.others =
      ap (sum_by (λ (c : ChainValue). length c.subtables)) (sym t.whole)
      ∙ sum_by-cons (λ (c : ChainValue). length c.subtables) t.one t.others in
      omega (arith, rest, leaves, total)

-- the law
pub chains_are_counted : ChainsAreCounted
chains_are_counted bytes glyph_count chains is =
    let read = (table_parts bytes glyph_count chains is).1 in (
      counted (chain_at bytes glyph_count) (be32 bytes 4) first_chain chains read,
      all_fit bytes glyph_count (be32 bytes 4) first_chain chains read,
    )
