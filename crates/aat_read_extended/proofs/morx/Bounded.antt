-- What a table weighs that is read.
use Rattle.std.proofs.Common.{◌≡◌, ℕ, zero, suc, ◌+◌, ◌-◌, ◌*◌, ◌/◌, ◌≤◌, List, length, take, Bool, false, cond, Result, Ok, Err, refl, sym, ap, ◌∙◌, arith, ◌==◌}
use Rattle.std.proofs.Math.Nat.{mul_assoc, mul-div-le}
use Rattle.std.proofs.lemmas.Bool.Decides.{nat_tests}
use Rattle.std.proofs.lemmas.Nat.{le-div}
use Rattle.std.proofs.lemmas.List.FromFn.{length-map-range_with_len}
use Rattle.aat_bytes.specs.Numbers.{be32}
use Rattle.aat_bytes.specs.declared.error.Fault.{Fault}
use Rattle.aat_machine_tables.specs.declared.morx.Subtable.{Subtable}
use Rattle.aat_read_machine.proofs.Bounded.{subtables_bounded}
use Rattle.aat_read_extended.specs.morx.ChainFeatures.{feature_at}
use Rattle.aat_read_extended.specs.morx.ChainSubtables.{kind_at, subtable_at}
use Rattle.aat_read_extended.specs.morx.Chains.{ChainStart, ChainValue, chain_at, chain_value_at, first_chain}
use Rattle.aat_read_extended.specs.morx.ChainsOfBytes.{feature_place}
use Rattle.aat_read_machine.specs.InTurn.{in_turn, weight_in_turn}
use Rattle.aat_read_machine.specs.facts.Turns.{turn, weight_more}
use Rattle.aat_read_extended.specs.morx.MorxLaws.{MemoryIsBounded}
use Rattle.aat_read_extended.specs.morx.Reaches.{allowance}
use Rattle.aat_read_extended.specs.morx.Weights.{chain_reach, chain_weight, subtable_weight, subtables_weight}
use Rattle.aat_read_extended.specs.declared.morx.reach.Reach.{Reach}
use Rattle.aat_read_extended.proofs.morx.ReadParts.{chain_parts, ends, features_parts, subtable_parts, table_parts, taken_low, turn_parts}

not_none : (n : ℕ) → (suc n == 0) ≡ false
not_none n = grind (arith, nat_tests)

module _ (bytes : List ℕ) (glyph_count : ℕ) where
  -- a subtable weighs at most 77 bytes for four of its own and 76 for four of the allowance
  record Light (reach : Reach) (start end : ℕ) (s : Subtable) : Type 0 where
    low : start + 12 ≤ end
    high : end ≤ reach.end
    light : 1 ≤ reach.allowance
        → 4 * subtable_weight bytes glyph_count reach start s end ≤ 77 * (end - start) + 76 * reach.allowance

  subtable_light : (reach : Reach) (start end : ℕ) (s : Subtable)
      → subtable_at bytes glyph_count reach start ≡ Ok (s, end) → Light reach start end s
  subtable_light reach start end s is =
      let read = subtable_parts bytes glyph_count reach start end s is in
      let used = take (end + reach.allowance) bytes in
      let e = ends (take reach.end bytes) start 12 0 end read.ended in
      let low = e.low in
      let high = e.high in
      let inside = taken_low bytes reach.end in
      let bounded = subtables_bounded used (start + 12) (kind_at bytes start) glyph_count s.kind read.kind in
      let short = taken_low bytes (end + reach.allowance) in
      record { low = low; high = omega (arith, high, inside); light = λ some. omega (arith, some, low, bounded, short) }

  -- so do subtables in turn, which have 12 bytes each
  record AllLight (reach : Reach) (count start : ℕ) : Type 0 where
    long : start + 12 * count ≤ reach.end
    light : 1 ≤ reach.allowance → 4 * subtables_weight bytes glyph_count reach count start
        ≤ 77 * (reach.end - start) + 76 * (count * reach.allowance)

  subtables_light : (reach : Reach) (count start : ℕ) (xs : List Subtable)
      → start ≤ reach.end → in_turn (subtable_at bytes glyph_count reach) count start ≡ Ok xs → AllLight reach count start
  subtables_light reach zero start xs begins is = record { long = omega (arith, begins); light = λ some. omega arith }
  subtables_light reach (suc count) start xs begins is =
      let f = subtable_at bytes glyph_count reach in
      let t = turn f count start xs is in
      let first = subtable_light reach start t.next t.one t.first in
      let rest = subtables_light reach count t.next t.others first.high t.rest in
      let low = first.low in
      let long = rest.long in
      let total = weight_more f (subtable_weight bytes glyph_count reach) count start t.next t.one t.first in
      let shares : suc count * reach.allowance ≡ reach.allowance + count * reach.allowance = omega arith in
      record {
        long = omega (arith, low, long);
        light = λ some. let here = first.light some in let behind = rest.light some in
            omega (arith, total, here, behind, shares, low, long);
      }

  -- the shares are a fourth of the chain
  shares_fit : (size count : ℕ) → 4 * (count * allowance size count) ≤ size
  unfolding allowance
  shares_fit size zero = omega arith
  shares_fit size (suc count) =
      let share = size / (4 * suc count) in
      let fits : 4 * suc count * share ≤ size = mul-div-le size (4 * suc count) in
      let same : 4 * (suc count * share) ≡ 4 * suc count * share = sym (mul_assoc 4 (suc count) share) in
      let is : allowance size (suc count) ≡ share = ap (λ (b : Bool). cond b 0 share) (not_none count) in
      let shares : suc count * allowance size (suc count) ≡ suc count * share = ap (λ n. suc count * n) is in
      omega (arith, fits, same, shares)

  -- there is a share where there is a subtable of 12 bytes
  share_some : (size count : ℕ) → 12 * suc count ≤ size → 1 ≤ allowance size (suc count)
  unfolding allowance
  share_some size count long =
      let share = size / (4 * suc count) in
      let is : allowance size (suc count) ≡ share = ap (λ (b : Bool). cond b 0 share) (not_none count) in
      let some : 1 ≤ share = le-div 1 size (4 * suc count) (omega arith) (omega (arith, long)) in
      omega (arith, is, some)

  -- the subtables of a chain
  all_light : (reach : Reach) (size count start : ℕ) → reach.allowance ≡ allowance size count → reach.end ≤ start + size
      → AllLight reach count start → 4 * subtables_weight bytes glyph_count reach count start
      ≤ 77 * (reach.end - start) + 76 * (count * reach.allowance)
  all_light reach size zero start is within all = omega arith
  all_light reach size (suc count) start is within all =
      let long = all.long in
      let some = share_some size count (omega (arith, long, within)) in
      all.light (omega (arith, is, some))

  -- a chain weighs at most 24 bytes for each of its own
  chain_light : (start next : ChainStart) (c : ChainValue) → chain_value_at bytes glyph_count start next.place ≡ Ok c
      → chain_weight bytes glyph_count start c next ≤ 24 * (next.place - start.place)
  chain_light start next c is =
      let feature_count = be32 bytes (start.place + 8) in
      let many = be32 bytes (start.place + 12) in
      let reach : Reach = chain_reach bytes start.place next.place in
      let first = feature_place start.place feature_count in
      let read = chain_parts bytes glyph_count start next.place c is in
      let features = features_parts bytes (start.place + 16) next.place feature_count c.features read.features in
      let counted_features : length c.features ≡ feature_count =
      sym (ap length features.all)
      ∙ length-map-range_with_len (λ i. feature_at (take next.place bytes) (start.place + 16 + 12 * i)) 0 feature_count in
      let inside = features.inside in
      let all = subtables_light reach many first c.subtables inside read.subtables in
      let light = all_light reach (next.place - start.place) many first refl (omega (arith, inside)) all in
      let shares = shares_fit (next.place - start.place) many in
      omega (arith, counted_features, inside, light, shares)

  -- so it does from where it starts to where the next one starts
  chain_step : (start next : ChainStart) (c : ChainValue) → chain_at bytes glyph_count start ≡ Ok (c, next)
      → (start.place ≤ next.place) × (next.place ≤ length bytes)
      × (chain_weight bytes glyph_count start c next ≤ 24 * (next.place - start.place))
  chain_step start next c is =
      let read = turn_parts bytes glyph_count start next c is in
      let e = ends bytes start.place 16 4 next.place read.ended in
      let low = e.low in
      (omega (arith, low), e.high, chain_light start next c read.value)

  -- so do chains in turn
  chains_light : (count : ℕ) (start : ChainStart) (xs : List ChainValue)
      → start.place ≤ length bytes → in_turn (chain_at bytes glyph_count) count start ≡ Ok xs
      → weight_in_turn (chain_at bytes glyph_count) (chain_weight bytes glyph_count) count start
      ≤ 24 * (length bytes - start.place)
  chains_light zero start xs begins is = omega arith
  chains_light (suc count) start xs begins is =
      let f = chain_at bytes glyph_count in
      let t = turn f count start xs is in
      let first = chain_step start t.next t.one t.first in
      let rest = chains_light count t.next t.others first.1 t.rest in
      let total = weight_more f (chain_weight bytes glyph_count) count start t.next t.one t.first in
      let begins_next = first.0 in
      let ends_next = first.1 in
      let light = first.2 in
      omega (arith, total, rest, begins_next, ends_next, light)

-- the law
pub memory_bounded : MemoryIsBounded
memory_bounded bytes glyph_count chains is =
    let table = table_parts bytes glyph_count chains is in
    let begins = table.0 in
    let light = chains_light bytes glyph_count (be32 bytes 4) first_chain chains begins table.1 in
    omega (arith, light)
