use Rattle.std.proofs.Common.{rules, ◌≡◌, ◌+◌, ◌-◌, [], ◌∷◌, ◌++◌, length, map, vec_len, Ok, ap, ◌∙◌, arith}
use Rattle.std.proofs.lemmas.List.{map-append}
use Rattle.std.proofs.lemmas.List.Sums.{sum_by_push}
use Rattle.aat_machine_tables.specs.Chains.{subtable_count}
use Rattle.aat_machine_tables.specs.declared.morx.Chain.{Chain}
use Rattle.aat_read_machine.specs.Within.{RefusesWithin}
use Rattle.aat_read_extended.specs.morx.Chains.{ChainStart, chain_at, first_chain, start_behind, value_of_chain}
use Rattle.aat_read_machine.specs.InTurn.{in_turn}
use Rattle.aat_read_machine.specs.facts.Turns.{behind, fails, goes_on, refuses}
use Rattle.aat_read_extended.proofs.morx.table.chains.Goals as goal

pub returns-in_err-chain-clause-gives : goal.returns-in_err-chain-clause-gives
returns-in_err-chain-clause-gives c =
    let f = chain_at c.args.bytes.now c.args.glyph_count in
    let here : ChainStart = record { place = c.loop.place; most_subtables = c.loop.most_subtables } in
    let all = in_turn f c.args.count first_chain in
    let refuse : RefusesWithin all c.in_err-chain.field-0.0 =
    refuses (f here) all c.in_err-chain.field-0.0
    (λ fault is. c.loop.invariant.0 ∙ fails f c.args.count (map value_of_chain c.loop.chains.items) c.loop.counter here fault c.loop-test.true is)
    c.in_err-chain.ensures.gives
    in
    search rules

pub loop-preserved : goal.loop-preserved
loop-preserved c =
    let f = chain_at c.args.bytes.now c.args.glyph_count in
    let chain = c.in_ok-chain.chain in
    let here : ChainStart = record { place = c.loop.place; most_subtables = c.loop.most_subtables } in
    let behind_chain : ChainStart = start_behind c.loop.most_subtables (value_of_chain chain) c.in_ok-chain.end in
    let is : f here ≡ Ok (value_of_chain chain, behind_chain) = c.in_ok-chain.ensures.gives in
    let more : map value_of_chain c.push.new.self.items ≡ map value_of_chain c.loop.chains.items ++ value_of_chain chain ∷ [] =
    ap (map value_of_chain) c.in_ok-push.ensures.items ∙ map-append value_of_chain c.loop.chains.items (chain ∷ [])
    in
    let long : vec_len chain.subtables ≡ length chain.subtables.items = omega (arith, chain.subtables.ok.0) in
    let left : ChainStart = record { place = c.in_ok-chain.end; most_subtables = c.loop.most_subtables - vec_len chain.subtables } in
    let same : left ≡ behind_chain = ap (λ n. record { place = c.in_ok-chain.end; most_subtables = c.loop.most_subtables - n }) long in
    let next : in_turn f c.args.count first_chain ≡ behind f c.args.count (map value_of_chain c.push.new.self.items) (c.loop.counter + 1) left =
    rw (same, more)
    (c.loop.invariant.0 ∙ goes_on f c.args.count (map value_of_chain c.loop.chains.items) c.loop.counter here behind_chain (value_of_chain chain) c.loop-test.true is)
    in
    let count : subtable_count c.push.new.self.items ≡ subtable_count c.loop.chains.items + vec_len chain.subtables =
    ap subtable_count c.in_ok-push.ensures.items ∙ sum_by_push (λ (k : Chain). vec_len k.subtables) c.loop.chains.items chain
    in
    let few : c.loop.most_subtables - vec_len chain.subtables + subtable_count c.push.new.self.items ≡ 65535 =
    omega (arith, count, c.loop.invariant.1, c.in_ok-chain.ensures.few)
    in
    rw c.len-most_subtables.ensures (next, few, c.in_ok-chain.ensures.inside)
