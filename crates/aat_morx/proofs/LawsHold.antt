-- Substitution is bounded.
use Rattle.std.proofs.Common.{◌≡◌, ℕ, ◌+◌, ◌*◌, ◌<◌, ◌≤◌, List, [], ◌∷◌, length, None, refl, arith}
use Rattle.std.proofs.lemmas.List.Sums.{sum_by-cons}
use Rattle.std.specs.Prelude.{fold}
use Rattle.aat_buffer.specs.Buffer.{Buffer, without_positions}
use Rattle.aat_buffer.specs.facts.Cases.{chosen}
use Rattle.aat_buffer.specs.facts.Lines.{length_concat, of_concat}
use Rattle.aat_machine_tables.specs.declared.morx.Subtable.{Subtable}
use Rattle.aat_run.specs.Budget.{extent}
use Rattle.aat_run.specs.Laws.{IsBounded}
use Rattle.aat_run.specs.Outcome.{Outcome, untouched, then_run}
use Rattle.aat_run.specs.Switches.{Switch}
use Rattle.aat_run.specs.facts.InOrder.{stays_is_bounded, in_order_is_bounded, in_order_lengthens}
use Rattle.aat_map.specs.SwitchedChains.{SwitchedChain}
use Rattle.aat_kinds.specs.Kinds.{Sizes, kind_run, ordered_run}
use Rattle.aat_kinds.proofs.LawsHold.{kind_is_bounded, ordered_is_bounded}
use Rattle.aat_morx.specs.Substitution.{is_skipped, subtable_run, chain_run, substituted, prepared, subtables_in}
use Rattle.aat_morx.specs.Lawful.{RunsAreBounded}

pub subtable_is_bounded : (z : Sizes) (switch : Switch) (s : Subtable) (b : Buffer) → 0 < z.slots → IsBounded b (subtable_run z switch s b)
unfolding subtable_run
subtable_is_bounded z switch s b some =
    let run = kind_run z (switch.is_on s.feature_flags) s.kind in
    chosen (IsBounded b) (is_skipped switch s b.direction) (untouched b) (ordered_run s.coverage run b)
    (λ _. stays_is_bounded b)
    (λ _. ordered_is_bounded s.coverage run b (λ d. kind_is_bounded z (switch.is_on s.feature_flags) s.kind d some))

-- no chain shortens the line
pub chain_lengthens : (z : Sizes) (c : SwitchedChain) (b : Buffer) → 0 < z.slots → length b.line ≤ length (chain_run z c b).buffer.line
chain_lengthens z c b some = in_order_lengthens (subtable_run z c.switch) c.subtables b (λ s d. (subtable_is_bounded z c.switch s d some).length)

-- the chains behind what was run before
chains_bounded : (z : Sizes) (chains : List SwitchedChain) (o : Outcome) (n : ℕ) → 0 < z.slots → extent o.buffer ≤ n
    → ((fold (λ o x. then_run o (chain_run z x)) o chains).turns ≤ o.turns + subtables_in chains * (n + 1))
    × ((extent (fold (λ o x. then_run o (chain_run z x)) o chains).buffer ≤ n)
    × (length o.buffer.line ≤ length (fold (λ o x. then_run o (chain_run z x)) o chains).buffer.line))
chains_bounded z [] o n some low = (omega arith, (low, omega arith))
chains_bounded z (c ∷ cs) o n some low =
    let k = in_order_is_bounded (subtable_run z c.switch) c.subtables o.buffer n (λ s b. subtable_is_bounded z c.switch s b some) low in
    let longer = chain_lengthens z c o.buffer some in
    let more = chains_bounded z cs (then_run o (chain_run z c)) n some k.1 in
    let count : subtables_in (c ∷ cs) ≡ length c.subtables + subtables_in cs = sum_by-cons (λ (x : SwitchedChain). length x.subtables) c cs in
    (rw count (omega (arith, k.0, more.0)), (more.1.0, omega (arith, longer, more.1.1)))

pub substitution_is_bounded : (z : Sizes) (chains : List SwitchedChain) (b : Buffer) → 0 < z.slots
    → ((substituted z chains b).turns ≤ subtables_in chains * (extent b + 1))
    × ((extent (substituted z chains b).buffer ≤ extent b) × (length b.line ≤ length (substituted z chains b).buffer.line))
substitution_is_bounded z chains b some =
    let long : length (prepared b).line ≡ length b.line = length_concat (without_positions b) None None in
    let same : (prepared b).max_ops ≡ b.max_ops = of_concat (λ (x : Buffer). x.max_ops) (without_positions b) None None (λ gs. refl) in
    let k = chains_bounded z chains (untouched (prepared b)) (extent b) some (rw (long, same) (omega arith)) in
    (omega (arith, k.0), (k.1.0, omega (arith, long, k.1.1)))

pub runs_are_bounded : RunsAreBounded
runs_are_bounded = record {
  subtable = subtable_is_bounded;
  turns = λ z chains b some. (substitution_is_bounded z chains b some).0;
  extent = λ z chains b some. (substitution_is_bounded z chains b some).1.0;
  length = λ z chains b some. (substitution_is_bounded z chains b some).1.1;
}
