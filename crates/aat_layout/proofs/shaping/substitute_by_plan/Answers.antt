use Rattle.std.proofs.Common.{◌≡◌, ◌≤◌, ◌<◌, ap, true, length, ℤ, subst, rules, arith}
use Rattle.std.proofs.lemmas.Result.{IfOk-weaker, on_ok_weaker}
use Rattle.aat_machine_tables.specs.Chains.{subtable_count}
use Rattle.aat_font.specs.Face.{chains_in, tables_of}
use Rattle.aat_run.proofs.FewTurns.{few_operations, few_turns}
use Rattle.aat_run.specs.Budget.{operations_left}
use Rattle.aat_run.specs.Driven.{StaysWithin}
use Rattle.aat_layout.proofs.ShapedLines.{order_of_substituted}
use Rattle.aat_layout.proofs.shaping.substitute_by_plan.Goals as goal

pub returns-clause-order : goal.returns-clause-order
returns-clause-order g c =
    let b = c.args.buffer.now in
    let d = c.hb_aat_layout_substitute.new.buffer in
    let applied : c.args.plan.now.apply_morx ≡ true = search rules in
    on_ok_weaker c.hb_aat_layout_substitute.result (order_of_substituted c.args.plan.now.apply_morx b d applied) c.hb_aat_layout_substitute.ensures.order

pub returns-clause-few : goal.returns-clause-few
returns-clause-few g c =
    let b = c.args.buffer.now in
    let d = c.hb_aat_layout_substitute.new.buffer in
    let chains = chains_in (tables_of c.args.face.now).morx in
    let few : subtable_count chains ≤ 65535 = omega (arith, ap subtable_count c.chains-chains.ensures.listed, c.chains-chains.ensures.few) in
    let short : length b.line ≤ 1073741823 = omega (arith, c.len-length.ensures.count, c.len-length.ensures.small) in
    let spent : operations_left b.max_ops < 2147483648 =
    subst (λ (z : ℤ). operations_left z < 2147483648) c.max_ops-budget.ensures (few_operations c.max_ops-budget.result c.max_ops-budget.type_inv) in
    IfOk-weaker c.hb_aat_layout_substitute.result (StaysWithin (subtable_count chains) b d) (λ turns. turns ≤ 4611686018427387904)
    (λ turns within. few_turns turns (subtable_count chains) (length b.line) b.max_ops within.counted few short spent)
    c.hb_aat_layout_substitute.ensures.within
