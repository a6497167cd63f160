use Rattle.std.proofs.Common.{ℕ, ◌∙◌, length, arith}
use Rattle.std.proofs.lemmas.Grind.{common_steps}
use Rattle.aat_machine_tables.specs.declared.judged.JudgedEntry.TheVariants.{Missing}
use Rattle.aat_machine_tables.specs.inside.Grid.{judged_rule}
use Rattle.aat_lookup.specs.facts.Filling.{filled_more, kept_more}
use Rattle.aat_machine_tables.proofs.state_table.append_row.Goals as goal

pub loop-class-preserved : goal.loop-class-preserved
loop-class-preserved g c =
    let cells = c.loop-class.cells.items in
    let pushed = c.in_ok-push.ensures.items in
    let base = length c.args.cells.now.items in
    let entry = c.judged_in_row.result in
    let entries = λ (k : ℕ). judged_rule g.T.Acting.may_act c.args.rules.now c.args.state k in
    record {
      long = grind (arith, common_steps);
      kept = λ k lt. kept_more Missing base cells c.push.new.self.items entry pushed k (omega (arith, c.loop-class.invariant.long)) ∙ c.loop-class.invariant.kept k lt;
      entries = filled_more Missing base cells c.push.new.self.items entry pushed entries c.loop-class.class c.loop-class.invariant.long c.judged_in_row.ensures c.loop-class.invariant.entries;
    }
