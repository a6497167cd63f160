use Rattle.std.proofs.Common.{◌≡◌, ℕ, Bool, false, arith}
use Rattle.std.proofs.lemmas.Bool.{cases_lt}
use Rattle.std.proofs.lemmas.Grind.{common_steps}
use Rattle.aat_kerning_tables.specs.inside.Rows.{IsQuiet}
use Rattle.aat_kerning_tables.proofs.ClassRows.{told_rows}
use Rattle.aat_lookup.specs.facts.Filling.{holds_more}
use Rattle.aat_kerning_tables.proofs.class_pairs.kerning_rows.Goals as goal

pub loop-row-init : goal.loop-row-init
loop-row-init g c = record {
  long = grind (arith, common_steps);
  quiet = λ left lt told. absurd (omega arith);
}

pub loop-row-preserved : goal.loop-row-preserved
loop-row-preserved g c = record {
  long = grind (arith, common_steps);
  quiet = holds_more false c.loop-row.told.items c.push.new.self.items c.kerns.result c.in_ok-push.ensures.items c.loop-row.row c.loop-row.invariant.long (λ (left : ℕ) (told : Bool). told ≡ false → IsQuiet c.args.values.now c.args.right_count left) c.loop-row.invariant.quiet c.kerns.ensures;
}

pub returns : goal.returns
returns g c left small none =
    told_rows c.args.values.now c.args.right_count c.row_count-count.result c.loop-row.told.items left small c.loop-row.row (omega arith) c.loop-row.invariant.quiet c.row_count-count.ensures.all none (cases_lt left c.loop-row.row)
