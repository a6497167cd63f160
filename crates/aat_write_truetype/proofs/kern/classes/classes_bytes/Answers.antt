use Rattle.std.proofs.Common.{arith}
use Rattle.aat_kerning_tables.specs.Classes.{ClassValues}
use Rattle.aat_write_truetype.proofs.kern.ClassFacts.{are_fit}
use Rattle.aat_write_truetype.proofs.kern.DenseFacts.{below_limit}
use Rattle.aat_write_truetype.proofs.kern.classes.classes_bytes.Goals as goal

pub append_left-requires-clause-near : goal.append_left-requires-clause-near
append_left-requires-clause-near c =
    let p : ClassValues =
    record { left = c.args.left.now; right = c.args.right.now; right_count = c.args.columns; values = c.args.values.now } in
    below_limit _ c.args.left.now (are_fit p c.requires).left

pub append_right-requires-clause-low : goal.append_right-requires-clause-low
append_right-requires-clause-low c =
    let p : ClassValues =
    record { left = c.args.left.now; right = c.args.right.now; right_count = c.args.columns; values = c.args.values.now } in
    let fit = are_fit p c.requires in
    λ k d lt. let low = below_limit c.args.columns c.args.right.now fit.right k d lt in
    let narrow = fit.narrow in
    omega (arith, low, narrow)
