use Rattle.std.specs.Option.{option_copied}
use Rattle.aat_kerning.specs.Positioning.{is_turned_round, run_of_kerx_subtable}
use Rattle.aat_kerning.proofs.Positioned.{turned_run}
use Rattle.aat_kerning.proofs.kerx.run_in_its_order.Goals as goal

pub returns-clause-run : goal.returns-clause-run
returns-clause-run g c =
    let s = c.args.subtable.now in
    let kern_mask = c.args.plan.now.kern_mask in
    turned_run (run_of_kerx_subtable kern_mask (option_copied c.args.ankr) s.has_cross_stream s.tuple_count s.format)
    c.takes_turned_line-is_turned.result (is_turned_round s.is_last_to_first s.format)
    c.args.buffer.now c.turn_round.new.buffer c.run_kerx_subtable-turns.new.buffer c.turn_round-2.new.buffer c.run_kerx_subtable-turns.result
    c.takes_turned_line-is_turned.ensures c.turn_round.ensures c.run_kerx_subtable-turns.ensures.run c.turn_round-2.ensures
