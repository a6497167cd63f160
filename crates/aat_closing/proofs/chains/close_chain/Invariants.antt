use Rattle.std.proofs.Common.{take}
use Rattle.aat_run.specs.Driven.{StaysWithin}
use Rattle.aat_run.specs.Ranges.{switch_for}
use Rattle.aat_kinds.specs.Kinds.{sizes_of}
use Rattle.aat_morx.specs.LineWords.{TellsOf}
use Rattle.aat_closing.specs.ClosingChains.{closing_subtable}
use Rattle.aat_closing.specs.ClosingRuns.{IsTold, told_in_order}
use Rattle.aat_closing.proofs.chains.close_chain.Given as goal

abbrev pub invariant-loop-i : goal.invariant-loop-i
invariant-loop-i g l = record {
  same : IsTold (told_in_order (closing_subtable (sizes_of g.row.SLOTS g.row.LONGEST l.fn.face) (switch_for l.fn.ranges)) (take l.i l.fn.subtables) l.fn.buffer) l.buffer l.told;
  within : StaysWithin l.i l.fn.buffer l.buffer l.told.turns;
  tells : TellsOf l.known l.fn.words l.buffer.line;
}
