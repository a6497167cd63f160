use Rattle.std.proofs.Common.{◌≡◌, take}
use Rattle.aat_run.specs.Driven.{StaysWithin}
use Rattle.aat_run.specs.Outcome.{in_order}
use Rattle.aat_run.specs.Ranges.{switch_for}
use Rattle.aat_kinds.specs.Kinds.{sizes_of}
use Rattle.aat_morx.specs.Substitution.{subtable_run}
use Rattle.aat_morx.specs.LineWords.{TellsOf}
use Rattle.aat_morx.proofs.chains.run_chain.Given as goal

abbrev pub invariant-loop-i : goal.invariant-loop-i
invariant-loop-i g l = record {
  same : record { buffer = l.buffer; turns = l.turns } ≡ in_order (subtable_run (sizes_of g.row.SLOTS g.row.LONGEST l.fn.face) (switch_for l.fn.ranges)) (take l.i l.fn.subtables) l.fn.buffer;
  within : StaysWithin l.i l.fn.buffer l.buffer l.turns;
  tells : TellsOf l.known l.fn.words l.buffer.line;
}
