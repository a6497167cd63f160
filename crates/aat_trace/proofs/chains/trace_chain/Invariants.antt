use Rattle.std.proofs.Common.{◌≡◌, take}
use Rattle.aat_run.specs.Driven.{StaysWithin}
use Rattle.aat_run.specs.Outcome.{in_order}
use Rattle.aat_run.specs.Ranges.{switch_for}
use Rattle.aat_kinds.specs.Kinds.{sizes_of}
use Rattle.aat_morx.specs.Substitution.{subtable_run}
use Rattle.aat_trace.specs.Told.{told_of_subtables}
use Rattle.aat_trace.specs.inside.Telling.{TellsMore}
use Rattle.aat_trace.proofs.chains.trace_chain.Given as goal

abbrev pub invariant-loop-k : goal.invariant-loop-k
invariant-loop-k g l = record {
  same : record { buffer = l.buffer; turns = l.turns } ≡ in_order (subtable_run (sizes_of g.row.SLOTS g.row.LONGEST l.fn.face) (switch_for l.fn.ranges)) (take l.k l.fn.subtables) l.fn.buffer;
  within : StaysWithin l.k l.fn.buffer l.buffer l.turns;
  told : TellsMore l.fn.trace l.trace (told_of_subtables (sizes_of g.row.SLOTS g.row.LONGEST l.fn.face) (switch_for l.fn.ranges) l.fn.i 0 (take l.k l.fn.subtables) l.fn.buffer);
}
