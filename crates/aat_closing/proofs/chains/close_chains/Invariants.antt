use Rattle.std.proofs.Common.{◌≡◌, take}
use Rattle.std.specs.Option.{option_copied}
use Rattle.aat_machine_tables.specs.Chains.{subtable_count}
use Rattle.aat_run.specs.Driven.{StaysWithin}
use Rattle.aat_kinds.specs.Kinds.{sizes_of}
use Rattle.aat_map.specs.Map.{lists_for}
use Rattle.aat_map.specs.SwitchedChains.{switched_by}
use Rattle.aat_morx.specs.LineWords.{TellsOf}
use Rattle.aat_closing.specs.ClosingChains.{closing_chain}
use Rattle.aat_closing.specs.ClosingRuns.{IsTold, told_in_order}
use Rattle.aat_closing.proofs.chains.close_chains.Given as goal

abbrev pub invariant-loop-i : goal.invariant-loop-i
invariant-loop-i g l = record {
  same : IsTold (told_in_order (closing_chain (sizes_of g.row.SLOTS g.row.LONGEST l.fn.face)) (take l.i (switched_by l.fn.chains (lists_for (option_copied l.fn.map) l.fn.chains))) l.fn.buffer) l.buffer l.told;
  first : l.first ≡ subtable_count (take l.i l.fn.chains);
  tells : TellsOf l.known l.words l.buffer.line;
  within : StaysWithin (subtable_count (take l.i l.fn.chains)) l.fn.buffer l.buffer l.told.turns;
}
