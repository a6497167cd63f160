use Rattle.std.proofs.Common.{◌≡◌, ◌*◌, ◌≤◌, take}
use Rattle.std.specs.Option.{option_copied}
use Rattle.aat_buffer.specs.Clusters.{IsSmall}
use Rattle.aat_kerning_machines.specs.Positions.{IsPlaced}
use Rattle.aat_kerning.proofs.Positioned.{positioned_so_far}
use Rattle.aat_kerning.proofs.kerning_subtable.kern_by_subtables.Given as goal

abbrev pub invariant-loop-subtable : goal.invariant-loop-subtable
invariant-loop-subtable g l =
    let kerning = g.S.KerningSubtable.kerning l.fn.plan.kern_mask (option_copied l.fn.ankr) in
    record {
      same : record { buffer = l.buffer; turns = l.turns; is_attached = l.is_attached }
          ≡ positioned_so_far l.fn.plan.requested_kerning kerning (take l.subtable-index l.fn.subtables) l.fn.buffer;
      below : l.turns ≤ l.subtable-index * 0x100000000;
      ids : IsSmall l.buffer;
      placed : IsPlaced l.buffer;
    }
