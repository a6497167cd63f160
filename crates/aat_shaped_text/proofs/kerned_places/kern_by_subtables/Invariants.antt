use Rattle.std.proofs.Common.{◌≡◌, Bool, List, drop, length, map, false}
use Rattle.aat_buffer.specs.Buffer.{Buffer}
use Rattle.aat_buffer.specs.Clusters.{IsSmall}
use Rattle.aat_cut_kinds.specs.KernedTables.{runs_over}
use Rattle.aat_cut_kinds.specs.KerningCuts.{kerned_by_all}
use Rattle.aat_font.specs.Face.{tables_of}
use Rattle.aat_kerning_machines.specs.Positions.{IsPlaced}
use Rattle.aat_shaped_text.specs.inside.KernedRuns.{Kerns}
use Rattle.aat_shaped_text.proofs.kerned_places.kern_by_subtables.Given as goal

abbrev pub invariant-loop-subtable : goal.invariant-loop-subtable
invariant-loop-subtable g l =
    let requested = l.fn.kerning.plan.now.requested_kerning in
    let d = l.fn.buffer.direction in
    let kerned = g.S.OpenKerning.kerned (tables_of l.fn.kerning.face.now).ankr in
    record {
      ids : IsSmall l.buffer;
      placed : IsPlaced l.buffer;
      way : l.buffer.direction ≡ d;
      count : length l.places ≡ length l.buffer.line;
      rest : (e : Buffer) (new : List Bool)
          → Kerns (kerned_by_all (runs_over requested d l.is_attached (map kerned (drop l.subtable-index l.fn.subtables)))) l.buffer l.places e new
          → Kerns (kerned_by_all (runs_over requested d false (map kerned l.fn.subtables))) l.fn.buffer l.fn.places e new;
    }
