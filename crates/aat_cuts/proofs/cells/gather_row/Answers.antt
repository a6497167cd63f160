use Rattle.std.proofs.Common.{◌≡◌, Some, sym}
use Rattle.aat_machine_tables.specs.Table.{entry_of}
use Rattle.aat_cuts.proofs.Gathered.{sound_more, kept_more, row_more}
use Rattle.aat_cuts.proofs.cells.gather_row.Goals as goal

pub loop-class-preserved : goal.loop-class-preserved
loop-class-preserved g c =
    let before = c.loop-class.invariant in
    let is : entry_of c.args.table.now c.args.state c.loop-class.class ≡ Some c.in-Some.entry = sym {b = entry_of c.args.table.now c.args.state c.loop-class.class} c.in-Some.ensures in
    record {
      sound = sound_more c.args.table.now c.loop-class.cells.items c.push.new.self.items c.args.state c.loop-class.class c.in-Some.entry c.in_ok-push.ensures.items is before.sound;
      kept = λ x here. kept_more c.args.table.now c.loop-class.cells.items c.push.new.self.items c.args.state c.loop-class.class c.in-Some.entry c.in_ok-push.ensures.items is x (before.kept x here);
      row = row_more c.args.table.now c.loop-class.cells.items c.push.new.self.items c.args.state c.loop-class.class c.in-Some.entry c.in_ok-push.ensures.items is before.row;
    }
