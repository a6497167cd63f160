use Rattle.std.proofs.Common.{◌≡◌, true, arith}
use Rattle.aat_findings.specs.inside.Marks.{is_marked}
use Rattle.aat_findings.proofs.Marking.{marks_none}
use Rattle.aat_findings.proofs.Reaching.{marks_found, reached_start, sound_more, sound_none}
use Rattle.aat_findings.proofs.reached.mark_all.Goals as goal

pub mark-requires : goal.mark-requires
mark-requires g c = record {
  marks = marks_none c.args.marks.now c.new-order.result.items c.requires.long c.requires.zero c.new-order.ensures.items;
}

pub mark_each-requires-clause-sound : goal.mark_each-requires-clause-sound
mark_each-requires-clause-sound g c =
    let table = c.args.table.now in
    let none = sound_none table c.args.marks.now c.requires.zero in
    let first = sound_more table c.args.marks.now c.mark.new.marks 0 (reached_start table 0 (omega arith)) none c.in_ok-mark.ensures.only in
    sound_more table c.mark.new.marks c.mark-2.new.marks 1 (reached_start table 1 (omega arith)) first c.in_ok-mark-2.ensures.only

pub returns : goal.returns
returns g c =
    let marks = c.mark_each.new.marks in
    let here = c.in_ok-mark_each.ensures in
    let zero : is_marked marks 0 ≡ true = here.kept 0 (c.in_ok-mark-2.ensures.kept 0 c.in_ok-mark.ensures.here) in
    let one : is_marked marks 1 ≡ true = here.kept 1 c.in_ok-mark-2.ensures.here in
    marks_found c.args.table.now marks here.followed here.long zero one here.sound
