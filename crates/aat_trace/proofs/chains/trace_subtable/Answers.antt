use Rattle.std.proofs.Common.{◌≡◌, rules}
use Rattle.std.specs.Prelude.{IfSome, not}
use Rattle.aat_kinds.specs.Kinds.{sizes_of}
use Rattle.aat_run.specs.Ranges.{switch_for}
use Rattle.aat_trace.proofs.ToldMore.{tells_added, told_is}
use Rattle.aat_trace.specs.Told.{told_of}
use Rattle.aat_trace.specs.inside.Telling.{told_by}
use Rattle.aat_trace.proofs.chains.trace_subtable.Goals as goal

pub returns-clause-told : goal.returns-clause-told
returns-clause-told g c =
    let z = sizes_of g.row.SLOTS g.row.LONGEST c.args.run.now.face.now in
    let switch = switch_for c.args.run.now.ranges.now in
    let s = c.args.subtable.now in
    let b = c.args.buffer.now in
    let d = c.run_subtable.new.buffer in
    let place = c.args.place in
    let skips = c.is_skipped-is_run.result in
    let turned = c.is_reversed-is_reversed.result in
    let known : IfSome c.ok-before.result (λ v. v.items ≡ b.line) = search rules in
    let same = told_is z switch place.0 place.1 s b d c.in_ok-turns.turns c.direction-direction.result skips turned c.in_ok-turns.ensures.run c.direction-direction.ensures c.is_skipped-is_run.ensures.skipped
    c.is_reversed-is_reversed.ensures in
    tells_added c.args.trace.now c.add.new.self c.tell.result (told_of z switch place.0 place.1 s b)
    (told_by (record { chain = place.0; subtable = place.1; is_run = not skips; is_reversed = turned; turns = c.in_ok-turns.turns }) b.line d.line)
    c.add.ensures (c.tell.ensures.told b.line known) same c.tell.ensures.acts
