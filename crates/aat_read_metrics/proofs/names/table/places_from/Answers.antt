use Rattle.std.proofs.Common.{rules, ◌≡◌, ◌+◌, ◌-◌, arith}
use Rattle.aat_read_metrics.specs.names.Names.{places_from}
use Rattle.aat_read_metrics.proofs.names.PlaceSteps.{still_missing, still_none, still_pushed}
use Rattle.aat_read_metrics.proofs.names.table.places_from.Goals as goal
use Rattle.aat_read_metrics.proofs.names.table.places_from.Goals.{else-loop-done-test, then-loop-done-test+in_default}

pub loop-done-preserved : goal.loop-done-preserved
loop-done-preserved c =
    let post = c.args.post.now in
    let was = c.loop-done in
    let all = places_from post c.args.start c.args.count in
    record {
      near = search rules;
      rest = still_pushed post was.places.items was.place c.args.count was._done c.loop-done-test.true c.u8_at.result c.u8_at.ensures all was.invariant.rest c.in-Some.size (was.place + (1 + c.from.result)) c.push.new.self.items c.in-Some.is c.in_ok-push.ensures.items (search rules);
    }

pub returns : goal.returns
returns c =
    let post = c.args.post.now in
    let was = c.loop-done in
    let all = places_from post c.args.start c.args.count in
    elim c.loop-done-test.branch [
      | else-loop-done-test w ↦
          let done = w.loop-done-test.false in
          let none : c.args.count - was._done ≡ 0 = omega arith in
          still_none post was.places.items was.place (c.args.count - was._done) all none was.invariant.rest
      | then-loop-done-test+in_default w ↦
          still_missing post was.places.items was.place c.args.count was._done w.loop-done-test.true w.u8_at.result w.u8_at.ensures all was.invariant.rest w.in_default.is
    ]
