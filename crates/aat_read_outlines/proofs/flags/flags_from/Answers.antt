use Rattle.std.proofs.Common.{rules}
use Rattle.aat_read_outlines.specs.Flags.{flags_from, run_at}
use Rattle.aat_read_outlines.proofs.FlagSteps.{still_missing, still_pushed}
use Rattle.aat_read_outlines.proofs.flags.flags_from.Goals as goal

pub returns-in_default-clause-flags : goal.returns-in_default-clause-flags
returns-in_default-clause-flags g c =
    let bytes = c.args.bytes.now in
    let was = c.loop-done in
    let all = flags_from bytes (run_at c.args.place) c.args.count in
    still_missing bytes was.flags.items was.run c.args.count was._done c.loop-done-test.true c.next_run.result c.next_run.ensures.run all c.in_default.is was.invariant.rest

pub loop-done-preserved : goal.loop-done-preserved
loop-done-preserved g c =
    let bytes = c.args.bytes.now in
    let was = c.loop-done in
    let all = flags_from bytes (run_at c.args.place) c.args.count in
    record {
      inside = c.in-Some.ensures.inside;
      counted = search rules;
      rest = still_pushed bytes was.flags.items was.run c.args.count was._done c.loop-done-test.true c.next_run.result c.next_run.ensures.run c.in-Some.next c.push.new.self.items all c.in-Some.is c.in_ok-push.ensures.items was.invariant.rest;
    }
