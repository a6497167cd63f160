use Rattle.std.proofs.Common.{◌≡◌, ◌<◌, true, arith}
use Rattle.aat_findings.specs.inside.Marks.{is_marked}
use Rattle.aat_findings.proofs.Staying.{ended_none, noted_more}
use Rattle.aat_findings.proofs.Wanting.{marked_within}
use Rattle.aat_findings.proofs.turns.cycle_in.Goals as goal

pub loop-state-init : goal.loop-state-init
loop-state-init g c = record {
  ended = ended_none c.args.table.now c.args.class c.args.walks.now c.requires.long c.requires.clear;
  here = λ s below is. absurd (omega arith);
}

pub loop-state-preserved : goal.loop-state-preserved
loop-state-preserved g c =
    let l = c.loop-state in
    record {
      ended = c.in_default.ensures.none;
      here = noted_more c.args.marks.now l.walks c.walk_marked.new.walks l.state c.walk_marked.ensures.kept l.invariant.here c.in_default.ensures.here;
    }

pub returns-clause-none : goal.returns-clause-none
returns-clause-none g c s reached =
    let l = c.loop-state in
    let is : is_marked c.args.marks.now s ≡ true = c.requires.marks.each s reached in
    let below : s < 65536 = marked_within c.args.table.now c.args.marks.now c.requires.marks s is in
    l.invariant.ended.ended s (l.invariant.here s (omega (arith, below)) is)
