use Rattle.std.proofs.Common.{◌≡◌, ◌<◌, inl, inr, None, Some, length, get_or, refl, sym, arith}
use Rattle.aat_findings.specs.Stays.{stay_next}
use Rattle.aat_findings.proofs.Staying.{fewer, noted_kept, reached_stay, started_more, walk_begins, walk_ends, walk_joins, walk_more}
use Rattle.aat_findings.proofs.turns.walk.Goals as goal

pub turns-init : goal.turns-init
turns-init g c = record {
  walked = walk_begins c.args.table.now c.args.class c.args.walks.now c.args.number c.args.start c.requires.walks;
  started = inr refl;
  kept = λ s some. some;
  reached = c.requires.reached;
}

pub turns-smaller : goal.turns-smaller
turns-smaller g c =
    let l = c.turns in
    let within : l.state < length l.walks = omega (arith, l.invariant.walked.long) in
    let clear : get_or l.walks l.state 0 ≡ 0 = omega arith in
    omega (arith, fewer l.walks l.state c.args.number within clear c.requires.number)

pub turns-preserved : goal.turns-preserved
turns-preserved g c =
    let table = c.args.table.now in
    let l = c.turns in
    let walked = l.invariant.walked in
    let within : l.state < length l.walks = omega (arith, walked.long) in
    let clear : get_or l.walks l.state 0 ≡ 0 = omega arith in
    let next = c.in-Some.next in
    let is : stay_next table c.args.class l.state ≡ Some next = sym {b = stay_next table c.args.class l.state} c.in-Some.ensures in
    record {
      walked = walk_more table c.args.class l.walks c.args.number l.state walked within clear next is;
      started = inl (started_more table c.args.class l.walks c.args.number l.state walked within clear c.args.start next c.requires.number l.invariant.started);
      kept = λ s some. noted_kept table c.args.class l.walks c.args.number l.state walked within clear s c.requires.number (l.invariant.kept s some);
      reached = reached_stay table c.args.class l.state next l.invariant.reached is;
    }

pub returns-in-None-clause-none : goal.returns-in-None-clause-none
returns-in-None-clause-none g c =
    let table = c.args.table.now in
    let l = c.turns in
    let walked = l.invariant.walked in
    let within : l.state < length l.walks = omega (arith, walked.long) in
    let clear : get_or l.walks l.state 0 ≡ 0 = omega arith in
    let is : stay_next table c.args.class l.state ≡ None = sym {b = stay_next table c.args.class l.state} c.in-None.ensures in
    walk_ends table c.args.class l.walks c.args.number l.state walked within clear is

pub returns-clause-none : goal.returns-clause-none
returns-clause-none g c =
    let l = c.turns in
    let some : 0 < get_or l.walks l.state 0 = omega arith in
    walk_joins c.args.table.now c.args.class l.walks c.args.number l.state l.invariant.walked some (λ is. absurd (omega (arith, is)))
