use Rattle.std.proofs.Common.{arith, sym, ap, subst, ◌∙◌, ◌≡◌, ◌≢◌, ◌-◌, ◌<◌}
use Rattle.aat_buffer.specs.Marks.{cluster_at, run_before}
use Rattle.aat_buffer.specs.inside.Pending.{AreRuns, IsReached, run_first, shown_line}
use Rattle.aat_buffer.proofs.Pending.{runs_top, runs_few}
use Rattle.aat_buffer.proofs.Reaching.{reaches_none, reaches_run, reaches_glyph, reaches_end}
use Rattle.aat_buffer.proofs.buffer.hb_buffer_t.reached.Goals.{else-count-gt0-via-then-count-gt0+else-last-first, else-count-gt0-via-else-count-gt0}
use Rattle.aat_buffer.proofs.buffer.hb_buffer_t.reached.Goals as goal

pub loop-first-init : goal.loop-first-init
loop-first-init g c =
    let are = subst (λ p. AreRuns c.args.runs.count c.args.runs.last c.args.self.now.line p) (sym c.backtrack_len-p.ensures.place) c.requires.pending.apart in
    reaches_none c.args.self.now.line c.args.runs.count c.args.runs.last c.backtrack_len-p.result c.glyph-cluster.result.cluster are

pub overflow_sub-last : goal.overflow_sub-last
overflow_sub-last g c =
    let at = c.loop-first in
    let top = runs_top at.count at.last c.args.self.now.line at.first c.if-count-gt0.true at.invariant.apart in
    omega (arith, top.0.0)

pub place_at-first-requires : goal.place_at-first-requires
place_at-first-requires g c =
    let at = c.loop-first in
    let top = runs_top at.count at.last c.args.self.now.line at.first c.if-count-gt0.true at.invariant.apart in
    omega (arith, top.0.0, top.0.1, at.invariant.within)

pub place_at-last-requires : goal.place_at-last-requires
place_at-last-requires g c =
    let at = c.loop-first in
    let top = runs_top at.count at.last c.args.self.now.line at.first c.if-count-gt0.true at.invariant.apart in
    omega (arith, top.0.0, top.0.1, at.invariant.within, c.place_at-first.ensures)

pub loop-first-smaller-then-last-first : goal.loop-first-smaller-then-last-first
loop-first-smaller-then-last-first g c =
    let at = c.loop-first in
    let top = runs_top at.count at.last c.args.self.now.line at.first c.if-count-gt0.true at.invariant.apart in
    omega (arith, top.0.0, top.0.1, c.place_at-first.ensures)

pub loop-first-preserved-then-last-first : goal.loop-first-preserved-then-last-first
loop-first-preserved-then-last-first g c =
    let at = c.loop-first in
    let gs = c.args.self.now.line in
    let p = c.backtrack_len-p.result in
    let k = c.args.runs.count in
    let l = c.args.runs.last in
    let d = c.glyph-cluster.result.cluster in
    let are = subst (λ p. AreRuns k l gs p) (sym c.backtrack_len-p.ensures.place) c.requires.pending.apart in
    let j = at.first - 1 in
    let has : cluster_at gs j ≡ d = ap (λ h. h.cluster) (sym c.glyph.ensures) ∙ c.if-glyph-cluster.true in
    let first : run_first gs at.last ≡ c.place_at-first.result = sym c.place_at-first.ensures in
    let next : cluster_at gs c.place_at-first.result ≡ c.place_at-last.result = cc in
    let more = reaches_run gs k l d p at.first at.count at.last j are (omega arith) at.invariant (omega (arith, c.loop-first-test.true)) has c.if-count-gt0.true c.if-last-first.true in
    subst (λ m. IsReached gs k l d p c.place_at-first.result (at.count - 1) m) next (subst (λ i. IsReached gs k l d p i (at.count - 1) (cluster_at gs i)) first more)

pub loop-first-preserved : goal.loop-first-preserved
loop-first-preserved g c =
    let at = c.loop-first in
    let gs = c.args.self.now.line in
    let p = c.backtrack_len-p.result in
    let k = c.args.runs.count in
    let l = c.args.runs.last in
    let are = subst (λ p. AreRuns k l gs p) (sym c.backtrack_len-p.ensures.place) c.requires.pending.apart in
    let other : 0 < at.count → at.last ≢ at.first - 1 = λ some.
    elim c.else-count-gt0.branch [
      | else-count-gt0-via-then-count-gt0+else-last-first w ↦ w.if-last-first.false
      | else-count-gt0-via-else-count-gt0 w ↦ (λ e. omega (arith, some, w.if-count-gt0.false))
    ] in
    let has : cluster_at gs (at.first - 1) ≡ c.glyph-cluster.result.cluster = ap (λ h. h.cluster) (sym c.glyph.ensures) ∙ c.if-glyph-cluster.true in
    reaches_glyph gs k l c.glyph-cluster.result.cluster p at.first at.count at.last (at.first - 1) are (omega arith) at.invariant (omega (arith, c.loop-first-test.true)) has other

pub returns-else-glyph-cluster-clause-ends : goal.returns-else-glyph-cluster-clause-ends
returns-else-glyph-cluster-clause-ends g c =
    let at = c.loop-first in
    let gs = c.args.self.now.line in
    let p = c.backtrack_len-p.result in
    let k = c.args.runs.count in
    let l = c.args.runs.last in
    let are = subst (λ p. AreRuns k l gs p) (sym c.backtrack_len-p.ensures.place) c.requires.pending.apart in
    let other : cluster_at gs (at.first - 1) ≢ c.glyph-cluster.result.cluster = λ e. c.if-glyph-cluster.false (ap (λ h. h.cluster) c.glyph.ensures ∙ e) in
    let none = reaches_end gs k l c.glyph-cluster.result.cluster p at.first at.count at.last (at.first - 1) are (omega arith) at.invariant (omega (arith, c.loop-first-test.true)) other in
    let label : c.glyph-cluster.result.cluster ≡ cluster_at gs (c.args.self.now.cursor - 1) = cc in
    subst (λ d. run_before (shown_line k l gs) 0 at.first d ≡ 0) label none

pub returns-else-glyph-cluster-clause-few : goal.returns-else-glyph-cluster-clause-few
returns-else-glyph-cluster-clause-few g c = runs_few c.loop-first.count c.loop-first.last c.args.self.now.line c.loop-first.first c.loop-first.invariant.apart

pub returns-after-loop-first-clause-few : goal.returns-after-loop-first-clause-few
returns-after-loop-first-clause-few g c = runs_few c.loop-first.count c.loop-first.last c.args.self.now.line c.loop-first.first c.loop-first.invariant.apart
