use Rattle.std.proofs.Common.{◌≡◌, ℕ, ◌+◌, ◌-◌, ◌<◌, ◌==◌, ◌∙◌, Bool, List, Option, false, length, get_or, take, ap, sym, arith}
use Rattle.std.proofs.lemmas.Grind.{common_steps}
use Rattle.aat_lookup.specs.Keys.{first, value_in}
use Rattle.aat_lookup.specs.facts.Rising.{keys_rise}
use Rattle.aat_lookup.specs.inside.Dense.{is_own}
use Rattle.aat_lookup.proofs.FullSpans.{marks_here}
use Rattle.aat_lookup.proofs.MoveAnswers.{none_own}
use Rattle.aat_lookup.proofs.MovesWritten.{own_before, value_new, value_old, written}
use Rattle.aat_lookup.proofs.moves.kept_marks.Goals as goal

pub returns-then-own-eq0-clause-marks : goal.returns-then-own-eq0-clause-marks
returns-then-own-eq0-clause-marks g c = λ k lt.
    let others = rw c.if-own-eq0.true at c.own_end-own.ensures.others in
    ap (λ (xs : List Bool). get_or xs k false) c.new.ensures.items ∙ sym (none_own c.args.pairs.now (c.args.lowest + k) others)

pub returns-then-marks-own-clause-marks : goal.returns-then-marks-own-clause-marks
returns-then-marks-own-clause-marks g c = λ k lt.
    marks_here c.args.pairs.now c.requires.rising c.args.lowest c.args.count c.own_end-own.result c.requires.within c.own_end-own.ensures.within c.if-marks-own.true
    c.in_ok-kept.kept.items c.in_ok-kept.ensures.long c.in_ok-kept.ensures.each c.own_end-own.ensures.others k

pub index_mut-requires : goal.index_mut-requires
index_mut-requires g c =
    let rise = keys_rise first c.args.pairs.now c.requires.rising c.loop-i.i (c.own_end-own.result - 1) (0, 0) (omega arith) (omega arith) in
    omega (arith, rise, c.loop-i.invariant.long)

pub loop-i-preserved : goal.loop-i-preserved
loop-i-preserved g c =
    let pairs = c.args.pairs.now in
    let lowest = c.args.lowest in
    let i = c.loop-i.i in
    let lt : i < length pairs = omega arith in
    let x = get_or pairs i (0, 0) in
    let inside = c.requires.within i (0, 0) lt in
    let rise = keys_rise first pairs c.requires.rising i (c.own_end-own.result - 1) (0, 0) (omega arith) (omega arith) in
    let new = value_new pairs c.requires.rising i (0, 0) lt in
    let old = value_old pairs c.requires.rising i (0, 0) lt in
    record {
      long = grind (arith, common_steps);
      marks = λ k below.
          let glyph = lowest + k in
          written c.loop-i.kept.items (x.0 - lowest) (x.1 == x.0) false (is_own (value_in (take (i + 1) pairs) glyph) glyph) k (omega (arith, rise, inside, c.loop-i.invariant.long))
          (λ e.
          let same : x.0 ≡ glyph = omega (arith, inside, e) in
          ap (λ (q : ℕ). x.1 == q) same ∙ sym (ap (λ (v : Option ℕ). is_own v glyph) (new glyph same)))
          (λ ne. c.loop-i.invariant.marks k below ∙ sym (ap (λ (v : Option ℕ). is_own v glyph) (old glyph (λ e. ne (omega (arith, inside, e))))));
    }

pub returns-clause-marks : goal.returns-clause-marks
returns-clause-marks g c = λ k lt.
    let glyph = c.args.lowest + k in
    let done : c.loop-i.i ≡ c.own_end-own.result = omega arith in
    c.loop-i.invariant.marks k lt
    ∙ ap (λ (n : ℕ). is_own (value_in (take n c.args.pairs.now) glyph) glyph) done
    ∙ own_before c.args.pairs.now c.own_end-own.result glyph c.own_end-own.ensures.others
