use Rattle.std.proofs.Common.{ℕ, ◌+◌, ◌<◌, ◌≤◌, arith, subst, sym}
use Rattle.std.specs.Ordering.{ord_min}
use Rattle.std.proofs.Common.{nat_cmp}
use Rattle.aat_bytes.specs.Numbers.{be32}
use Rattle.aat_bytes.specs.facts.Bisections.{GoesOn, begins, ended, none_left, on_above, on_below}
use Rattle.aat_read_sfnt.specs.SegmentedCoverage.{end_char, start_char}
use Rattle.aat_read_sfnt.proofs.cmap.segmented_coverage.SegmentedCoverage.group_until.Goals as goal

-- the lower of two numbers is one of them, and no more than either
lower : (a b : ℕ) → (ord_min nat_cmp a b ≤ a) × (ord_min nat_cmp a b ≤ b)
lower a b = (grind arith, grind arith)

above_both : (a b k : ℕ) → k < a → k < b → k < ord_min nat_cmp a b
above_both a b k one other = grind arith

pub loop-from-init : goal.loop-from-init
loop-from-init c =
    let bytes = c.args.self.now in
    record {
      goes = λ g from below.
          subst (λ (to : ℕ). GoesOn (start_char bytes) (end_char bytes) (be32 bytes 12) g 0 to) (sym c.group_count-to.ensures)
          (begins (start_char bytes) (end_char bytes) (be32 bytes 12) g);
      some = omega arith;
      within = omega (arith, c.group_count-to.ensures);
    }

pub loop-from-preserved-then-character-first : goal.loop-from-preserved-then-character-first
loop-from-preserved-then-character-first c =
    let bytes = c.args.self.now in
    let low = lower c.loop-from.end c.start_char-first.result in
    record {
      goes = λ g from below.
          on_below (start_char bytes) (end_char bytes) (be32 bytes 12) g c.loop-from.from c.loop-from.to
          (c.loop-from.invariant.goes g from (omega (arith, c.min-end.ensures, low.0))) c.loop-from-test.true
          (omega (arith, c.start_char-first.ensures, c.min-end.ensures, low.1));
      some = let above = above_both c.loop-from.end c.start_char-first.result c.args.character c.loop-from.invariant.some c.if-character-first.true in
          omega (arith, above, c.min-end.ensures);
      within = omega arith;
    }

pub loop-from-preserved : goal.loop-from-preserved
loop-from-preserved c =
    let bytes = c.args.self.now in
    record {
      goes = λ g from below.
          on_above (start_char bytes) (end_char bytes) (be32 bytes 12) g c.loop-from.from c.loop-from.to
          (c.loop-from.invariant.goes g from below) c.loop-from-test.true
          (omega (arith, c.start_char-first.ensures)) (omega (arith, c.end_char-last.ensures));
      some = c.loop-from.invariant.some;
      within = c.loop-from.invariant.within;
    }

pub returns-else-last-character-clause-same : goal.returns-else-last-character-clause-same
returns-else-last-character-clause-same c =
    let bytes = c.args.self.now in
    let low = lower c.loop-from.end (c.end_char-last.result + 1) in
    λ g from below.
    sym (ended (start_char bytes) (end_char bytes) (be32 bytes 12) g c.loop-from.from c.loop-from.to
    (c.loop-from.invariant.goes g from (omega (arith, c.min.ensures, low.0))) c.loop-from-test.true
    (omega (arith, c.start_char-first.ensures)) (omega (arith, c.end_char-last.ensures, c.min.ensures, low.1)))

pub returns-else-last-character-clause-some : goal.returns-else-last-character-clause-some
returns-else-last-character-clause-some c =
    let above = above_both c.loop-from.end (c.end_char-last.result + 1) c.args.character c.loop-from.invariant.some (omega arith) in
    omega (arith, above, c.min.ensures)

pub returns-clause-same : goal.returns-clause-same
returns-clause-same c =
    let bytes = c.args.self.now in
    λ g from below.
    sym (none_left (start_char bytes) (end_char bytes) (be32 bytes 12) g c.loop-from.from c.loop-from.to
    (c.loop-from.invariant.goes g from below) c.loop-from-test.false)
