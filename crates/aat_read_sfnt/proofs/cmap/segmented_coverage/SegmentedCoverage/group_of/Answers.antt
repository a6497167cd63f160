use Rattle.std.proofs.Common.{arith}
use Rattle.aat_bytes.specs.Numbers.{be32}
use Rattle.aat_bytes.specs.facts.Bisections.{ended, none_left, on_above, on_below}
use Rattle.aat_read_sfnt.specs.SegmentedCoverage.{end_char, start_char}
use Rattle.aat_read_sfnt.proofs.cmap.segmented_coverage.SegmentedCoverage.group_of.Goals as goal

pub loop-from-preserved-then-character-start : goal.loop-from-preserved-then-character-start
loop-from-preserved-then-character-start c =
    let bytes = c.args.self.now in
    on_below (start_char bytes) (end_char bytes) (be32 bytes 12) c.args.character c.loop-from.from c.loop-from.to
    c.loop-from.invariant c.loop-from-test.true (omega (arith, c.start_char-start.ensures))

pub loop-from-preserved : goal.loop-from-preserved
loop-from-preserved c =
    let bytes = c.args.self.now in
    on_above (start_char bytes) (end_char bytes) (be32 bytes 12) c.args.character c.loop-from.from c.loop-from.to
    c.loop-from.invariant c.loop-from-test.true (omega (arith, c.start_char-start.ensures)) (omega (arith, c.end_char-end.ensures))

pub returns-else-end-character-clause-is : goal.returns-else-end-character-clause-is
returns-else-end-character-clause-is c =
    let bytes = c.args.self.now in
    ended (start_char bytes) (end_char bytes) (be32 bytes 12) c.args.character c.loop-from.from c.loop-from.to
    c.loop-from.invariant c.loop-from-test.true (omega (arith, c.start_char-start.ensures)) (omega (arith, c.end_char-end.ensures))

pub returns-clause-is : goal.returns-clause-is
returns-clause-is c =
    let bytes = c.args.self.now in
    none_left (start_char bytes) (end_char bytes) (be32 bytes 12) c.args.character c.loop-from.from c.loop-from.to
    c.loop-from.invariant c.loop-from-test.false
