use Rattle.std.proofs.Common.{arith}
use Rattle.aat_bytes.specs.facts.Bisections.{ended, none_left, on_above, on_below}
use Rattle.aat_read_sfnt.specs.SegmentMapping.{end_code, lowest_code, segment_count}
use Rattle.aat_read_sfnt.proofs.cmap.segment_mapping.SegmentMapping.segment_of.Goals as goal

pub loop-from-preserved-then-end-character : goal.loop-from-preserved-then-end-character
loop-from-preserved-then-end-character c =
    let bytes = c.args.self.now in
    on_above (lowest_code bytes) (end_code bytes) (segment_count bytes) c.args.character c.loop-from.from c.loop-from.to
    c.loop-from.invariant c.loop-from-test.true (omega (arith, c.start_code-start.ensures, c.end_code-end.ensures)) (omega (arith, c.end_code-end.ensures))

pub loop-from-preserved : goal.loop-from-preserved
loop-from-preserved c =
    let bytes = c.args.self.now in
    on_below (lowest_code bytes) (end_code bytes) (segment_count bytes) c.args.character c.loop-from.from c.loop-from.to
    c.loop-from.invariant c.loop-from-test.true (omega (arith, c.start_code-start.ensures, c.end_code-end.ensures))

pub returns-else-character-start-clause-is : goal.returns-else-character-start-clause-is
returns-else-character-start-clause-is c =
    let bytes = c.args.self.now in
    ended (lowest_code bytes) (end_code bytes) (segment_count bytes) c.args.character c.loop-from.from c.loop-from.to
    c.loop-from.invariant c.loop-from-test.true (omega (arith, c.start_code-start.ensures, c.end_code-end.ensures)) (omega (arith, c.end_code-end.ensures))

pub returns-clause-is : goal.returns-clause-is
returns-clause-is c =
    let bytes = c.args.self.now in
    none_left (lowest_code bytes) (end_code bytes) (segment_count bytes) c.args.character c.loop-from.from c.loop-from.to
    c.loop-from.invariant c.loop-from-test.false
