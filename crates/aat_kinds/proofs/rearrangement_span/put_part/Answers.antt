use Rattle.std.proofs.Common.{ap}
use Rattle.aat_buffer.specs.Buffer.{no_glyph, with_line}
use Rattle.aat_kinds.proofs.Ends.{put_nothing, put_one, put_both, put_turned}
use Rattle.aat_kinds.proofs.rearrangement_span.put_part.Goals as goal

pub returns-in-Nothing-clause-after : goal.returns-in-Nothing-clause-after
returns-in-Nothing-clause-after g c =
    ap (with_line c.args.buffer.now) (put_nothing c.args.part c.args.buffer.now.line c.args.start c.args.end no_glyph c.requires.fit c.requires.in_line c.args.glyphs.0 c.args.glyphs.1 c.in-Nothing.is)

pub returns-in-One-clause-after : goal.returns-in-One-clause-after
returns-in-One-clause-after g c =
    ap (with_line c.args.buffer.now) (put_one c.args.part c.args.buffer.now.line c.args.start c.args.end no_glyph c.requires.fit c.requires.in_line c.args.glyphs.0 c.args.glyphs.1 c.in-One.is)

pub returns-in-Two-clause-after : goal.returns-in-Two-clause-after
returns-in-Two-clause-after g c =
    ap (with_line c.args.buffer.now) (put_both c.args.part c.args.buffer.now.line c.args.start c.args.end no_glyph c.requires.fit c.requires.in_line c.args.glyphs.0 c.args.glyphs.1 c.in-Two.is)

pub returns-in-TwoTurned-clause-after : goal.returns-in-TwoTurned-clause-after
returns-in-TwoTurned-clause-after g c =
    ap (with_line c.args.buffer.now) (put_turned c.args.part c.args.buffer.now.line c.args.start c.args.end no_glyph c.requires.fit c.requires.in_line c.args.glyphs.0 c.args.glyphs.1 c.in-TwoTurned.is)
