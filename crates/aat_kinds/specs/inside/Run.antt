-- What the contracts of an insertion's parts say of a run of glyphs that goes in, or is refused.
use Rattle.std.specs.Prelude.{◌≡◌, ◌≤◌, ◌+◌, List, length, true}
use Rattle.aat_buffer.specs.Buffer.{Buffer}
use Rattle.aat_lookup.specs.declared.glyph_id.GlyphId.{GlyphId}
use Rattle.aat_kinds.specs.Insertion.{put_in}
use Rattle.aat_run.specs.Driven.{SameButFailed}

-- what a run that is refused leaves: a failed buffer with the line from before it
pub record IsRefusedRun (old new : Buffer) : Type 0 where
  pub line : new.line ≡ old.line
  pub within : length new.line ≤ old.max_len
  pub settings : SameButFailed old new

-- a run goes in behind the glyph at the cursor, which moves to the next place
abbrev pub put_behind_current : List GlyphId → Buffer → Buffer
put_behind_current run b = put_in run b.cursor true (b.cursor + 1) b
