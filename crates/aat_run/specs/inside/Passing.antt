-- Glyphs that a machine passes in state 0. No contract but those of turns and runs cites this.
use Rattle.std.specs.Prelude.{ℕ, zero, suc, ◌+◌}
use Rattle.aat_buffer.specs.Buffer.{Buffer, glyph_at}

-- the last cluster that was looked at, behind so many glyphs from the cursor on
abbrev pub last_seen : Buffer → ℕ → ℕ → ℕ
last_seen b last zero = last
last_seen b last (suc k) = (glyph_at b.line (b.cursor + k)).cluster
