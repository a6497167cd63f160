use Rattle.std.proofs.Common.{◌≡◌, ℕ, ◌<◌, true}
use Rattle.aat_buffer.specs.Buffer.{glyph_at}
use Rattle.aat_kerning_machines.specs.inside.Passing.{is_passed}
use Rattle.aat_kerning_machines.proofs.passing.passed_count.Given as goal

abbrev pub invariant-loop-glyph : goal.invariant-loop-glyph
invariant-loop-glyph g l = record {
  counted : l.count ≡ l.glyph-index;
  passed : (i : ℕ) → i < l.count → is_passed g.D.StateTableDriver.resting l.run.state_table.now (glyph_at l.glyphs i).glyph_id ≡ true;
}
