use Rattle.std.proofs.Common.{ℕ, ◌-◌, ◌<◌, ◌≤◌}
use Rattle.aat_bytes.specs.Numbers.{be16}
use Rattle.aat_bytes.specs.facts.Bisections.{GoesOn}
use Rattle.aat_read_sfnt.specs.ClassDefinition.{first_glyph, last_glyph}
use Rattle.aat_read_sfnt.proofs.class_definition.range_until.Given as goal

abbrev pub invariant-loop-from : goal.invariant-loop-from
invariant-loop-from l = record {
  goes : (g : ℕ) → l.glyph ≤ g → g < l.end → GoesOn (first_glyph l.bytes) (last_glyph l.bytes) (be16 l.bytes 2) g l.from l.to;
  some : l.glyph < l.end;
  within : l.to ≤ be16 l.bytes 2;
}

abbrev pub decreases-loop-from : goal.decreases-loop-from
decreases-loop-from l = l.to - l.from
