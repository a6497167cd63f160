use Rattle.std.proofs.Common.{◌≡◌, ◌-◌}
use Rattle.aat_findings.specs.Growth.{leads_to}
use Rattle.aat_findings.proofs.growth.comes_back.Given as goal

abbrev pub invariant-loop-turn : goal.invariant-loop-turn
invariant-loop-turn l =
    leads_to l.table l.glyphs l.start 64 l.start ≡ leads_to l.table l.glyphs l.start (64 - l._turn) (l.state, l.class)
