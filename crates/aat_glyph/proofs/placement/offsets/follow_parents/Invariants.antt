use Rattle.std.proofs.Common.{◌≡◌, ◌<◌, ◌≤◌, ℕ}
use Rattle.aat_glyph.specs.placement.Attachments.{at, drawn}
use Rattle.aat_glyph.proofs.placement.offsets.follow_parents.Given as goal

-- the glyphs before this one are added up, and the others as they were
abbrev pub invariant-loop-i : goal.invariant-loop-i
invariant-loop-i l =
    ((k : ℕ) → k < l.i → at l.positions k ≡ drawn l.direction l.initial.positions k)
    × ((k : ℕ) → l.i ≤ k → at l.positions k ≡ at l.initial.positions k)
