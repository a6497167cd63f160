use Rattle.std.proofs.Common.{◌≡◌, ◌+◌, ◌-◌, ◌++◌, ℕ, arith, drop, length, subst, take}
use Rattle.aat_buffer.specs.inside.Gap.{around_gap}
use Rattle.aat_buffer.proofs.Gap.{all_put_in_gap, all_put_before_gap}
use Rattle.aat_buffer.proofs.gap_line.put_before_gap.Goals.{then-place-start, else-place-start}
use Rattle.aat_buffer.proofs.gap_line.put_before_gap.Goals as goal

pub returns-clause-line : goal.returns-clause-line
returns-clause-line c =
    let xs = c.args.cells.now in
    let gs = c.args.glyphs.now in
    let i = c.args.start in
    let j = c.args.end in
    let place = c.args.place in
    let count : place + length gs - place ≡ length gs = omega arith in
    elim c.if-place-start.branch [
      | then-place-start w ↦
          let carried : place + (i - place) ≡ i = omega (arith, c.requires.place) in
          rw (c.copy_from_slice.ensures.after, count, w.cells-is, w.carry.ensures.after, carried)
          (all_put_before_gap xs gs place i j c.requires.place c.requires.room c.requires.in_cells)
      | else-place-start w ↦
          let same : i ≡ place = omega (arith, c.requires.place, w.if-place-start.false) in
          rw (c.copy_from_slice.ensures.after, count, w.cells-is)
          (subst (λ (p : ℕ). around_gap (take p xs ++ (gs ++ drop (length gs) (drop p xs))) (i + length gs) j
          ≡ take p (around_gap xs i j) ++ (gs ++ drop p (around_gap xs i j))) same
          (all_put_in_gap xs gs i j c.requires.room c.requires.in_cells))
    ]
