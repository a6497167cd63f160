use Rattle.std.proofs.Common.{◌≡◌, ◌<◌, arith, get_or, length, of_z, refl, to_z, w64, ◌+ℤ◌}
use Rattle.std.proofs.lemmas.Int.{ints}
use Rattle.aat_shaped_text.specs.Parts.{no_shaped_glyph}
use Rattle.aat_shaper.proofs.Sums.{summed_behind, summed_past, summed_same}
use Rattle.aat_shaper.specs.declared.lines.width.Summed.{Summed}
use Rattle.aat_shaper.proofs.lines.filling.Filling.summed_forward.Goals as goal

pub loop-to-init : goal.loop-to-init
loop-to-init c =
    let s = c.args.summed in
    let past = c.max-past.result in
    let same : s.sum ≡ to_z w64 (of_z w64 s.sum) = omega (arith, ints) in
    summed_same c.args.self.now (record s { past = past }) _
    (summed_past c.args.self.now s c.requires.summed past (omega (arith, c.max-past.ensures))) refl refl same refl

pub loop-to-preserved : goal.loop-to-preserved
loop-to-preserved c =
    let whole = c.args.self.now.whole.now in
    let at = c.loop-to.to in
    let a = to_z w64 c.loop-to.sum-bits in
    let room = c.room_of-sum.result in
    let past = c.max-past.result in
    let s : Summed = record { from = c.args.summed.from; to = at; sum = a; past = past } in
    let before : (get_or whole at no_shaped_glyph).cluster < past =
    omega (arith, c.if-glyph-end.false, c.max-past.ensures)
    in
    let total : to_z w64 (of_z w64 (a +ℤ to_z w64 (of_z w64 room))) ≡ a +ℤ room = omega (arith, ints) in
    summed_behind c.args.self.now s c.loop-to.invariant room
    (to_z w64 (of_z w64 (a +ℤ to_z w64 (of_z w64 room)))) c.loop-to-test.true before c.room_of-sum.ensures.value
    c.room_of-sum.ensures.low c.room_of-sum.ensures.high total

pub returns-then-glyph-end : goal.returns-then-glyph-end
returns-then-glyph-end c = c.loop-to.invariant

pub returns : goal.returns
returns c =
    let s : Summed = record {
      from = c.args.summed.from;
      to = c.loop-to.to;
      sum = to_z w64 c.loop-to.sum-bits;
      past = c.max-past.result;
    }
    in
    let all : c.loop-to.to ≡ length c.args.self.now.whole.now =
    omega (arith, c.loop-to-test.false, c.loop-to.invariant.within)
    in
    summed_same c.args.self.now s _ c.loop-to.invariant refl all refl refl
