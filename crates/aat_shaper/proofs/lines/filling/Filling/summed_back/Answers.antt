use Rattle.std.proofs.Common.{◌≡◌, ◌+◌, ◌-◌, ◌<◌, arith, get_or, of_z, refl, to_z, w64, ◌+ℤ◌}
use Rattle.std.proofs.lemmas.Int.{ints}
use Rattle.aat_shaped_text.specs.Parts.{no_shaped_glyph}
use Rattle.aat_shaper.proofs.Sums.{summed_before, summed_past, summed_same}
use Rattle.aat_shaper.specs.declared.lines.width.Summed.{Summed}
use Rattle.aat_shaper.proofs.lines.filling.Filling.summed_back.Goals as goal

pub loop-before-init : goal.loop-before-init
loop-before-init c =
    let s = c.args.summed in
    let past = c.max-past.result in
    let same : s.sum ≡ to_z w64 (of_z w64 s.sum) = omega (arith, ints) in
    let here : s.from ≡ s.from - 0 = omega arith in
    summed_same c.args.self.now (record s { past = past }) _
    (summed_past c.args.self.now s c.requires.summed past (omega (arith, c.max-past.ensures))) here refl same refl

pub loop-before-preserved : goal.loop-before-preserved
loop-before-preserved c =
    let whole = c.args.self.now.whole.now in
    let from = c.args.summed.from in
    let n = c.loop-before.before in
    let at = from - n - 1 in
    let a = to_z w64 c.loop-before.sum-bits in
    let room = c.room_of-sum.result in
    let past = c.max-past.result in
    let s : Summed = record { from = from - n; to = c.args.summed.to; sum = a; past = past } in
    let next : at + 1 ≡ from - n = omega (arith, c.loop-before-test.true) in
    let before : (get_or whole at no_shaped_glyph).cluster < past =
    omega (arith, c.if-glyph-end.false, c.max-past.ensures)
    in
    let sum = to_z w64 (of_z w64 (a +ℤ to_z w64 (of_z w64 room))) in
    let total : sum ≡ a +ℤ room = omega (arith, ints) in
    let place : at ≡ from - (n + 1) = omega arith in
    summed_same c.args.self.now (record s { from = at; sum = sum }) _
    (summed_before c.args.self.now s c.loop-before.invariant at room sum next before c.room_of-sum.ensures.value
    c.room_of-sum.ensures.low c.room_of-sum.ensures.high total)
    place refl refl refl

pub returns-then-glyph-end : goal.returns-then-glyph-end
returns-then-glyph-end c = c.loop-before.invariant

pub returns : goal.returns
returns c =
    let s : Summed = record {
      from = c.args.summed.from - c.loop-before.before;
      to = c.args.summed.to;
      sum = to_z w64 c.loop-before.sum-bits;
      past = c.max-past.result;
    }
    in
    let all : c.args.summed.from - c.loop-before.before ≡ 0 = omega (arith, c.loop-before-test.false) in
    summed_same c.args.self.now s _ c.loop-before.invariant all refl refl refl
