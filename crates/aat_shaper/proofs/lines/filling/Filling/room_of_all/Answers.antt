use Rattle.std.proofs.Common.{◌≡◌, ◌∙◌, ap, arith, of_z, pos, sym, take, to_z, w64, ℤ, ◌+ℤ◌}
use Rattle.std.proofs.lemmas.Int.{ints}
use Rattle.std.proofs.lemmas.List.Sums.{fold_more}
use Rattle.std.specs.Prelude.{fold}
use Rattle.aat_shaped_text.specs.Parts.{no_shaped_glyph}
use Rattle.aat_shaper.specs.Lines.{room_of}
use Rattle.aat_shaper.specs.inside.Filling.{paragraph_of}
use Rattle.aat_shaper.proofs.lines.filling.Filling.room_of_all.Goals as goal

pub loop-glyph-preserved : goal.loop-glyph-preserved
loop-glyph-preserved c =
    let a = to_z w64 c.loop-glyph.sum-bits in
    let room = c.room_of-sum.result in
    let i = c.loop-glyph.glyph-index in
    let p = paragraph_of c.args.self.now in
    let sum : to_z w64 (of_z w64 (a +ℤ to_z w64 (of_z w64 room))) ≡ a +ℤ room = omega (arith, ints) in
    record {
      value =
          sum
          ∙ (ap (λ (x : ℤ). x +ℤ room) c.loop-glyph.invariant.value
          ∙ (ap (λ (x : ℤ). fold (λ s x. s +ℤ room_of p c.args.hang x) (pos 0) (take i c.args.glyphs.now) +ℤ x)
          c.room_of-sum.ensures.value
          ∙ sym
          (fold_more (λ s x. s +ℤ room_of p c.args.hang x) (pos 0) c.args.glyphs.now i no_shaped_glyph
          c.loop-glyph-test.true)));
      low = omega (arith, ints);
      high = omega (arith, ints);
    }
