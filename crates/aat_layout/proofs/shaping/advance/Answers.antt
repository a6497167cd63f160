use Rattle.std.proofs.Common.{◌≡◌, ◌∙◌, ap, arith, length}
use Rattle.aat_font.specs.Face.{advance_of}
use Rattle.aat_buffer.specs.Buffer.{Buffer}
use Rattle.aat_glyph.specs.Directions.{is_horizontal}
use Rattle.aat_layout.proofs.Advancing.{advancing_more}
use Rattle.aat_layout.proofs.shaping.advance.Goals as goal

pub loop-i-preserved : goal.loop-i-preserved
loop-i-preserved g c =
    let b = c.args.buffer.now in
    let was = c.loop-i.invariant.advancing in
    let long : length c.clear_positions.new.self.line ≡ length b.line = ap (λ (d : Buffer). length d.line) c.in_ok-clear_positions.ensures.ok in
    let across : c.is_horizontal-is_horizontal.result ≡ is_horizontal b.direction =
    c.is_horizontal-is_horizontal.ensures ∙ ap is_horizontal (c.direction.ensures ∙ ap (λ (d : Buffer). d.direction) c.in_ok-clear_positions.ensures.ok) in
    record {
      advancing =
          advancing_more (advance_of c.args.face.now) b c.loop-i.buffer c.is_horizontal-is_horizontal.result c.loop-i.i c.info-glyph.result.now c.advanced.result
          across (omega (arith, long)) was c.info-glyph.ensures.read c.advanced.ensures;
      ids = c.loop-i.invariant.ids;
    }
