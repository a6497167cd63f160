use Rattle.std.proofs.Common.{◌≡◌, ◌≤◌, length, map, not}
use Rattle.std.specs.Prelude.{filter, vec_capacity, vec_len}
use Rattle.std.specs.List.{range_with_len}
use Rattle.aat_buffer.specs.Buffer.{glyph_at}
use Rattle.aat_buffer.specs.Removal.{is_deleted}
use Rattle.aat_shaped_text.specs.Breaks.{kept_before}
use Rattle.aat_shaped_text.specs.ShapedText.{drawn_glyph}
use Rattle.aat_drawn_text.specs.inside.Drawing.{may_break}
use Rattle.aat_drawn_text.specs.inside.Steady.{IsSteady}
use Rattle.aat_drawn_text.proofs.drawn.put_glyphs.Given as goal

abbrev pub invariant-loop-i : goal.invariant-loop-i
invariant-loop-i g l =
    let b = l.fn.buffer in
    record {
      put : l.glyphs.items
          ≡ map (drawn_glyph (may_break l.fn.breaks b.line) b)
          (filter (λ i. not (is_deleted (glyph_at b.line i))) (range_with_len 0 l.i));
      counted : l.kept ≡ kept_before b.line l.i;
      few : vec_len l.glyphs ≤ l.i;
      room : length b.line ≤ vec_capacity l.glyphs;
      steady : IsSteady l.fn.breaks.rules.features.now l.span;
    }
