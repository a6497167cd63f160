use Rattle.std.proofs.Common.{◌≡◌, map}
use Rattle.std.specs.List.{filter, range_with_len}
use Rattle.aat_shaped_text.specs.Parts.{shaped_at}
use Rattle.aat_showing.specs.Ignorables.{kept_glyph, stays}
use Rattle.aat_showing.proofs.ignorables.kept_glyphs.Given as goal

abbrev pub invariant-loop-i : goal.invariant-loop-i
invariant-loop-i g l =
    l.drawn.items ≡ map (kept_glyph l.fn.glyphs) (filter (λ i. stays (shaped_at l.fn.glyphs i)) (range_with_len 0 l.i))
