-- The order of the clusters of a text, of its line, and of what is drawn.
use Rattle.std.proofs.Common.{◌≡◌, ◌∙◌, ap, sym, ℕ, ◌-◌, ◌<◌, ◌≤◌, Bool, true, false, List, arith, get_or, length, map, reverse, if◌then◌else◌}
use Rattle.std.specs.Prelude.{AllPairs}
use Rattle.std.specs.Bool.{MatchBool}
use Rattle.std.proofs.lemmas.List.{get_or-map, get_or-reverse, length-map, length-reverse}
use Rattle.aat_buffer.specs.Buffer.{Buffer, no_glyph, reversed}
use Rattle.aat_buffer.specs.Clusters.{IsFallingLine, IsRisingLine, KeepsOrder}
use Rattle.aat_glyph.specs.Directions.{is_backward}
use Rattle.aat_glyph.specs.declared.glyph.hb_glyph_info_t.{hb_glyph_info_t}
use Rattle.aat_kerning.specs.Positioning.{in_processing_order}
use Rattle.aat_shaped_text.specs.declared.text.ShapedGlyph.{ShapedGlyph}
use Rattle.aat_drawn_text.specs.inside.Drawing.{clusters_of}

-- turned round, it falls
falling_reversed : (line : List hb_glyph_info_t) → IsRisingLine line → IsFallingLine (reverse line)
falling_reversed line up i j d below low =
    let long : length (reverse line) ≡ length line = length-reverse line in
    let within : j < length line = omega (arith, low, long) in
    let first = ap (λ (g : hb_glyph_info_t). g.cluster) (get_or-reverse line i d (omega (arith, below, within))) in
    let second = ap (λ (g : hb_glyph_info_t). g.cluster) (get_or-reverse line j d within) in
    omega (
      arith,
      first,
      second,
      up (length line - 1 - j) (length line - 1 - i) d (omega (arith, below, within)) (omega (arith, below, within)),
    )

-- a line falls, or rises
abbrev pub IsTurnedLine : Bool → List hb_glyph_info_t → Type 0
IsTurnedLine true line = IsFallingLine line
IsTurnedLine false line = IsRisingLine line

-- a line in drawing order: it falls in a backward text, and else it rises
pub drawn_line : (b : Buffer) → IsRisingLine b.line → IsTurnedLine (is_backward b.direction) (in_processing_order b).line
drawn_line b up = by_direction (is_backward b.direction)
  where
    by_direction : (back : Bool) → IsTurnedLine back (if back then reversed b else b).line
    by_direction true = falling_reversed b.line up
    by_direction false = up

-- what is left of it, when its clusters keep their order
pub drawn_kept :
    (back : Bool) (old new : List hb_glyph_info_t) → KeepsOrder old new → IsTurnedLine back old → IsTurnedLine back new
drawn_kept true old new kept down = kept.falling down
drawn_kept false old new kept up = kept.rising up

-- and so of the glyphs that have its clusters
module _ (glyphs : List ShapedGlyph) (line : List hb_glyph_info_t)
    (same : clusters_of glyphs ≡ map (λ g. g.cluster) line) where
  long : length glyphs ≡ length line
  long = sym (length-map glyphs (λ g. g.cluster)) ∙ (ap length same ∙ length-map line (λ g. g.cluster))

  cluster_same : (i : ℕ) (d : ShapedGlyph) → i < length glyphs
      → (get_or glyphs i d).cluster ≡ (get_or line i no_glyph).cluster
  cluster_same i d low =
      sym (get_or-map (λ (g : ShapedGlyph). g.cluster) glyphs i d 0 low)
      ∙ (ap (λ (cs : List ℕ). get_or cs i 0) same
      ∙ get_or-map (λ (g : hb_glyph_info_t). g.cluster) line i no_glyph 0 (omega (arith, low, long)))

  pub drawn_glyphs_ordered : (back : Bool) → IsTurnedLine back line
      → MatchBool back (AllPairs (λ g h. h.cluster ≤ g.cluster) glyphs) (AllPairs (λ g h. g.cluster ≤ h.cluster) glyphs)
  drawn_glyphs_ordered true down = λ i j d below low.
      omega (
        arith,
        cluster_same i d (omega (arith, below, low)),
        cluster_same j d low,
        down i j no_glyph below (omega (arith, low, long)),
      )
  drawn_glyphs_ordered false up = λ i j d below low.
      omega (
        arith,
        cluster_same i d (omega (arith, below, low)),
        cluster_same j d low,
        up i j no_glyph below (omega (arith, low, long)),
      )
