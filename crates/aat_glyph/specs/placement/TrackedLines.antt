-- A line that is tracked. It stands here as its text is read, each glyph by the cluster that it is drawn for, or none
-- where it is not drawn. (No chapter of the manual: how a line is tracked is HarfBuzz's.)
use Rattle.std.specs.Prelude.{ℕ, ℤ, ◌==◌, not, Bool, true, false, List, [], ◌∷◌, fold, Option, Some, None, if◌then◌else◌}
use Rattle.std.specs.Int.{int_wrapping_add, w32}
use Rattle.std.specs.Option.{option_or}
use Rattle.aat_glyph.specs.Directions.{is_horizontal}
use Rattle.aat_glyph.specs.declared.glyph.Direction.{Direction}
use Rattle.aat_glyph.specs.declared.glyph.GlyphPosition.{GlyphPosition}

-- sums wrap modulo 2 ^ 32
abbrev pub plus : ℤ → ℤ → ℤ
plus x y = int_wrapping_add w32 x y

-- a position that is wider by a value along the line: its advance takes the value, and the glyph stays where it is
abbrev pub widened : Direction → ℤ → GlyphPosition → GlyphPosition
widened d v q =
    if is_horizontal d
    then record q { x_advance = plus q.x_advance v }
    else record q { y_advance = plus q.y_advance v }

-- a glyph begins a cluster behind the last one that is drawn before it: it is drawn, and that one has another cluster
abbrev pub begins : Option ℕ → Option ℕ → Bool
begins last None = false
begins None (Some c) = true
begins (Some l) (Some c) = not (c == l)

-- the positions of a line behind a glyph of a cluster: each glyph that begins a cluster is wider
abbrev pub tracked_behind : Option ℕ → Direction → ℤ → List (Option ℕ) → List GlyphPosition → List GlyphPosition
tracked_behind last d v [] qs = qs
tracked_behind last d v (c ∷ cs) [] = []
tracked_behind last d v (c ∷ cs) (q ∷ qs) =
    (if begins last c then widened d v q else q) ∷ tracked_behind (option_or c last) d v cs qs

-- the positions of a line: each glyph that begins a cluster is wider
abbrev pub tracked : Direction → ℤ → List (Option ℕ) → List GlyphPosition → List GlyphPosition
tracked d v cs qs = tracked_behind None d v cs qs

-- the cluster of the last glyph that is drawn
abbrev pub last_drawn : List (Option ℕ) → Option ℕ
last_drawn cs = fold (λ last c. option_or c last) None cs

-- the cluster of the first glyph that is drawn
abbrev pub first_drawn : List (Option ℕ) → Option ℕ
first_drawn [] = None
first_drawn (c ∷ cs) = option_or c (first_drawn cs)
