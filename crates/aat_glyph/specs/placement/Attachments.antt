-- Glyphs that are attached to glyphs drawn before them. A line stands here as it is drawn: rightwards or downwards.
-- (No chapter of the manual: attach types and chains are the shaper's own.)
use Rattle.std.specs.Prelude.{◌≡◌, ◌+ℤ◌, ◌==◌, ◌||◌, ◌++◌, ℕ, zero, suc, ℤ, pos, negsuc, neg_ℤ, Bool, List, [], ◌∷◌, fold, length, map, nat_lt, take, EachIndex, slice_index_or, Option, Some, None, if◌then◌else◌}
use Rattle.std.specs.Int.{int_wrapping_add, int_wrapping_sub, w32}
use Rattle.std.specs.List.{range_with_len}
use Rattle.std.specs.Option.{option_map_or}
use Rattle.aat_glyph.specs.Directions.{is_forward, is_horizontal, is_vertical}
use Rattle.aat_glyph.specs.declared.glyph.Direction.{Direction}
use Rattle.aat_glyph.specs.declared.glyph.GlyphPosition.{GlyphPosition}

-- a position of which all is 0
abbrev pub no_position : GlyphPosition
no_position = record {
  x_advance = pos 0;
  y_advance = pos 0;
  x_offset = pos 0;
  y_offset = pos 0;
  attach_type = 0;
  attach_chain = pos 0;
}

-- the position of the glyph at place i
abbrev pub at : List GlyphPosition → ℕ → GlyphPosition
at qs i = slice_index_or qs i no_position

-- attach type 1 is a mark
abbrev pub is_mark : GlyphPosition → Bool
is_mark q = q.attach_type == 1

-- attach type 2 is a cursive glyph
abbrev pub is_cursive : GlyphPosition → Bool
is_cursive q = q.attach_type == 2

-- the chain in the order of drawing, in which that of a mark is counted; that of a cursive glyph is counted in the
-- order of the text
abbrev pub drawn_chain : Direction → GlyphPosition → ℤ
drawn_chain d q =
    if is_mark q then q.attach_chain
    else (if is_cursive q then (if is_forward d then q.attach_chain else neg_ℤ q.attach_chain) else pos 0)

-- a place, where it is one before i
abbrev pub earlier : ℕ → ℤ → Option ℕ
earlier i (pos p) = if nat_lt p i then Some p else None
earlier i (negsuc _) = None

-- the parent of the glyph at place i: the one that its chain leads to, where that is drawn before it
abbrev pub parent : Direction → List GlyphPosition → ℕ → Option ℕ
parent d qs i = earlier i (pos i +ℤ drawn_chain d (at qs i))

-- no glyph of the line has a parent
abbrev pub IsUnattached : Direction → List GlyphPosition → Type 0
IsUnattached d qs = EachIndex qs (λ i. parent d qs i ≡ None)

-- the coordinates
pub data Coordinate : Type 0 where
  X : Coordinate
  Y : Coordinate

-- the offset in a coordinate
abbrev pub offset : Coordinate → GlyphPosition → ℤ
offset X q = q.x_offset
offset Y q = q.y_offset

-- the advance in a coordinate
abbrev pub advance : Coordinate → GlyphPosition → ℤ
advance X q = q.x_advance
advance Y q = q.y_advance

-- across the line: y where the text is horizontal, and else x
abbrev pub is_across : Coordinate → Direction → Bool
is_across X d = is_vertical d
is_across Y d = is_horizontal d

-- sums wrap modulo 2 ^ 32
abbrev pub plus : ℤ → ℤ → ℤ
plus x y = int_wrapping_add w32 x y

-- so do differences
abbrev pub minus : ℤ → ℤ → ℤ
minus x y = int_wrapping_sub w32 x y

-- the pen at place i: the sum of the advances before it
abbrev pub pen : Coordinate → List GlyphPosition → ℕ → ℤ
pen c qs i = fold plus (pos 0) (map (advance c) (take i qs))

-- the glyph that the one at place i follows in a coordinate: a mark follows its parent in both, and a cursive glyph
-- across the line alone
abbrev pub followed : Coordinate → Direction → List GlyphPosition → ℕ → Option ℕ
followed c d qs i = if is_mark (at qs i) || is_across c d then parent d qs i else None

-- the way down to the glyph at place i: from one that follows none, by those of which each follows the one before, at
-- most n of them
abbrev pub descent : (ℕ → Option ℕ) → ℕ → ℕ → List ℕ
descent next zero i = i ∷ []
descent next (suc n) i = option_map_or (λ p. descent next n p ++ i ∷ []) (next i) (i ∷ [])

-- what a glyph adds: its own offset, and for a mark that follows the glyph at place p the way of the pen back to there
abbrev pub share_behind : Coordinate → List GlyphPosition → ℕ → Option ℕ → ℤ
share_behind c qs i None = offset c (at qs i)
share_behind c qs i (Some p) =
    if is_mark (at qs i) then minus (plus (offset c (at qs i)) (pen c qs p)) (pen c qs i) else offset c (at qs i)

-- that of the glyph at place i
abbrev pub share : Coordinate → Direction → List GlyphPosition → ℕ → ℤ
share c d qs i = share_behind c qs i (followed c d qs i)

-- the sum of numbers
abbrev pub total : List ℤ → ℤ
total [] = pos 0
total (x ∷ xs) = fold plus x xs

-- the offset at which the glyph at place i is drawn: the sum of what the glyphs on the way down to it add
unfoldable pub drawn_offset : Coordinate → Direction → List GlyphPosition → ℕ → ℤ
drawn_offset c d qs i = total (map (share c d qs) (descent (followed c d qs) i i))

-- the position of the glyph at place i, with these offsets
abbrev pub drawn : Direction → List GlyphPosition → ℕ → GlyphPosition
drawn d qs i = record (at qs i) { x_offset = drawn_offset X d qs i; y_offset = drawn_offset Y d qs i }

-- the whole line
abbrev pub added_up : Direction → List GlyphPosition → List GlyphPosition
added_up d qs = map (drawn d qs) (range_with_len 0 (length qs))
