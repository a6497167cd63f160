-- Kerning by pairs. TrueType Reference Manual: The 'kern' table, and The 'kerx' table, formats 0, 2 and 6.
use Rattle.std.specs.Prelude.{ℕ, ◌+◌, Bool, List, ℤ, pos, ◌-ℤ◌, Some, unwrap_or, fold, if◌then◌else◌}
use Rattle.std.specs.Int.{int_shr}
use Rattle.std.specs.Ordering.{int_eq}
use Rattle.aat_buffer.specs.Buffer.{Buffer, glyph_at}
use Rattle.aat_buffer.specs.Marks.{unsafe_to_break}
use Rattle.aat_kerning_tables.specs.Pairs.{kerning_of}
use Rattle.aat_glyph.specs.Directions.{is_horizontal}
use Rattle.aat_kerning.specs.Pairs.{Pair, pairs_of}
use Rattle.aat_kerning_machines.specs.Positions.{on_position, with_advance, with_shift, with_cross_offset, with_attachment_flag}

-- the kerning values of a table of pairs: the value of a left and a right glyph
abbrev pub PairValues : Type 0
PairValues = ℕ → ℕ → ℤ

-- those of pairs that are listed: 0 for two glyphs that are not
abbrev pub value_of : List (ℕ × ℕ × ℤ) → PairValues
value_of pairs left right = unwrap_or (kerning_of pairs left right) (pos 0)

-- the half of a value, rounded down
abbrev pub half : ℤ → ℤ
half v = int_shr v 1

-- In the stream the half goes to the advance of the left glyph, and the rest to the advance and the offset of the right
-- one. So the right glyph and all behind it move by the whole value, odd or even, and the two glyphs share the change
-- of width: a caret between them stands in its middle.
abbrev pub in_stream : Pair → ℤ → Buffer → Buffer
in_stream p v b =
    let h = is_horizontal b.direction in
    let rest = v -ℤ half v in
    on_position (λ q. with_shift h rest (with_advance h rest q)) p.right
    (on_position (with_advance h (half v)) p.left b)

-- across the stream the value becomes the offset of the right glyph, and the buffer remembers that glyphs are attached;
-- the pair itself attaches nothing. TrueType Reference Manual: The 'kern' table, cross-stream kerning.
abbrev pub cross_stream : Pair → ℤ → Buffer → Buffer
cross_stream p v b = with_attachment_flag (on_position (with_cross_offset (is_horizontal b.direction) v) p.right b)

-- a pair with a value that is not 0 is kerned, and marked from its left to its right glyph
unfoldable pub kerned : Bool → PairValues → Pair → Buffer → Buffer
kerned is_cross values p b =
    let v = values (glyph_at b.line p.left).glyph_id (glyph_at b.line p.right).glyph_id in
    if int_eq v (pos 0) then b
    else unsafe_to_break (if is_cross then cross_stream p v b else in_stream p v b) (Some p.left) (Some (p.right + 1))

-- all pairs of the line as it stands at first
unfoldable pub pair_kerning : ℕ → ℕ → Bool → PairValues → Buffer → Buffer
pair_kerning skips kern_mask is_cross values b =
    fold (λ d p. kerned is_cross values p d) b (pairs_of skips kern_mask b.line)
