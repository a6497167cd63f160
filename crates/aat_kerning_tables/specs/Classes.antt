-- Kerning values of pairs by classes of their glyphs as a total function. Apple's TrueType Reference Manual, "The 'kern'
-- table", formats 2 and 3, and "The 'kerx' table", formats 2 and 6.
use Rattle.std.specs.Prelude.{ℕ, ℤ, pos, ◌+◌, ◌*◌, List, unwrap_or, nat_lt, if◌then◌else◌, slice_index_or}
use Rattle.aat_lookup.specs.Keys.{value_in}

-- pairs by classes: the classes of left glyphs, those of right glyphs, the number of right classes, and a value for each
-- left class and each right class, left class by left class
pub record ClassValues : Type 0 where
  pub left : List (ℕ × ℕ)
  pub right : List (ℕ × ℕ)
  pub right_count : ℕ
  pub values : List ℤ

-- the class of a glyph, 0 where none is listed for it
abbrev pub class_in : List (ℕ × ℕ) → ℕ → ℕ
class_in classes g = unwrap_or (value_in classes g) 0

-- the value of a left class and a right class, 0 where there is none
abbrev pub value_of_classes : List ℤ → ℕ → ℕ → ℕ → ℤ
value_of_classes values right_count left right =
    if nat_lt right right_count then slice_index_or values (left * right_count + right) (pos 0) else pos 0

-- the value of two glyphs is that of their classes
abbrev pub kerning_by_classes : ClassValues → ℕ → ℕ → ℤ
kerning_by_classes pairs left right =
    value_of_classes pairs.values pairs.right_count (class_in pairs.left left) (class_in pairs.right right)
