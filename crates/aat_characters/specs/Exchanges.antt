-- The characters that are exchanged for others by the direction of a text.
use Rattle.std.specs.Prelude.{ℕ, unwrap_or}
use Rattle.aat_lookup.specs.Keys.{value_in}
use Rattle.aat_characters.specs.MirroredRows.{mirrored_rows}
use Rattle.aat_characters.specs.VerticalRows.{vertical_rows}

-- the mirrored character of one, itself where it has none
unfoldable pub mirrored : ℕ → ℕ
mirrored character = unwrap_or (value_in mirrored_rows character) character

-- the vertical form of one, itself where it has none
unfoldable pub vertical_form : ℕ → ℕ
vertical_form character = unwrap_or (value_in vertical_rows character) character
