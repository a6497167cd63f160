-- The direction in which a text is shaped.
use Rattle.std.specs.Prelude.{ℕ, Bool, not, ◌&&◌, ◌||◌, true, false, List, Option, Some, None, nat_le, unwrap_or, if◌then◌else◌}
use Rattle.std.specs.List.{list_any}
use Rattle.std.specs.Option.{option_map_or}
use Rattle.std.specs.Str.{chars}
use Rattle.ucd_category.specs.GeneralCategory.{general_category}
use Rattle.ucd_category.specs.GeneralCategoryGroup.{in_group}
use Rattle.ucd_category.specs.declared.GeneralCategory.{GeneralCategory}
use Rattle.ucd_category.specs.declared.GeneralCategory.TheVariants.{DecimalNumber}
use Rattle.ucd_category.specs.declared.GeneralCategoryGroup.TheVariants.{Letter}
use Rattle.aat_glyph.specs.declared.glyph.Direction.{Direction}
use Rattle.aat_glyph.specs.declared.glyph.Direction.TheVariants.{LeftToRight, RightToLeft, TopToBottom, BottomToTop}
use Rattle.ucd_script.specs.declared.Script.{Script}
use Rattle.aat_characters.specs.Scripts.{script_direction, text_script}

-- the script of a text, which may be told
abbrev pub told_script : Option Script → List ℕ → Option Script
told_script None text = text_script text
told_script (Some script) text = Some script

-- the direction in which a text of a script, if it has one, is written along rows, none where it is written both ways
abbrev pub written_direction : Option Script → Option Direction
written_direction script = option_map_or script_direction script (Some LeftToRight)

-- the direction of such a text that is told none
abbrev pub natural_direction : Option Script → Direction
natural_direction script = unwrap_or (written_direction script) LeftToRight

abbrev pub is_letter : ℕ → Bool
is_letter character = in_group Letter (general_category character)

abbrev pub is_decimal : GeneralCategory → Bool
is_decimal DecimalNumber = true
is_decimal _ = false

abbrev pub is_digit : ℕ → Bool
is_digit character = is_decimal (general_category character)

-- one of the characters two of which are a flag
abbrev pub is_regional_indicator : ℕ → Bool
is_regional_indicator character = nat_le 0x1F1E6 character && nat_le character 0x1F1FF

abbrev pub has_number : List ℕ → Bool
has_number text = list_any (λ c. is_digit c || is_regional_indicator c) (chars text)

abbrev pub has_letter : List ℕ → Bool
has_letter text = list_any is_letter (chars text)

-- a text of numbers, which runs to the right in any script: a digit or a regional indicator, and no letter
abbrev pub is_numeric : List ℕ → Bool
is_numeric text = has_number text && not (has_letter text)

-- the direction in which a text of a script that runs in a direction is shaped
abbrev pub native_direction : Option Script → List ℕ → Direction → Direction
native_direction script text LeftToRight =
    if is_numeric text then LeftToRight else unwrap_or (written_direction script) LeftToRight
native_direction script text RightToLeft = unwrap_or (written_direction script) RightToLeft
native_direction script text TopToBottom = TopToBottom
native_direction script text BottomToTop = TopToBottom
