-- What C tells of a text.
use Rattle.std.specs.Prelude.{◌≡◌, ℕ, Bool, ◌==◌, ◌||◌, Option, Some, None, Result, Ok, Err, is_err, if◌then◌else◌}
use Rattle.aat_glyph.specs.declared.glyph.Direction.{Direction}
use Rattle.aat_glyph.specs.declared.glyph.Direction.TheVariants.{LeftToRight, RightToLeft, TopToBottom, BottomToTop}
use Rattle.aat_text.specs.declared.clusters.ClusterLevel.{ClusterLevel}
use Rattle.aat_text.specs.declared.clusters.ClusterLevel.TheVariants.{Graphemes, Characters}
use Rattle.aat_text.specs.declared.unit.ClusterUnit.{ClusterUnit}
use Rattle.aat_typesetter.specs.ScriptTags.{script_of_tag}
use Rattle.aat_typesetter.specs.declared.options.TextOptions.{TextOptions}
use Rattle.ucd_script.specs.declared.Script.{Script}
use Rattle.aat_records.specs.declared.records.OptionsRecord.{OptionsRecord}
use Rattle.aat_records.specs.declared.failure.Failure.{Failure}
use Rattle.aat_records.specs.declared.failure.Failure.TheVariants.{BadOption}

-- the direction of a number of HarfBuzz's, of which 0 tells none
abbrev pub direction_told : ℕ → Result (Option Direction) Failure
direction_told number =
    if number == 0 then Ok None
    else if number == 4 then Ok (Some LeftToRight)
    else if number == 5 then Ok (Some RightToLeft)
    else if number == 6 then Ok (Some TopToBottom)
    else if number == 7 then Ok (Some BottomToTop)
    else Err BadOption

-- a script that is told has to be one
abbrev pub script_or_none : Option Script → Result (Option Script) Failure
script_or_none None = Err BadOption
script_or_none (Some script) = Ok (Some script)

-- the script of a tag, of which 0 tells none
unfoldable pub script_told : ℕ → Result (Option Script) Failure
script_told tag = if tag == 0 then Ok None else script_or_none (script_of_tag tag)

-- the point size of a number, of which 0 tells none, and the greatest one that nothing is tracked
abbrev pub size_told : ℕ → Option ℕ
size_told number = if number == 0 then None else if number == 0xFFFFFFFF then Some 0 else Some number

-- the level of a number
abbrev pub level_told : ℕ → Result ClusterLevel Failure
level_told number = if number == 0 then Ok Graphemes else if number == 1 then Ok Characters else Err BadOption

-- options are those that C tells, but for their features
abbrev pub IsTold : OptionsRecord → ClusterUnit → TextOptions → Type 0
IsTold told unit options =
    (direction_told told.direction ≡ Ok options.direction)
    × (script_told told.script ≡ Ok options.script)
    × (options.size ≡ size_told told.point_size)
    × (options.unit ≡ unit)
    × (level_told told.cluster_level ≡ Ok options.level)
    × (options.not_found ≡ 0)

-- a number of the options stands for nothing
abbrev pub has_bad_option : OptionsRecord → Bool
has_bad_option told =
    is_err (direction_told told.direction) || is_err (script_told told.script) || is_err (level_told told.cluster_level)
