-- Values in a text.
use Rattle.std.specs.Prelude.{ℕ, ◌+◌, List, map, codes, Option, Some, None, is_some, unwrap_or, Result, Ok, Err, nat_eq, if◌then◌else◌}
use Rattle.std.specs.Option.{option_map_or}
use Rattle.std.specs.Char.{is_ascii_alphabetic, to_ascii_lowercase}
use Rattle.std.specs.Cmp.Lexicographic.{pointwise}
use Rattle.aat_layout.specs.features.Characters.{next, run, skipped}
use Rattle.aat_layout.specs.features.Numbers.{number_at}
use Rattle.aat_layout.specs.features.Tags.{◌>>=◌}
use Rattle.aat_layout.specs.declared.features.error.FeatureError.{FeatureError}
use Rattle.aat_layout.specs.declared.features.error.FeatureError.TheVariants.{MissingValue}

-- the value of a sign, 0 of a minus, 1 of a plus or of none, and the place behind it
unfoldable pub sign_at : List ℕ → ℕ → ℕ × ℕ
sign_at text place =
    option_map_or (λ behind. (0, behind)) (next (codes "-") text place)
    (1, unwrap_or (next (codes "+") text place) place)

-- the letters that come next, as small ones
unfoldable pub word_at : List ℕ → ℕ → List ℕ
word_at text place = map to_ascii_lowercase (run is_ascii_alphabetic text (skipped text place))

-- 1 for the word `on` and 0 for `off`, if one of them comes next, and the place behind it
unfoldable pub switch_at : List ℕ → ℕ → Option ℕ × ℕ
switch_at text place =
    if pointwise nat_eq (word_at text place) (codes "on") then (Some 1, skipped text place + 2)
    else (if pointwise nat_eq (word_at text place) (codes "off") then (Some 0, skipped text place + 3)
    else (None, place))

-- a number or one of the words, if one comes next, and the place behind it
unfoldable pub given_at : List ℕ → ℕ → Result (Option ℕ × ℕ) FeatureError
given_at text place = do
  number ← number_at text place
  if is_some number.0 then Ok number else Ok (switch_at text place)

-- the value that has to come next, and the place behind it
unfoldable pub demanded_at : List ℕ → ℕ → Result (ℕ × ℕ) FeatureError
demanded_at text place = do
  given ← given_at text place
  option_map_or (λ value. Ok (value, given.1)) given.0 (Err (MissingValue (skipped text place)))

-- the value that comes next, demanded after an equals sign, or else the value of the sign
unfoldable pub value_at : ℕ → List ℕ → ℕ → Result (ℕ × ℕ) FeatureError
value_at of_sign text place =
    option_map_or (demanded_at text) (next (codes "=") text place) (do
      given ← given_at text place
      Ok (unwrap_or given.0 of_sign, given.1))
