-- Numbers in a text.
use Rattle.std.specs.Prelude.{ℕ, ◌+◌, ◌-◌, ◌*◌, ◌==◌, List, length, fold, Option, Some, None, Result, Ok, Err, nat_lt, if◌then◌else◌}
use Rattle.std.specs.Char.{is_ascii_digit}
use Rattle.aat_layout.specs.features.Characters.{run, skipped}
use Rattle.aat_layout.specs.declared.features.error.FeatureError.{FeatureError}
use Rattle.aat_layout.specs.declared.features.error.FeatureError.TheVariants.{NumberTooLarge}

-- the greatest number of 32 bits
abbrev pub greatest : ℕ
greatest = 4294967295

-- the number that decimal digits write
abbrev pub decimal : List ℕ → ℕ
decimal digits = fold (λ n digit. 10 * n + (digit - 48)) 0 digits

-- a number, if digits come next, and the place behind it
unfoldable pub number_at : List ℕ → ℕ → Result (Option ℕ × ℕ) FeatureError
number_at text place =
    let digits = run is_ascii_digit text (skipped text place) in
    if length digits == 0 then Ok (None, place)
    else (if nat_lt greatest (decimal digits) then Err (NumberTooLarge (skipped text place))
    else Ok (Some (decimal digits), skipped text place + length digits))
