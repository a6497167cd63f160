-- The flags of the points of a simple glyph. Apple's TrueType Reference Manual, "The 'glyf' table".
use Rattle.std.specs.Prelude.{ℕ, zero, suc, ◌+◌, ◌-◌, ◌==◌, List, [], ◌∷◌, slice_get, Bool, not, Option, Some, None, option_map, option_and_then, bit_and, if◌then◌else◌}
use Rattle.aat_read_outlines.specs.declared.flags.FlagRun.{FlagRun}
use Rattle.aat_read_outlines.specs.declared.flags.TheConstants.{REPEAT}

-- whether a flag has a bit
abbrev pub has : ℕ → ℕ → Bool
has flag bit = not (bit_and flag bit == 0)

-- the flag of a byte at a place: where it repeats, the byte behind says how often
abbrev pub run_of : List ℕ → ℕ → ℕ → Option FlagRun
run_of bytes place flag =
    if has flag REPEAT
    then option_map (λ repeats. record { place = place + 2; flag = flag; repeats = repeats }) (slice_get bytes (place + 1))
    else Some (record { place = place + 1; flag = flag; repeats = 0 })

-- the next flag: the same one as long as it repeats, else that of the next byte
abbrev pub next_run : List ℕ → FlagRun → Option FlagRun
next_run bytes run =
    if run.repeats == 0
    then option_and_then (run_of bytes run.place) (slice_get bytes run.place)
    else Some (record run { repeats = run.repeats - 1 })

-- flags, and the place behind their bytes
pub record FlagList : Type 0 where
  pub flags : List ℕ
  pub place : ℕ

-- a flag in front of others
abbrev pub behind : ℕ → FlagList → FlagList
behind flag list = record list { flags = flag ∷ list.flags }

-- so many flags, if they are all there
abbrev pub flags_from : List ℕ → FlagRun → ℕ → Option FlagList
flags_from bytes run zero = Some (record { flags = []; place = run.place })
flags_from bytes run (suc count) =
    option_and_then (λ next. option_map (behind next.flag) (flags_from bytes next count)) (next_run bytes run)

-- no flag yet, in front of a place
abbrev pub run_at : ℕ → FlagRun
run_at place = record { place = place; flag = 0; repeats = 0 }
