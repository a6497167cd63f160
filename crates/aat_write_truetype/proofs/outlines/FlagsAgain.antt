-- Flags are read again as they were written, one byte each.
use Rattle.std.proofs.Common.{◌≡◌, ◌∙◌, ap, refl, sym, ℕ, suc, ◌+◌, ◌<◌, Bool, true, false, cond, List, [], ◌∷◌, ◌++◌, length, get_or, map, Option, Some, length-append, arith}
use Rattle.std.specs.Prelude.{option_and_then, option_map, slice_get}
use Rattle.std.proofs.lemmas.List.{get_or-append-add, get_or_append_left, get_or-map, length-map}
use Rattle.std.proofs.lemmas.Option.{slice_get-get_or}
use Rattle.aat_read_outlines.specs.Flags.{FlagList, behind, flags_from, next_run, run_of}
use Rattle.aat_read_outlines.specs.declared.outline.OutlinePoint.{OutlinePoint}
use Rattle.aat_write_truetype.specs.outlines.GlyphData.{flag_of}
use Rattle.aat_write_truetype.proofs.outlines.Readers.{FlagRun}

-- a flag that is not repeated, in front of a place
abbrev pub once : ℕ → ℕ → FlagRun
once place flag = record { place = place; flag = flag; repeats = 0 }

-- flags up to a place
abbrev listed : List ℕ → ℕ → Option FlagList
listed flags place = Some (record { flags = flags; place = place })

not_repeated :
    (bytes : List ℕ) (place : ℕ) (b : Bool) → run_of bytes place (cond b 1 0) ≡ Some (once (place + 1) (cond b 1 0))
not_repeated bytes place true = refl
not_repeated bytes place false = refl

-- the flag at a place
pub flag_there :
    (points : List OutlinePoint) (front rest : List ℕ) (place i : ℕ) (d : OutlinePoint)
    → length front + i ≡ place
    → i < length points
    → slice_get (front ++ (map flag_of points ++ rest)) place ≡ Some (flag_of (get_or points i d))
flag_there points front rest place i d at below =
    let flags = map flag_of points in
    let bytes = front ++ (flags ++ rest) in
    let inside : i < length flags = omega (arith, length-map points flag_of) in
    let within : place < length bytes =
    omega (arith, length-append front (flags ++ rest), length-append flags rest) in
    slice_get-get_or bytes place 0 within
    ∙ ap Some (
    ap (λ (k : ℕ). get_or bytes k 0) (sym at)
    ∙ get_or-append-add front (flags ++ rest) i 0
    ∙ get_or_append_left flags rest 0 i inside
    ∙ get_or-map flag_of points i d 0 below
    )

-- the flags are those of the points, and the place behind them is as many bytes on
pub flags_again :
    (bytes : List ℕ) (points : List OutlinePoint) (place flag : ℕ)
    → ((i : ℕ) (d : OutlinePoint) → i < length points → slice_get bytes (place + i) ≡ Some (flag_of (get_or points i d)))
    → flags_from bytes (once place flag) (length points)
    ≡ Some (record { flags = map flag_of points; place = place + length points })
flags_again bytes [] place flag each = let same : place ≡ place + 0 = omega arith in ap (listed []) same
flags_again bytes (point ∷ points) place flag each =
    let zero_on : place ≡ place + 0 = omega arith in
    let here : slice_get bytes place ≡ Some (flag_of point) = ap (slice_get bytes) zero_on ∙ each 0 point (omega arith) in
    let run : next_run bytes (once place flag) ≡ Some (once (place + 1) (flag_of point)) =
    ap (option_and_then (run_of bytes place)) here ∙ not_repeated bytes place point.is_on_curve in
    let next : (i : ℕ) → place + 1 + i ≡ place + suc i = λ i. omega arith in
    let rest : flags_from bytes (once (place + 1) (flag_of point)) (length points) ≡ listed (map flag_of points) (place + 1 + length points) =
    flags_again bytes points (place + 1) (flag_of point)
    (λ i d below. ap (slice_get bytes) (next i) ∙ each (suc i) d (omega arith)) in
    let of_run : Option FlagRun → Option FlagList =
    λ (o : Option FlagRun). option_and_then (λ r. option_map (behind r.flag) (flags_from bytes r (length points))) o in
    ap of_run run
    ∙ ap (option_map (behind (flag_of point))) rest
    ∙ ap (listed (map flag_of (point ∷ points))) (next (length points))
