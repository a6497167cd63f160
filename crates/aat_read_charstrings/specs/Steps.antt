-- The steps that operators draw with their arguments. What is left of arguments behind the last whole step is left out.
-- Adobe Technical Note 5177, "The Type 2 Charstring Format", "Path Construction Operators".
use Rattle.std.specs.Prelude.{ℕ, ℤ, pos, ◌-◌, ◌%◌, ◌==◌, ◌-ℤ◌, List, [], ◌∷◌, ◌++◌, slice_get, unwrap_or, Bool, true, false, not, length, take, drop, if◌then◌else◌, nat_lt, unsigned_abs}
use Rattle.std.specs.Int.{saturate_to_bits}
use Rattle.aat_read_charstrings.specs.Paths.{stepped}
use Rattle.aat_read_charstrings.specs.declared.path.FixedPoint.{FixedPoint}
use Rattle.aat_read_charstrings.specs.declared.path.Step.{Step}
use Rattle.aat_read_charstrings.specs.declared.steps.DrawOperator.{DrawOperator}
use Rattle.aat_read_charstrings.specs.declared.steps.DrawOperator.TheVariants.{RLineTo, HLineTo, VLineTo, RRCurveTo, RCurveLine, RLineCurve, VVCurveTo, HHCurveTo, VHCurveTo, HVCurveTo, HFlex, Flex, HFlex1, Flex1}
use Rattle.aat_read_charstrings.specs.declared.path.Step.TheVariants.{Line, Curve}

-- a point of two coordinates
abbrev pub point : ℤ → ℤ → FixedPoint
point x y = record { x = x; y = y }

-- a line by so much
unfoldable pub line : ℤ → ℤ → Step
line dx dy = Line (point dx dy)

-- a curve by so much to each of its three points
unfoldable pub curve : ℤ → ℤ → ℤ → ℤ → ℤ → ℤ → Step
curve dxa dya dxb dyb dxc dyc = Curve (point dxa dya) (point dxb dyb) (point dxc dyc)

-- an argument by its number, which is 0 for the first
abbrev pub number : List ℤ → ℕ → ℤ
number arguments k = unwrap_or (slice_get arguments k) (pos 0)

-- `rlineto`: lines
abbrev pub lines : List ℤ → List Step
lines (dx ∷ dy ∷ rest) = line dx dy ∷ lines rest
lines _ = []

-- `hlineto` and `vlineto`: lines that lie flat and stand upright in turn
abbrev pub crossed_lines : Bool → List ℤ → List Step
crossed_lines is_flat [] = []
crossed_lines is_flat (by ∷ rest) =
    (if is_flat then line by (pos 0) else line (pos 0) by) ∷ crossed_lines (not is_flat) rest

-- `rrcurveto`: curves. Also `flex`, which has two of them, and behind them a depth that is not drawn
abbrev pub curves : List ℤ → List Step
curves (dxa ∷ dya ∷ dxb ∷ dyb ∷ dxc ∷ dyc ∷ rest) = curve dxa dya dxb dyb dxc dyc ∷ curves rest
curves _ = []

-- where the last so many arguments begin
abbrev pub last_from : ℕ → List ℤ → ℕ
last_from count arguments = length arguments - count

-- `rcurveline`: curves, and a line with the last two arguments
abbrev pub curves_then_line : List ℤ → List Step
curves_then_line arguments = curves (take (last_from 2 arguments) arguments) ++ lines (drop (last_from 2 arguments) arguments)

-- `rlinecurve`: lines, and a curve with the last six arguments
abbrev pub lines_then_curve : List ℤ → List Step
lines_then_curve arguments = lines (take (last_from 6 arguments) arguments) ++ curves (drop (last_from 6 arguments) arguments)

-- a curve that begins and ends flat, or begins and ends upright, but for how far it begins aside
unfoldable pub even_curve : Bool → ℤ → ℤ → ℤ → ℤ → ℤ → Step
even_curve is_flat aside a dxb dyb c =
    if is_flat then curve a aside dxb dyb c (pos 0) else curve aside a dxb dyb (pos 0) c

-- curves that begin and end flat, or begin and end upright, the first of them aside by so much
abbrev pub even_curves_from : Bool → ℤ → List ℤ → List Step
even_curves_from is_flat aside (a ∷ dxb ∷ dyb ∷ c ∷ rest) =
    even_curve is_flat aside a dxb dyb c ∷ even_curves_from is_flat (pos 0) rest
even_curves_from is_flat aside _ = []

-- `hhcurveto` and `vvcurveto`: where the number of arguments is odd, the first says how far the first curve begins aside
abbrev pub even_curves : Bool → List ℤ → List Step
even_curves is_flat [] = []
even_curves is_flat (first ∷ rest) =
    if length (first ∷ rest) % 2 == 1
    then even_curves_from is_flat first rest
    else even_curves_from is_flat (pos 0) (first ∷ rest)

-- the one argument that is left, or 0
abbrev pub only_left : List ℤ → ℤ
only_left (aside ∷ []) = aside
only_left _ = pos 0

-- a curve that begins flat and ends upright, or the other way round, but for how far it ends aside
unfoldable pub turning_curve : Bool → ℤ → ℤ → ℤ → ℤ → ℤ → Step
turning_curve is_flat aside a dxb dyb c =
    if is_flat then curve a (pos 0) dxb dyb aside c else curve (pos 0) a dxb dyb c aside

-- `hvcurveto` and `vhcurveto`: curves that begin flat and end upright, and the other way round, in turn. An argument that
-- is left behind the last says how far it ends aside
abbrev pub turning_curves : Bool → List ℤ → List Step
turning_curves is_flat (a ∷ dxb ∷ dyb ∷ c ∷ rest) =
    turning_curve is_flat (only_left rest) a dxb dyb c ∷ turning_curves (not is_flat) rest
turning_curves is_flat _ = []

-- the step back by so much
unfoldable pub back_by : ℤ → ℤ
back_by by = saturate_to_bits 31 (pos 0 -ℤ by)

-- `hflex`: two curves that begin and end flat, the second of which ends as high as the first begins
abbrev pub flat_flex : List ℤ → List Step
flat_flex arguments =
    let a : ℕ → ℤ = number arguments in
    if nat_lt (length arguments) 7 then [] else
    curve (a 0) (pos 0) (a 1) (a 2) (a 3) (pos 0)
    ∷ curve (a 4) (pos 0) (a 5) (back_by (a 2)) (a 6) (pos 0) ∷ []

-- how far the second curve of `hflex1` goes back, so that it ends as high as the first begins
unfoldable pub even_back : List ℤ → ℤ
even_back arguments = back_by (stepped (stepped (number arguments 1) (number arguments 3)) (number arguments 7))

-- `hflex1`: two curves that meet flat, the second of which ends as high as the first begins
abbrev pub even_flex : List ℤ → List Step
even_flex arguments =
    let a : ℕ → ℤ = number arguments in
    if nat_lt (length arguments) 9 then [] else
    curve (a 0) (a 1) (a 2) (a 3) (a 4) (pos 0)
    ∷ curve (a 5) (pos 0) (a 6) (a 7) (a 8) (even_back arguments) ∷ []

-- the end of a curve as wide or as high as the first of two curves begins, whichever they have come less far in
unfoldable pub nearer_end : ℤ → ℤ → ℤ → FixedPoint
nearer_end dx dy by = if nat_lt (unsigned_abs dy) (unsigned_abs dx) then point by (back_by dy) else point (back_by dx) by

-- the sum of five numbers, each sum as far as a signed number of 32 bits holds it
unfoldable pub sum_of : ℤ → ℤ → ℤ → ℤ → ℤ → ℤ
sum_of a b c d e = stepped (stepped (stepped (stepped a b) c) d) e

-- `flex1`: two curves, the second of which ends as high as the first begins if they are wider than high, else as far right
abbrev pub nearer_flex : List ℤ → List Step
nearer_flex arguments =
    let a : ℕ → ℤ = number arguments in
    let dx = sum_of (a 0) (a 2) (a 4) (a 6) (a 8) in
    let dy = sum_of (a 1) (a 3) (a 5) (a 7) (a 9) in
    if nat_lt (length arguments) 11 then [] else
    curve (a 0) (a 1) (a 2) (a 3) (a 4) (a 5)
    ∷ curve (a 6) (a 7) (a 8) (a 9) (nearer_end dx dy (a 10)).x (nearer_end dx dy (a 10)).y ∷ []

-- the steps of an operator with its arguments
abbrev pub steps_of : DrawOperator → List ℤ → List Step
steps_of RLineTo arguments = lines arguments
steps_of HLineTo arguments = crossed_lines true arguments
steps_of VLineTo arguments = crossed_lines false arguments
steps_of RRCurveTo arguments = curves arguments
steps_of RCurveLine arguments = curves_then_line arguments
steps_of RLineCurve arguments = lines_then_curve arguments
steps_of VVCurveTo arguments = even_curves false arguments
steps_of HHCurveTo arguments = even_curves true arguments
steps_of VHCurveTo arguments = turning_curves false arguments
steps_of HVCurveTo arguments = turning_curves true arguments
steps_of HFlex arguments = flat_flex arguments
steps_of Flex arguments = curves arguments
steps_of HFlex1 arguments = even_flex arguments
steps_of Flex1 arguments = nearer_flex arguments
