-- Operators of charstrings. Adobe Technical Note 5177, "The Type 2 Charstring Format", "Appendix A".
use Rattle.std.specs.Prelude.{ℕ, ◌==◌, ◌||◌, Option, Some, None, if◌then◌else◌}
use Rattle.aat_read_charstrings.specs.declared.operators.MoveOperator.TheVariants.{RMoveTo, HMoveTo, VMoveTo}
use Rattle.aat_read_charstrings.specs.declared.operators.Operator.{Operator}
use Rattle.aat_read_charstrings.specs.declared.operators.Operator.TheVariants.{Stems, Mask, Move, Draw, CallLocal, CallGlobal, Return, End}
use Rattle.aat_read_charstrings.specs.declared.steps.DrawOperator.{DrawOperator}
use Rattle.aat_read_charstrings.specs.declared.steps.DrawOperator.TheVariants.{RLineTo, HLineTo, VLineTo, RRCurveTo, RCurveLine, RLineCurve, VVCurveTo, HHCurveTo, VHCurveTo, HVCurveTo, HFlex, Flex, HFlex1, Flex1}

-- the operators that draw. Those of two bytes are 12 and another one, here 256 times 12 and the other one
abbrev pub draw_operator_of : ℕ → Option DrawOperator
draw_operator_of code =
    if code == 5 then Some RLineTo else
    if code == 6 then Some HLineTo else
    if code == 7 then Some VLineTo else
    if code == 8 then Some RRCurveTo else
    if code == 24 then Some RCurveLine else
    if code == 25 then Some RLineCurve else
    if code == 26 then Some VVCurveTo else
    if code == 27 then Some HHCurveTo else
    if code == 30 then Some VHCurveTo else
    if code == 31 then Some HVCurveTo else
    if code == 3106 then Some HFlex else
    if code == 3107 then Some Flex else
    if code == 3108 then Some HFlex1 else
    if code == 3109 then Some Flex1 else None

-- the operators that do not draw: moves, hints, subroutines and the end
abbrev pub other_operator_of : ℕ → Option Operator
other_operator_of code =
    if code == 4 then Some (Move VMoveTo) else
    if code == 21 then Some (Move RMoveTo) else
    if code == 22 then Some (Move HMoveTo) else
    if (code == 1) || (code == 3) || (code == 18) || (code == 23) then Some Stems else
    if (code == 19) || (code == 20) then Some Mask else
    if code == 10 then Some CallLocal else
    if code == 29 then Some CallGlobal else
    if code == 11 then Some Return else
    if code == 14 then Some End else None

-- the operator of a code. Arithmetic, storage and conditional operators are none that is read
abbrev pub operator_of : ℕ → Option Operator
operator_of code = elim (draw_operator_of code) [
  | Some operator ↦ Some (Draw operator)
  | None ↦ other_operator_of code
]
