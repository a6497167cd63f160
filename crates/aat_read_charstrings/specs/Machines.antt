-- The machine that executes a charstring. Adobe Technical Note 5177, "The Type 2 Charstring Format".
use Rattle.std.specs.Prelude.{ℕ, ℤ, pos, ◌+◌, ◌-◌, ◌/◌, ◌++◌, List, [], ◌∷◌, length, take, slice_get, slice_index, Bool, true, false, Option, Some, None, Result, Ok, Err, if◌then◌else◌, nat_lt, nat_le, int_lt, unsigned_abs}
use Rattle.std.specs.Int.{int_div_euclid}
use Rattle.std.specs.List.{fold}
use Rattle.aat_bytes.specs.Faults.{after}
use Rattle.aat_bytes.specs.declared.error.Fault.{Fault}
use Rattle.aat_bytes.specs.declared.error.FaultKind.TheVariants.{UnknownFormat, Missing}
use Rattle.aat_read_charstrings.specs.Indexes.{fault_of, object_at, past}
use Rattle.aat_read_charstrings.specs.Integers.{code_at}
use Rattle.aat_read_charstrings.specs.Operators.{operator_of}
use Rattle.aat_read_charstrings.specs.Paths.{Drawing, closed, drawn, moved, nothing_drawn, stepped}
use Rattle.aat_read_charstrings.specs.Programs.{Program}
use Rattle.aat_read_charstrings.specs.Runs.{run}
use Rattle.aat_read_charstrings.specs.Steps.{number, point, steps_of}
use Rattle.aat_read_charstrings.specs.Tokens.{is_number, number_at, token_end}
use Rattle.aat_read_charstrings.specs.declared.index.Index.{Index}
use Rattle.aat_read_charstrings.specs.declared.index.Span.{Span}
use Rattle.aat_read_charstrings.specs.declared.machine.TheConstants.{STACK_LIMIT, CALL_LIMIT, HINT_LIMIT, TURN_LIMIT}
use Rattle.aat_read_charstrings.specs.declared.operators.MoveOperator.{MoveOperator}
use Rattle.aat_read_charstrings.specs.declared.operators.MoveOperator.TheVariants.{RMoveTo, HMoveTo, VMoveTo}
use Rattle.aat_read_charstrings.specs.declared.operators.Operator.{Operator}
use Rattle.aat_read_charstrings.specs.declared.operators.Operator.TheVariants.{Stems, Mask, Move, Draw, CallLocal, CallGlobal, Return, End}
use Rattle.aat_read_charstrings.specs.declared.path.CubicSegment.{CubicSegment}
use Rattle.aat_read_charstrings.specs.declared.path.FixedPoint.{FixedPoint}
use Rattle.aat_read_charstrings.specs.declared.steps.DrawOperator.{DrawOperator}

-- what is read next, where calls return to, the latest last, the numbers of the stack in 65536ths, how many stems have
-- hints, what is drawn, and whether the glyph is ended
pub record Execution : Type 0 where
  pub at : Span
  pub calls : List Span
  pub stack : List ℤ
  pub hints : ℕ
  pub drawing : Drawing
  pub is_done : Bool

-- in front of a charstring
abbrev pub started : Span → Execution
started at = record { at = at; calls = []; stack = []; hints = 0; drawing = nothing_drawn; is_done = false }

-- with a number on the stack, which holds up to 48
abbrev pub pushed : ℕ → Execution → ℤ → Result Execution Fault
pushed place now number =
    if nat_le STACK_LIMIT (length now.stack) then Err (past place) else
    Ok (record now { stack = now.stack ++ number ∷ [] })

-- with the hints of stems, two numbers each, of which there are up to 96. A width in front of them is left out
abbrev pub counted : ℕ → Execution → Result Execution Fault
counted place now =
    if nat_lt HINT_LIMIT (now.hints + length now.stack / 2) then Err (past place) else
    Ok (record now { hints = now.hints + length now.stack / 2; stack = [] })

-- behind a mask, which has a bit for each stem. Numbers in front of it are stems
abbrev pub mask_skipped : ℕ → Execution → Result Execution Fault
mask_skipped place now =
    after (counted place now) (λ next.
    Ok (record next { at = record next.at { start = next.at.start + (next.hints + 7) / 8 } }))

-- an argument, counted from the last one, which is 1
abbrev pub argument : List ℤ → ℕ → ℤ
argument arguments k = number arguments (length arguments - k)

-- how an operator moves the pen: by its last arguments, so that a width in front of them is left out
abbrev pub move_step : MoveOperator → List ℤ → Option FixedPoint
move_step RMoveTo arguments =
    if nat_lt (length arguments) 2 then None else Some (point (argument arguments 2) (argument arguments 1))
move_step HMoveTo arguments =
    if nat_lt (length arguments) 1 then None else Some (point (argument arguments 1) (pos 0))
move_step VMoveTo arguments =
    if nat_lt (length arguments) 1 then None else Some (point (pos 0) (argument arguments 1))

-- with the pen moved
abbrev pub moved_by : ℕ → Execution → MoveOperator → Result Execution Fault
moved_by place now operator = elim (move_step operator now.stack) [
  | None ↦ Err (past place)
  | Some by ↦ Ok (record now { drawing = moved now.drawing by; stack = [] })
]

-- with the steps of an operator drawn
abbrev pub steps_drawn : Execution → DrawOperator → Execution
steps_drawn now operator = record now {
  drawing = fold drawn now.drawing (steps_of operator now.stack);
  stack = [];
}

-- what is added to the number of a subroutine, of so many
abbrev pub bias_of : ℕ → ℤ
bias_of count = if nat_lt count 1240 then pos 107 else if nat_lt count 33900 then pos 1131 else pos 32768

-- the subroutine of a number in 65536ths, which is rounded down
abbrev pub subroutine_at : List ℕ → Index → ℤ → Result Span Fault
subroutine_at cff index number =
    let object = stepped (int_div_euclid number (pos 65536)) (bias_of index.count) in
    if int_lt object (pos 0) then Err (fault_of Missing index.offsets) else
    object_at cff index (unsigned_abs object)

-- in front of the subroutine whose number is the last of the stack, with up to 10 within each other
abbrev pub called : ℕ → List ℕ → Index → Execution → Result Execution Fault
called place cff index now = elim (slice_get now.stack (length now.stack - 1)) [
  | None ↦ Err (past place)
  | Some number ↦
      if nat_le CALL_LIMIT (length now.calls) then Err (past place) else
      after (subroutine_at cff index number) (λ at.
      Ok (record now {
        at = at;
        calls = now.calls ++ now.at ∷ [];
        stack = take (length now.stack - 1) now.stack;
      }))
]

-- behind the latest call
abbrev pub returned : ℕ → Execution → Result Execution Fault
returned place now = elim (slice_get now.calls (length now.calls - 1)) [
  | None ↦ Err (fault_of Missing place)
  | Some at ↦ Ok (record now { at = at; calls = take (length now.calls - 1) now.calls })
]

-- at the end of the glyph. Four arguments would make it of two others, which is not read
abbrev pub finished : ℕ → Execution → Result Execution Fault
finished place now =
    if nat_le 4 (length now.stack) then Err (fault_of UnknownFormat place) else
    Ok (record now { drawing = closed now.drawing; is_done = true })

-- behind an operator
abbrev pub performed : ℕ → Program → Execution → Operator → Result Execution Fault
performed place program now Stems = counted place now
performed place program now Mask = mask_skipped place now
performed place program now (Move operator) = moved_by place now operator
performed place program now (Draw operator) = Ok (steps_drawn now operator)
performed place program now CallLocal = called place program.cff program.locals now
performed place program now CallGlobal = called place program.cff program.globals now
performed place program now Return = returned place now
performed place program now End = finished place now

-- behind the number or operator that is read next
abbrev pub turned : Program → Execution → Result Execution Fault
turned program now = elim (token_end program.cff now.at) [
  | None ↦ Err (past now.at.start)
  | Some end ↦
      let place = now.at.start in
      let next = record now { at = record now.at { start = end } } in
      if is_number (slice_index program.cff place) then pushed place next (number_at program.cff place) else
      elim (operator_of (code_at program.cff place)) [
        | None ↦ Err (fault_of UnknownFormat place)
        | Some operator ↦ performed place program next operator
      ]
]

-- the segments of an execution that is ended, or the fault of one that goes on too long
abbrev pub ended : ℕ → Option Execution → Result (List CubicSegment) Fault
ended place None = Err (past place)
ended place (Some last) = Ok last.drawing.segments

-- what a charstring draws with its subroutines, of up to 200,000 numbers and operators in all
unfoldable pub drawn_glyph : Program → Span → Result (List CubicSegment) Fault
drawn_glyph program at =
    after (run (turned program) (λ now. now.is_done) TURN_LIMIT (started at)) (ended at.start)
