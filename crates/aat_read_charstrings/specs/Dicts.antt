-- DICTs: keys and their operands. Adobe Technical Note 5176, "The Compact Font Format Specification", "DICT Data".
use Rattle.std.specs.Prelude.{ℕ, ℤ, pos, ◌+◌, ◌-◌, ◌/◌, ◌%◌, ◌==◌, ◌||◌, List, slice_index, slice_range, position, Bool, true, false, Option, Some, None, Result, Ok, Err, if◌then◌else◌, nat_lt, nat_le}
use Rattle.std.specs.Int.{cast_signed, w32}
use Rattle.aat_bytes.specs.Faults.{after}
use Rattle.aat_bytes.specs.Numbers.{be32}
use Rattle.aat_bytes.specs.declared.error.Fault.{Fault}
use Rattle.aat_read_charstrings.specs.Indexes.{past}
use Rattle.aat_read_charstrings.specs.Integers.{code_at, integer_at, integer_size}
use Rattle.aat_read_charstrings.specs.Runs.{run}
use Rattle.aat_read_charstrings.specs.declared.dict.DictState.{DictState}
use Rattle.aat_read_charstrings.specs.declared.dict.Operands.{Operands}
use Rattle.aat_read_charstrings.specs.declared.index.Span.{Span}

-- whether a byte ends a real number: one of its halves is 15
abbrev pub ends_real : ℕ → Bool
ends_real byte = (byte % 16 == 15) || (byte / 16 == 15)

-- how many bytes a real number takes behind its first one: up to the one that ends it
abbrev pub real_size : List ℕ → ℕ → ℕ → ℕ
real_size bytes place end =
    elim (position ends_real (slice_range bytes place end)) [ Some last ↦ last + 1 | None ↦ end - place ]

-- whether a key begins with a byte, else an operand does
abbrev pub is_key : ℕ → Bool
is_key first = nat_lt first 28

-- how many bytes a key or an operand takes that stands at a place: 12 is a key of two bytes
abbrev pub dict_token_size : List ℕ → ℕ → ℕ → ℕ
dict_token_size bytes place end =
    let first = slice_index bytes place in
    if first == 12 then 2 else
    if first == 29 then 5 else
    if first == 30 then 1 + real_size bytes (place + 1) end else integer_size first

-- the operand at a place. Behind 29 stand 32 bits, a real number counts as 0, and others are integers
abbrev pub operand_at : List ℕ → ℕ → ℤ
operand_at bytes place =
    let first = slice_index bytes place in
    if (first == 12) || (first == 30) then pos 0 else
    if first == 29 then cast_signed w32 (be32 bytes (place + 1)) else integer_at bytes place

-- no operands
abbrev pub no_operands : Operands
no_operands = record { before = pos 0; last = pos 0 }

-- behind the next key or operand of a DICT, or at its end, or at the key that is sought
abbrev pub stepped_on : List ℕ → ℕ → ℕ → DictState → Result DictState Fault
stepped_on bytes end key state =
    let place = state.place in
    let next = place + dict_token_size bytes place end in
    if nat_le end place then Ok (record state { is_done = true }) else
    if nat_lt end next then Err (past place) else
    if is_key (slice_index bytes place) then
    (if code_at bytes place == key
    then Ok (record state { found = Some state.operands; is_done = true })
    else Ok (record state { place = next; operands = no_operands }))
    else Ok (record state {
      place = next;
      operands = record { before = state.operands.last; last = operand_at bytes place };
    })

-- the operands that the last state has found
abbrev pub operands_at : Option DictState → Option Operands
operands_at None = None
operands_at (Some state) = state.found

-- in front of a DICT
abbrev pub dict_start : Span → DictState
dict_start dict = record { place = dict.start; operands = no_operands; found = None; is_done = false }

-- the last two operands of a key of a DICT, if it has the key: the first time that it stands there
unfoldable pub entry_of : List ℕ → Span → ℕ → Result (Option Operands) Fault
entry_of bytes dict key =
    after (run (stepped_on bytes dict.end key) (λ state. state.is_done) (dict.end - dict.start) (dict_start dict)) (λ last.
    Ok (operands_at last))
