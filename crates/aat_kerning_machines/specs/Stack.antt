-- The stack act of kerning machines. TrueType Reference Manual: The 'kerx' table, format 1, and The 'kern' table,
-- format 1.
use Rattle.std.specs.Prelude.{ℕ, ◌+◌, ◌%◌, ◌==◌, ◌&&◌, not, Bool, true, false, nat_lt, nat_le, max, List, [], ◌∷◌, length, ℤ, pos, negsuc, ◌-ℤ◌, unsigned_abs, Option, Some, None, slice_get, unwrap_or, if◌then◌else◌}
use Rattle.std.specs.Ordering.{int_eq}
use Rattle.aat_buffer.specs.Buffer.{Buffer, glyph_at, position_at}
use Rattle.aat_machine_tables.specs.declared.state_table.GenericStateEntry.{GenericStateEntry}
use Rattle.aat_machine_tables.specs.declared.entries.EntryData.{EntryData}
use Rattle.aat_machine_tables.specs.declared.entries.KernEntryData.{KernEntryData}
use Rattle.aat_machine_tables.specs.Entries.{has_flag, is_present}
use Rattle.aat_run.specs.Switches.{meets}
use Rattle.aat_run.specs.Context.{Moved}
use Rattle.aat_glyph.specs.Directions.{is_horizontal}
use Rattle.aat_kerning_machines.specs.KerningMachine.{Driver, has_action}
use Rattle.aat_kerning_machines.specs.Positions.{on_position, plus, with_advance, with_shift, cross_offset, with_cross_offset, with_attachment_flag, attached_as}

-- the stack holds at most eight places, the newest first; a push at eight clears it instead
abbrev pub with_place_pushed : ℕ → List ℕ → List ℕ
with_place_pushed p stack = if nat_lt (length stack) 8 then p ∷ stack else []

-- an entry with the flag 0x8000 pushes the place
abbrev pub pushed_by : {T : Type 0} → GenericStateEntry T → ℕ → List ℕ → List ℕ
pushed_by e p stack = if has_flag e 0x8000 then with_place_pushed p stack else stack

-- Values are even: the lowest bit of one is no part of it, but the sign that its list ends there.
-- TrueType Reference Manual: The 'kern' table, format 1, the kerning values.
abbrev pub is_odd : ℤ → Bool
is_odd v = unsigned_abs v % 2 == 1

-- the value without that bit
abbrev pub even : ℤ → ℤ
even v = if is_odd v then v -ℤ pos 1 else v

-- Across the stream -0x8000 takes the attachment and the offset away: back to the line. Another value is added to the
-- offset of an attached glyph. TrueType Reference Manual: The 'kern' table, cross-stream kerning.
abbrev pub across : ℤ → ℕ → Buffer → Buffer
across v i b =
    let h = is_horizontal b.direction in
    let q = position_at b i in
    if int_eq v (negsuc 32767) then on_position (λ q. with_cross_offset h (pos 0) (attached_as 0 (pos 0) q)) i b
    else (if q.attach_type == 0 then b
    else with_attachment_flag (on_position (λ q. with_cross_offset h (plus (cross_offset h q) v) q) i b))

-- in the stream a value is added to the advance and the offset where the mask meets the kern mask, and in vertical text
-- only where there is no offset yet
abbrev pub along : ℕ → ℤ → ℕ → Buffer → Buffer
along kern_mask v i b =
    let h = is_horizontal b.direction in
    let is_asked = meets (glyph_at b.line i).mask kern_mask in
    let may_add = if h then is_asked else (is_asked && int_eq (position_at b i).y_offset (pos 0)) in
    if may_add then on_position (λ q. with_shift h v (with_advance h v q)) i b else b

-- a place of the line gets a value; a place at or beyond the length uses it up
abbrev pub with_value_for : Bool → ℕ → ℤ → ℕ → Buffer → Buffer
with_value_for is_cross kern_mask v i b =
    if nat_lt i (length b.line)
    then (if is_cross then across (even v) i b else along kern_mask (even v) i b)
    else b

-- an odd value ends its list at a place of the line
abbrev pub ends_list : ℤ → ℕ → Buffer → Bool
ends_list v i b = is_odd v && nat_lt i (length b.line)

-- The values of a list, from an index on by a step, for the places of the stack from the newest down. Each place that
-- is asked for is popped; a missing value ends the list.
module _ (is_cross : Bool) (kern_mask : ℕ) (value : ℕ → Option ℤ) (step : ℕ) where
  -- what the places and values of a list leave. TrueType Reference Manual: The 'kern' table, format 1.
  unfoldable pub popped : List ℕ → ℕ → Buffer → Moved (List ℕ)
  popped [] index b = record { registers = []; buffer = b }
  popped (i ∷ stack) index b = elim (value index) [
    | None ↦ record { registers = stack; buffer = b }
    | Some v ↦
        let d = with_value_for is_cross kern_mask v i b in
        elim (ends_list v i b) [
          | true ↦ record { registers = stack; buffer = d }
          | false ↦ popped stack (index + step) d
        ]
  ]

-- a value of a `kerx` subtable, which is missing also where the next index would pass 65535
abbrev pub kerx_value : List ℤ → ℕ → ℕ → Option ℤ
kerx_value values step index = if nat_le (index + step) 65535 then slice_get values index else None

-- The act of a `kerx` entry: 0x2000 empties the stack, 0x8000 pushes the cursor, and an index takes values. The index
-- rises by the tuple count, at least by 1: each tuple begins with the value that is not varied. A tuple count above
-- 65535 takes none. TrueType Reference Manual: The 'kerx' table, format 1.
unfoldable pub kerx_act : Bool → ℕ → ℕ → List ℤ → GenericStateEntry EntryData → List ℕ → Buffer → Moved (List ℕ)
kerx_act is_cross kern_mask tuple_count values e stack b =
    let filled = pushed_by e b.cursor (if has_flag e 0x2000 then [] else stack) in
    let step = max tuple_count 1 in
    if has_action e && nat_le tuple_count 65535
    then popped is_cross kern_mask (kerx_value values step) step filled e.extra.action_index b
    else record { registers = filled; buffer = b }

-- a `kerx` entry that never acts: it puts no place on the stack, empties it not, and has no index
abbrev pub kerx_rests : GenericStateEntry EntryData → Bool
kerx_rests e = not (has_flag e 0x8000) && (not (has_flag e 0x2000) && not (has_action e))

-- the driver of a `kerx` stack subtable: an empty stack, and an entry is actionable that has an index
abbrev pub kerx_driver : Bool → ℕ → ℕ → List ℤ → Driver (List ℕ) (GenericStateEntry EntryData)
kerx_driver is_cross kern_mask tuple_count values = record {
  fresh = [];
  actionable = has_action;
  act = kerx_act is_cross kern_mask tuple_count values;
}

-- a value of a `kern` subtable, 0 where it is missing
abbrev pub kern_value : List ℤ → ℕ → Option ℤ
kern_value values index = Some (unwrap_or (slice_get values index) (pos 0))

-- the act of a `kern` entry: 0x8000 pushes the cursor, and an index takes values; where the first is missing the stack
-- is cleared. TrueType Reference Manual: The 'kern' table, format 1.
unfoldable pub kern_act : Bool → ℕ → List ℤ → GenericStateEntry KernEntryData → List ℕ → Buffer → Moved (List ℕ)
kern_act is_cross kern_mask values e stack b =
    let filled = pushed_by e b.cursor stack in
    let index = e.extra.value_index in
    if not (is_present index) then record { registers = filled; buffer = b }
    else (if nat_lt index (length values) then popped is_cross kern_mask (kern_value values) 1 filled index b
    else record { registers = []; buffer = b })

-- a `kern` entry that never acts: it puts no place on the stack, and has no index
abbrev pub kern_rests : GenericStateEntry KernEntryData → Bool
kern_rests e = not (has_flag e 0x8000) && not (is_present e.extra.value_index)

-- the driver of a `kern` machine: an empty stack, and an entry is actionable that has an index
abbrev pub kern_driver : Bool → ℕ → List ℤ → Driver (List ℕ) (GenericStateEntry KernEntryData)
kern_driver is_cross kern_mask values = record {
  fresh = [];
  actionable = λ e. is_present e.extra.value_index;
  act = kern_act is_cross kern_mask values;
}
