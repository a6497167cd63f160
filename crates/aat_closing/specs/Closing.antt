-- What a run closes as it uses its registers, besides the marks of its turns: before an entry acts, the line gets the
-- break marks from the oldest place that the act looks at, or further back, through the glyph at the cursor. An act of
-- insertion marks its span by itself. (No chapter of the manual: the marks that say where a line can be broken are the
-- shaper's own.)
use Rattle.std.specs.Prelude.{ℕ, zero, suc, ◌+◌, ◌-◌, ◌&&◌, ◌||◌, not, Bool, true, nat_lt, min, List, length, drop, take_while, Some, if◌then◌else◌}
use Rattle.aat_buffer.specs.Buffer.{Buffer}
use Rattle.aat_buffer.specs.Marks.{unsafe_to_break}
use Rattle.aat_lookup.specs.Truth.{is_some_and}
use Rattle.aat_machine_tables.specs.Entries.{goes_on, has_flag, is_present}
use Rattle.aat_machine_tables.specs.Judged.{contextual_acts, rearrangement_acts}
use Rattle.aat_machine_tables.specs.Table.{TableValue}
use Rattle.aat_machine_tables.specs.declared.state_table.GenericStateEntry.{GenericStateEntry}
use Rattle.aat_run.specs.Context.{Moved, entry_at}
use Rattle.aat_kinds.specs.Contextual as contextual
use Rattle.aat_kinds.specs.Insertion as insertion
use Rattle.aat_kinds.specs.Ligature as ligature
use Rattle.aat_kinds.specs.Rearrangement as rearrangement

-- the line from place i through the glyph at the cursor, with the break marks; one glyph alone gets none
abbrev pub closed_from : ℕ → Buffer → Buffer
closed_from i b = unsafe_to_break b (Some i) (Some (b.cursor + 1))

-- an act over a line that is closed from a place
abbrev pub closing : {R E : Type 0} → (E → R → Buffer → ℕ) → (E → R → Buffer → Moved R) → E → R → Buffer → Moved R
closing from act e r b = act e r (closed_from (from e r b) b)

-- A contextual entry that names a lookup for the marked glyph looks at the mark. At the end of the text it does so with
-- any lookup, and whether it does depends on there being a mark: the line is closed before the marked glyph too, and
-- whole where there is none.
abbrev pub contextual_from : contextual.Entry → contextual.Registers → Buffer → ℕ
contextual_from e r b =
    if nat_lt b.cursor (length b.line)
    then (if is_present e.extra.mark_index then r.mark else b.cursor)
    else (if contextual_acts e then r.mark - 1 else b.cursor)

-- An entry of rearrangement with a verb looks at both ends of the span. An end that was set before this entry is taken
-- to be one further back.
abbrev pub rearrangement_from : rearrangement.Entry → rearrangement.Registers → Buffer → ℕ
rearrangement_from e r b =
    let s = rearrangement.with_marks e r b.cursor (length b.line) in
    if rearrangement_acts e then min s.start (s.end - (if has_flag e 0x2000 then 1 else 2)) else b.cursor

-- how many components an act takes at most by the actions from an index: as many as there are through the last one of the
-- list, and one more where none is the last
abbrev pub steps_of : List ℕ → ℕ → ℕ
steps_of actions a = length (take_while (λ x. not (ligature.is_last x)) (drop a actions)) + 1

-- component i stands before the next one, and so do the n - 1 behind it
unfoldable pub are_in_order : ligature.Registers → ℕ → ℕ → Bool
are_in_order r i zero = true
are_in_order r i (suc n) = nat_lt (ligature.component r i) (ligature.component r (i + 1)) && are_in_order r (i + 1) n

-- The place of the oldest of the m newest components. Where as many are not held, or not all of them can be in their
-- slots, since newer ones were put there, it is the first place of the line.
abbrev pub oldest_of_newest : ligature.Registers → ℕ → ℕ
oldest_of_newest r m =
    if nat_lt r.count m || (nat_lt (length r.slots) m || not (are_in_order r (r.count - m) (m - 1)))
    then 0
    else ligature.component r (r.count - m)

-- Inside the line, an entry of ligatures that performs actions looks at as many of the newest components as it may
-- take. One that holds a component and performs none closes the line before the cursor, unless it goes on, and state
-- 0 would hold the component too.
abbrev pub ligature_from : List ℕ → TableValue (GenericStateEntry ℕ) → GenericStateEntry ℕ → ligature.Registers → Buffer → ℕ
ligature_from actions table e r b =
    if has_flag e 0x2000
    then (if nat_lt b.cursor (length b.line)
    then oldest_of_newest (ligature.with_component e r b.cursor) (steps_of actions e.extra)
    else b.cursor)
    else (if has_flag e 0x8000 && not (goes_on e && is_some_and (entry_at table 0 b) (λ f. has_flag f 0x8000))
    then b.cursor - 1
    else b.cursor)

-- an entry of insertion may act where it has an index, whatever its counts
abbrev pub insertion_may_act : insertion.Entry → Bool
insertion_may_act e = is_present e.extra.current_insert_index || is_present e.extra.marked_insert_index

-- and looks at nothing before the cursor but where its act puts glyphs in, which marks the line by itself
abbrev pub insertion_from : insertion.Entry → insertion.Registers → Buffer → ℕ
insertion_from e r b = b.cursor
