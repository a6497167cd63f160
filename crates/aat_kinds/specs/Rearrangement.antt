-- The rearrangement act. TrueType Reference Manual: The 'morx' table, rearrangement.
use Rattle.std.specs.Prelude.{◌≡◌, ℕ, ◌+◌, ◌-◌, ◌==◌, ◌&&◌, ◌≤◌, not, Bool, true, nat_le, nat_lt, min, bit_and, List, [], ◌∷◌, ◌++◌, length, take, drop, reverse, slice_range, slice_index_or, if◌then◌else◌}
use Rattle.aat_buffer.specs.Buffer.{Buffer}
use Rattle.aat_buffer.specs.Marks.{merge_clusters, on_line_span}
use Rattle.aat_machine_tables.specs.declared.state_table.GenericStateEntry.{GenericStateEntry}
use Rattle.aat_machine_tables.specs.Entries.{has_flag, goes_on}
use Rattle.aat_run.specs.Context.{Context, Moved}
use Rattle.aat_kinds.specs.declared.verb.Part.{Part}
use Rattle.aat_kinds.specs.declared.verb.Part.TheVariants.{Nothing, One, Two, TwoTurned}
pub use Rattle.aat_kinds.specs.declared.verb.Verb.{Verb}

abbrev pub Entry : Type 0
Entry = GenericStateEntry (Unit {0})

-- how many glyphs a part has
abbrev pub size_of : Part → ℕ
size_of Nothing = 0
size_of One = 1
size_of Two = 2
size_of TwoTurned = 2

-- the glyphs of a part as it is put down
abbrev pub in_its_order : {X : Type 0} → Part → List X → List X
in_its_order Nothing xs = xs
in_its_order One xs = xs
in_its_order Two xs = xs
in_its_order TwoTurned xs = reverse xs

-- the verb with these parts
abbrev verb : Part → Part → Verb
verb front back = record { front = front; back = back }

-- the sixteen verbs in order, with x for the glyphs between
abbrev pub verbs : List Verb
verbs =
    verb Nothing Nothing  -- 0: nothing
    ∷ verb One Nothing  -- 1: Ax to xA
    ∷ verb Nothing One  -- 2: xD to Dx
    ∷ verb One One  -- 3: AxD to DxA
    ∷ verb Two Nothing  -- 4: ABx to xAB
    ∷ verb TwoTurned Nothing  -- 5: ABx to xBA
    ∷ verb Nothing Two  -- 6: xCD to CDx
    ∷ verb Nothing TwoTurned  -- 7: xCD to DCx
    ∷ verb One Two  -- 8: AxCD to CDxA
    ∷ verb One TwoTurned  -- 9: AxCD to DCxA
    ∷ verb Two One  -- 10: ABxD to DxAB
    ∷ verb TwoTurned One  -- 11: ABxD to DxBA
    ∷ verb Two Two  -- 12: ABxCD to CDxAB
    ∷ verb TwoTurned Two  -- 13: ABxCD to CDxBA
    ∷ verb Two TwoTurned  -- 14: ABxCD to DCxAB
    ∷ verb TwoTurned TwoTurned  -- 15: ABxCD to DCxBA
    ∷ []

-- A ++ x ++ D becomes D' ++ x ++ A'
unfoldable pub rearranged : {X : Type 0} → Verb → List X → List X
rearranged v span =
    let left = size_of v.front in
    let right = length span - size_of v.back in
    in_its_order v.back (drop right span) ++ (slice_range span left right ++ in_its_order v.front (take left span))

-- the span that the entries have marked
pub record Registers : Type 0 where
  pub start : ℕ
  pub end : ℕ

abbrev pub fresh : Registers
fresh = record { start = 0; end = 0 }

-- an empty span at the front, with which a run starts
abbrev pub IsFresh : Registers → Type 0
IsFresh r = r ≡ fresh

-- the number of an entry's verb
abbrev pub verb_number : Entry → ℕ
verb_number e = bit_and e.flags 0x000F

abbrev pub verb_of : Entry → Verb
verb_of e = slice_index_or verbs (verb_number e) (verb Nothing Nothing)

-- an entry is actionable where it has a verb and the span is not empty
abbrev pub actionable : Entry → Registers → ℕ → ℕ → Bool
actionable e r p n = not (verb_number e == 0) && nat_lt r.start r.end

-- 0x8000 sets the start to the cursor, 0x2000 the end behind the glyph at it
abbrev pub with_marks : Entry → Registers → ℕ → ℕ → Registers
with_marks e r p n = record {
  start = if has_flag e 0x8000 then p else r.start;
  end = if has_flag e 0x2000 then min (p + 1) n else r.end;
}

-- whether the span has all glyphs that the verb names, and is no longer than the bound
abbrev pub is_within : ℕ → Verb → Registers → Bool
is_within bound v r = nat_le (size_of v.front + size_of v.back) (r.end - r.start) && nat_le (r.end - r.start) bound

-- the clusters merge from the start to the cursor, then over the span, and then the verb moves the span
unfoldable pub moved : Verb → Registers → Buffer → Buffer
moved v r b =
    let merged = merge_clusters (merge_clusters b r.start (min (b.cursor + 1) (length b.line))) r.start r.end in
    on_line_span (rearranged v) r.start r.end merged

-- the act of an entry, where a span has at most as many glyphs as the bound
unfoldable pub act : ℕ → Entry → Registers → Buffer → Moved Registers
act bound e r b =
    let s = with_marks e r b.cursor (length b.line) in
    let can_move = actionable e s b.cursor (length b.line) && is_within bound (verb_of e) s in
    record { registers = s; buffer = if can_move then moved (verb_of e) s b else b }

-- the registers fit where the span ends within the line
abbrev pub IsFit : Registers → ℕ → ℕ → Type 0
IsFit r p n = r.end ≤ n

abbrev pub context : ℕ → Context Registers Entry
context bound = record { fresh = fresh; in_place = true; advances = goes_on; actionable = actionable; act = act bound }
