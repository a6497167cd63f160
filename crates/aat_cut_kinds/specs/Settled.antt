-- Which contextual subtables are settled: those whose marked place is set before it is used, since the machine was last
-- in state 0. Which insertion subtables are plain. TrueType Reference Manual: The 'morx' table, contextual substitution
-- and glyph insertion, and State tables.
use Rattle.std.specs.Prelude.{◌≡◌, ℕ, ◌&&◌, ◌||◌, Bool, true, false, not, nat_lt, List, length, Some, unwrap_or}
use Rattle.aat_machine_tables.specs.Entries.{goes_on, has_flag, is_present}
use Rattle.aat_machine_tables.specs.Table.{TableValue, class_of, entry_of}
use Rattle.aat_machine_tables.specs.declared.state_table.GenericStateEntry.{GenericStateEntry}
use Rattle.aat_kinds.specs.Contextual.{Entry}
use Rattle.aat_kinds.specs.Insertion as insertion

-- some glyph has the class: a glyph that has none has class 1, out of bounds
abbrev pub IsClassOfGlyph : {E : Type 0} → TableValue E → ℕ → Type 0
IsClassOfGlyph table k = (g : ℕ) × (unwrap_or (class_of table g) 1 ≡ k)

-- an entry may replace a glyph
abbrev pub may_replace : Entry → Bool
may_replace e = is_present e.extra.mark_index || is_present e.extra.current_index

-- an index names no lookup, or one that is there
abbrev pub is_answered : List (List (ℕ × ℕ)) → ℕ → Bool
is_answered lookups index = not (is_present index) || nat_lt index (length lookups)

-- an entry sets the mark: it has the flag, and names no missing lookup, since that would end the act before
abbrev pub sets_mark : List (List (ℕ × ℕ)) → Entry → Bool
sets_mark lookups e =
    has_flag e 0x8000 && (is_answered lookups e.extra.mark_index && is_answered lookups e.extra.current_index)

-- a labelling of the states: those that a run may reach, and those in which the mark is set since state 0
pub record Labels : Type 0 where
  pub is_reached : ℕ → Bool
  pub is_live : ℕ → Bool

-- state 0 is reached, and each state that is reached has an entry for each class, to a state that is reached
pub record HasEntries {T : Type 0} (table : TableValue (GenericStateEntry T)) (reached : ℕ → Bool) : Type 0 where
  pub first : reached 0 ≡ true
  pub entries :
      (s k : ℕ) → reached s ≡ true
      → (e : GenericStateEntry T) × (entry_of table s k ≡ Some e) × (reached e.new_state ≡ true)

module _ (labels : Labels) (table : TableValue Entry) where
  module _ (lookups : List (List (ℕ × ℕ))) where
    -- the mark is live only where it was set since state 0; an entry asks for the marked glyph only where it is live,
    -- and so does one for the end of the text for the last glyph
    pub record IsTidy : Type 0 where
      pub first : labels.is_live 0 ≡ false
      pub kept :
          (s k : ℕ) (e : Entry) → labels.is_reached s ≡ true → IsClassOfGlyph table k → entry_of table s k ≡ Some e
          → labels.is_live e.new_state ≡ true → (sets_mark lookups e || labels.is_live s) ≡ true
      pub used :
          (s k : ℕ) (e : Entry) → labels.is_reached s ≡ true → entry_of table s k ≡ Some e
          → is_present e.extra.mark_index ≡ true → labels.is_live s ≡ true
      pub at_end :
          (s : ℕ) (e : Entry) → labels.is_reached s ≡ true → entry_of table s 0 ≡ Some e
          → is_present e.extra.current_index ≡ true → labels.is_live s ≡ true

  -- an entry and that of state 0 for its class that replace nothing and do the same next set the mark alike, or lead to
  -- where it is not live
  pub record IsAgreeing : Type 0 where
    pub agreed :
        (s k : ℕ) (e f : Entry) → labels.is_reached s ≡ true → IsClassOfGlyph table k
        → entry_of table s k ≡ Some e → entry_of table 0 k ≡ Some f
        → may_replace e ≡ false → may_replace f ≡ false
        → e.new_state ≡ f.new_state → goes_on e ≡ goes_on f → labels.is_live e.new_state ≡ true
        → has_flag e 0x8000 ≡ has_flag f 0x8000

  -- a labelling shows that the table is settled
  pub record IsSettledBy (lookups : List (List (ℕ × ℕ))) : Type 0 where
    pub complete : HasEntries table labels.is_reached
    pub tidy : IsTidy lookups
    pub agreeing : IsAgreeing

-- an entry of an insertion table that puts no glyphs in names no run
abbrev pub IsPlain : TableValue insertion.Entry → Type 0
IsPlain table =
    (s k : ℕ) (e : insertion.Entry) → entry_of table s k ≡ Some e → has_flag e 0x03FF ≡ false
    → (is_present e.extra.marked_insert_index ≡ false) × (is_present e.extra.current_insert_index ≡ false)

-- a contextual table with its lookups is settled: some labelling shows it
abbrev pub IsSettled : TableValue Entry → List (List (ℕ × ℕ)) → Type 0
IsSettled table lookups = (labels : Labels) × IsSettledBy labels table lookups
