-- Worked examples of findings.
use Rattle.std.specs.Prelude.{◌≡◌, ℕ, Bool, [], ◌∷◌, suc, slice_get, Some, None, true, false}
use Rattle.aat_lookup.specs.declared.feat.FeatureName.{FeatureName}
use Rattle.aat_machine_tables.specs.Subtables.{LigatureTables}
use Rattle.aat_machine_tables.specs.Table.{TableValue}
use Rattle.aat_machine_tables.specs.declared.state_table.GenericStateEntry.{GenericStateEntry}
use Rattle.aat_machine_tables.specs.declared.morx.ChainFeature.{ChainFeature}
use Rattle.aat_findings.specs.Chained.{has_feature, is_clash, is_nameless, sets_none}
use Rattle.aat_findings.specs.Glyphs.{is_of, lists_deleted}
use Rattle.aat_findings.specs.Growth.{Entry as InsertionEntry, grows, puts_deleted}
use Rattle.aat_findings.specs.Ligatures.{ComesTo, IsBegun, IsMade, is_last, is_long, is_store, value_of}
use Rattle.aat_findings.specs.Named.{is_of_place}
use Rattle.aat_findings.specs.declared.glyphs.PairKind.TheVariants.{GlyphPast, ValuePast, Deletes, Restores}
use Rattle.aat_findings.specs.Reached.{next_state, state_after, state_count}
use Rattle.aat_findings.specs.Stays.{IsCycle, stay_after}

-- the entry that goes to a state, with flags
abbrev pub to : ℕ → ℕ → GenericStateEntry ℕ
to state flags = record { new_state = state; flags = flags; extra = 0 }

-- a machine of four states. At class 4 it goes from state 0 to state 2, which stays in itself; no rule leads to state 3
abbrev pub example_machine : TableValue (GenericStateEntry ℕ)
example_machine = record {
  class_count = 5;
  classes = [];
  rules = (0, 1, to 0 0) ∷ (0, 4, to 2 0) ∷ (1, 4, to 0 0x4000) ∷ (2, 4, to 2 0x4000) ∷ (3, 4, to 0 0) ∷ [];
}

-- classes lead from state to state, where there is an entry for each; a class at or above the count is taken as 1
abbrev pub LinesLead : Type 0
LinesLead =
    (state_after example_machine 0 [] ≡ Some 0)
    × (state_after example_machine 0 (4 ∷ 4 ∷ []) ≡ Some 2)
    × (state_after example_machine 1 (4 ∷ 4 ∷ []) ≡ Some 2)
    × (state_after example_machine 0 (9 ∷ 4 ∷ []) ≡ Some 2)
    × (state_after example_machine 0 (4 ∷ 3 ∷ 4 ∷ []) ≡ None)
    × (next_state example_machine 3 4 ≡ Some 0)
    × (state_count example_machine.rules ≡ 4)

-- entries that stay lead on at the same glyph: state 2 to itself, state 1 to state 0, from which the glyph is left
abbrev pub EntriesStay : Type 0
EntriesStay =
    (stay_after example_machine 4 1 2 ≡ Some 2)
    × (stay_after example_machine 4 1 1 ≡ Some 0)
    × (stay_after example_machine 4 2 1 ≡ None)
    × (stay_after example_machine 4 1 3 ≡ None)
    × (stay_after example_machine 3 1 2 ≡ None)

-- a machine that comes to a state of a cycle at a glyph of its class does not leave the glyph, after any number of
-- turns
abbrev pub CyclesStay : Type 0
CyclesStay =
    (table : TableValue (GenericStateEntry ℕ)) (class state turns : ℕ)
    → IsCycle table class state → stay_after table class turns state ≡ None → ⊥

-- a setting of a type that sets flags
abbrev pub setting_of : ℕ → ℕ → ℕ → ChainFeature
setting_of kind setting flags =
    record { kind = kind; setting = setting; enable_flags = flags; disable_flags = 0xFFFFFFFF }

-- the name of a type whose settings exclude one another
abbrev pub exclusive_name : ℕ → FeatureName
exclusive_name kind = record { kind = kind; settings = 2; exclusive = true }

-- two settings clash where both are on by default, are of one type that is exclusive, and differ
abbrev pub SettingsClash : Type 0
SettingsClash =
    (is_clash (exclusive_name 3 ∷ []) 3 (setting_of 3 0 1) (setting_of 3 1 2) ≡ true)
    × (is_clash (exclusive_name 3 ∷ []) 1 (setting_of 3 0 1) (setting_of 3 1 2) ≡ false)
    × (is_clash (exclusive_name 3 ∷ []) 3 (setting_of 3 0 1) (setting_of 3 0 1) ≡ false)
    × (is_clash (exclusive_name 3 ∷ []) 3 (setting_of 3 0 0) (setting_of 3 1 2) ≡ false)
    × (is_clash (exclusive_name 4 ∷ []) 3 (setting_of 3 0 1) (setting_of 3 1 2) ≡ false)

-- features by their types, their names and the flags that they set
abbrev pub FeaturesAreTold : Type 0
FeaturesAreTold =
    (has_feature 3 (setting_of 4 0 1 ∷ setting_of 3 1 2 ∷ []) ≡ true)
    × (has_feature 5 (setting_of 4 0 1 ∷ setting_of 3 1 2 ∷ []) ≡ false)
    × (is_nameless (exclusive_name 3 ∷ []) (setting_of 4 0 1) ≡ true)
    × (is_nameless (exclusive_name 3 ∷ []) (setting_of 3 0 1) ≡ false)
    × (sets_none (setting_of 4 0 1 ∷ setting_of 3 1 2 ∷ []) 4 ≡ true)
    × (sets_none (setting_of 4 0 1 ∷ setting_of 3 1 2 ∷ []) 6 ≡ false)

-- glyphs are past their number from it on, but for the deleted one, which a lookup may list; 0xFFFF names no lookup
abbrev pub GlyphsArePast : Type 0
GlyphsArePast =
    (is_of ValuePast 10 (3, 9) ≡ false)
    × (is_of ValuePast 10 (3, 10) ≡ true)
    × (is_of ValuePast 10 (3, 0xFFFF) ≡ false)
    × (is_of GlyphPast 10 (9, 30) ≡ false)
    × (is_of GlyphPast 10 (10, 3) ≡ true)
    × (is_of GlyphPast 10 (0xFFFF, 3) ≡ false)
    × (lists_deleted ((9, 3) ∷ (0xFFFF, 3) ∷ []) ≡ true)
    × (lists_deleted ((9, 3) ∷ []) ≡ false)
    × (is_of_place 2 2 ≡ true)
    × (is_of_place 0xFFFF 0xFFFF ≡ false)

-- a pair deletes a glyph, or brings the deleted one back
abbrev pub GlyphsAreDeleted : Type 0
GlyphsAreDeleted =
    (is_of Deletes 10 (3, 0xFFFF) ≡ true)
    × (is_of Deletes 10 (3, 30) ≡ false)
    × (is_of Deletes 10 (0xFFFF, 0xFFFF) ≡ false)
    × (is_of Restores 10 (0xFFFF, 3) ≡ true)
    × (is_of Restores 10 (3, 0xFFFF) ≡ false)

-- the entry of insertion that goes to a state, with flags, and puts glyphs in from indexes on
abbrev pub puts : ℕ → ℕ → ℕ → ℕ → InsertionEntry
puts state flags current marked = record {
  new_state = state;
  flags = flags;
  extra = record { current_insert_index = current; marked_insert_index = marked };
}

-- a machine of insertion over the glyphs 1 and 2, of the classes 4 and 5, with a rule of state 0 at each of them
abbrev pub inserting : InsertionEntry → InsertionEntry → TableValue InsertionEntry
inserting first second = record {
  class_count = 6;
  classes = (1, 4) ∷ (2, 5) ∷ [];
  rules = (0, 4, first) ∷ (0, 5, second) ∷ [];
}

-- whether a line grows at glyph 1, where glyphs 1 and 2 go in
abbrev pub grows_at_first : InsertionEntry → InsertionEntry → Bool
grows_at_first first second = grows (inserting first second) (record { 0 = 1 } ∷ record { 0 = 2 } ∷ []) (0, 4, first)

-- a line grows where an entry that stays puts a glyph in behind the one there, or before it one of its class; or one of
-- another class, from which an entry leads back. It does not where the entry advances, puts none in, leads to a class
-- without a rule that stays, or puts some in behind the mark
abbrev pub LinesGrow : Type 0
LinesGrow =
    (grows_at_first (puts 0 0x4020 1 0xFFFF) (puts 0 0 0xFFFF 0xFFFF) ≡ true)
    × (grows_at_first (puts 0 0x4820 0 0xFFFF) (puts 0 0 0xFFFF 0xFFFF) ≡ true)
    × (grows_at_first (puts 0 0x4820 1 0xFFFF) (puts 0 0x4820 0 0xFFFF) ≡ true)
    × (grows_at_first (puts 0 0x4401 0xFFFF 1) (puts 0 0 0xFFFF 0xFFFF) ≡ true)
    × (grows_at_first (puts 0 0x0020 1 0xFFFF) (puts 0 0 0xFFFF 0xFFFF) ≡ false)
    × (grows_at_first (puts 0 0x4020 2 0xFFFF) (puts 0 0 0xFFFF 0xFFFF) ≡ false)
    × (grows_at_first (puts 0 0x4820 1 0xFFFF) (puts 0 0 0xFFFF 0xFFFF) ≡ false)
    × (grows_at_first (puts 1 0x4020 1 0xFFFF) (puts 0 0 0xFFFF 0xFFFF) ≡ false)
    × (grows_at_first (puts 0 0x4001 0xFFFF 1) (puts 0 0 0xFFFF 0xFFFF) ≡ false)

-- an entry puts the deleted glyph in where that is among the glyphs that go in, all of which the list has
abbrev pub DeletedGoesIn : Type 0
DeletedGoesIn =
    (puts_deleted (record { 0 = 1 } ∷ record { 0 = 0xFFFF } ∷ []) (puts 0 0x0040 0 0xFFFF) ≡ true)
    × (puts_deleted (record { 0 = 1 } ∷ record { 0 = 0xFFFF } ∷ []) (puts 0 0x0001 0xFFFF 1) ≡ true)
    × (puts_deleted (record { 0 = 1 } ∷ record { 0 = 0xFFFF } ∷ []) (puts 0 0x0020 0 0xFFFF) ≡ false)
    × (puts_deleted (record { 0 = 1 } ∷ record { 0 = 0xFFFF } ∷ []) (puts 0 0x0060 0 0xFFFF) ≡ false)

-- an action reads the value at the sum of a glyph and its offset, which may be below 0; the last action stores too. As
-- many steps as 2^28 are not many
abbrev pub ValuesAreRead : Type 0
ValuesAreRead =
    (value_of (5 ∷ 6 ∷ 7 ∷ []) 0x40000001 1 ≡ Some 7)
    × (value_of (5 ∷ 6 ∷ 7 ∷ []) 0x3FFFFFFF 2 ≡ Some 6)
    × (value_of (5 ∷ 6 ∷ 7 ∷ []) 0x3FFFFFFF 0 ≡ None)
    × (value_of (5 ∷ 6 ∷ 7 ∷ []) 1 2 ≡ None)
    × (is_store 0x80000000 ≡ true)
    × (is_store 0x3FFFFFFF ≡ false)
    × (is_last 0x40000000 ≡ false)
    × (is_long 16384 16384 1 ≡ false)
    × (is_long 16384 16384 2 ≡ true)

-- a machine that holds glyph 1 in state 0, and in state 2 glyph 2, which it joins with it
abbrev pub example_ligatures : LigatureTables
example_ligatures = record {
  state = record {
    class_count = 6;
    classes = (1, 4) ∷ (2, 5) ∷ [];
    rules = (0, 4, to 2 0x8000) ∷ (2, 5, to 0 0xA000) ∷ [];
  };
  actions = 0 ∷ 0x80000000 ∷ [];
  components = 0 ∷ 1 ∷ 2 ∷ [];
  ligatures = record { 0 = 7 } ∷ record { 0 = 8 } ∷ record { 0 = 9 } ∷ record { 0 = 10 } ∷ record { 0 = 11 } ∷ [];
}

-- it makes ligature 3: the value of glyph 2 is 2, and that of glyph 1 is 1
abbrev pub LigaturesAreMade : Type 0
LigaturesAreMade = IsMade example_ligatures 3

-- the last action of a list hands no sum on
abbrev pub LastEnds : Type 0
LastEnds =
    (t : LigatureTables) (place action sum : ℕ) → slice_get t.actions place ≡ Some action → is_last action ≡ true
    → ComesTo t (suc place) sum → IsBegun t (suc place) sum
