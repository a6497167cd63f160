-- Rules of insertion that are told.
use Rattle.std.proofs.Common.{◌≡◌, ℕ, zero, suc, ◌&&◌, ◌||◌, Bool, true, false, List, Option, None, Some, ap, ◌∙◌, refl}
use Rattle.std.specs.List.{filter}
use Rattle.aat_lookup.specs.Truth.{is_some_and}
use Rattle.aat_lookup.specs.declared.glyph_id.GlyphId.{GlyphId}
use Rattle.aat_machine_tables.specs.Table.{Rule, TableValue, entry_of}
use Rattle.aat_findings.specs.Growth.{Entry, IsInserting, class_behind, is_cell, is_inserting, leads_by, leads_to, stays_at}
use Rattle.aat_findings.specs.Reached.{ArePicked}
use Rattle.aat_findings.specs.inside.Growing.{is_told}
use Rattle.aat_findings.specs.declared.growth.InsertionKind.{InsertionKind}
use Rattle.aat_findings.specs.inside.Marks.{AreReachMarks, is_marked}
use Rattle.aat_findings.proofs.Naming.{and_both, and_first, and_second}

-- the rules of marked states that are of a kind are those of reached ones
pub inserting_of : (table : TableValue Entry) (glyphs : List GlyphId) (marks : List ℕ) (kind : InsertionKind)
    → AreReachMarks table marks → (rules : List (Rule Entry))
    → rules ≡ filter (is_told table glyphs marks kind) table.rules
    → ArePicked (IsInserting table glyphs kind) table.rules rules
inserting_of table glyphs marks kind are rules is = record {
  test = is_told table glyphs marks kind;
  sound = λ r passes. record {
    reached = are.sound r.0 (and_first (is_marked marks r.0) (is_inserting table glyphs kind r) passes);
    told = and_second (is_marked marks r.0) (is_inserting table glyphs kind r) passes;
  };
  each = λ r is. and_both (is_marked marks r.0) (is_inserting table glyphs kind r) (are.each r.0 is.reached) is.told;
  filtered = is;
}

module _ (table : TableValue Entry) (glyphs : List GlyphId) (end : ℕ × ℕ) (turns state class : ℕ) where
  step : leads_to table glyphs end (suc turns) (state, class)
      ≡ is_some_and (entry_of table state class) (leads_by table glyphs end (leads_to table glyphs end turns) class)
  unfolding leads_to
  step = refl

  -- without an entry nothing is reached
  pub leads_nowhere : entry_of table state class ≡ None → leads_to table glyphs end (suc turns) (state, class) ≡ false
  leads_nowhere none =
      step ∙ ap (λ (o : Option Entry). is_some_and o (leads_by table glyphs end (leads_to table glyphs end turns) class)) none

  module _ (e : Entry) (is : entry_of table state class ≡ Some e) where
    by_entry : leads_to table glyphs end (suc turns) (state, class)
        ≡ leads_by table glyphs end (leads_to table glyphs end turns) class e
    by_entry =
        step ∙ ap (λ (o : Option Entry). is_some_and o (leads_by table glyphs end (leads_to table glyphs end turns) class)) is

    abbrev after : ℕ × ℕ
    after = (e.new_state, class_behind table glyphs e class)

    -- nor by an entry that advances
    pub leads_off : stays_at glyphs e ≡ false → leads_to table glyphs end (suc turns) (state, class) ≡ false
    leads_off off = by_entry ∙ ap (λ (b : Bool). b && (is_cell end after.0 after.1 || leads_to table glyphs end turns after)) off

    -- one that stays leads to the end
    pub leads_there : stays_at glyphs e ≡ true → is_cell end after.0 after.1 ≡ true
        → leads_to table glyphs end (suc turns) (state, class) ≡ true
    leads_there on there =
        by_entry ∙ ap (λ (b : Bool). b && (is_cell end after.0 after.1 || leads_to table glyphs end turns after)) on ∙ ap (λ (b : Bool). b || leads_to table glyphs end turns after) there

    -- or on
    pub leads_on : stays_at glyphs e ≡ true → is_cell end after.0 after.1 ≡ false
        → leads_to table glyphs end (suc turns) (state, class) ≡ leads_to table glyphs end turns after
    leads_on on other =
        by_entry ∙ ap (λ (b : Bool). b && (is_cell end after.0 after.1 || leads_to table glyphs end turns after)) on ∙ ap (λ (b : Bool). b || leads_to table glyphs end turns after) other

-- within no turns nothing is reached
pub leads_never : (table : TableValue Entry) (glyphs : List GlyphId) (end cell : ℕ × ℕ)
    → leads_to table glyphs end zero cell ≡ false
unfolding leads_to
leads_never table glyphs end cell = refl
