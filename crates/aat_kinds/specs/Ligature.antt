-- The ligature act. TrueType Reference Manual: The 'morx' table, ligatures.
use Rattle.std.specs.Prelude.{◌≡◌, ◌≢◌, ◌≤◌, zero, suc, ℕ, ◌+◌, ◌-◌, ◌%◌, ◌==◌, ◌&&◌, ◌<◌, IsTrue, Bool, false, nat_lt, bit_or, ℤ, pos, ◌+ℤ◌, List, length, replicate, slice_get, slice_set, slice_index, Option, Some, None, if◌then◌else◌}
use Rattle.aat_buffer.specs.Buffer.{Buffer, glyph_at}
use Rattle.aat_buffer.specs.Marks.{merge_out_clusters, with_line}
use Rattle.aat_buffer.specs.Removal.{is_deleted}
use Rattle.aat_glyph.specs.declared.glyph.hb_glyph_info_t.{hb_glyph_info_t}
use Rattle.aat_lookup.specs.declared.glyph_id.GlyphId.{GlyphId}
use Rattle.aat_machine_tables.specs.declared.state_table.GenericStateEntry.{GenericStateEntry}
use Rattle.aat_machine_tables.specs.Entries.{has_flag, goes_on}
use Rattle.aat_run.specs.Context.{Context, Moved}
pub use Rattle.aat_machine_tables.specs.Actions.{element_at, is_last, is_store, offset_of}

-- how many components are held, and the slots that hold their places
pub record Registers : Type 0 where
  pub count : ℕ
  pub slots : List ℕ

abbrev pub fresh : ℕ → Registers
fresh size = record { count = 0; slots = replicate size 0 }

-- component j stands in slot j mod N
abbrev pub component : Registers → ℕ → ℕ
component r j = slice_index r.slots (j % length r.slots)

abbrev pub actionable : GenericStateEntry ℕ → Registers → ℕ → ℕ → Bool
actionable e r p n = has_flag e 0x2000

-- the place p becomes the newest component, unless it is that already
abbrev pub with_place_held : Registers → ℕ → Registers
with_place_held r p =
    if nat_lt 0 r.count && (component r (r.count - 1) == p) then r
    else record { count = r.count + 1; slots = slice_set r.slots (r.count % length r.slots) p }

abbrev pub with_component : GenericStateEntry ℕ → Registers → ℕ → Registers
with_component e r p = if has_flag e 0x8000 then with_place_held r p else r

-- the registers fit where there is a slot, and each slot that holds a component has a place of the line
pub record IsFit (r : Registers) (p n : ℕ) : Type 0 where
  pub some : 0 < length r.slots
  pub within : (j : ℕ) → j < r.count → component r j < n

-- a component that went into a ligature: deleted and ignorable
abbrev pub deleted : hb_glyph_info_t → hb_glyph_info_t
deleted g = record g { glyph_id = 0xFFFF; unicode_props = bit_or g.unicode_props 0x20 }

abbrev pub deleted_at : ℕ → List hb_glyph_info_t → List hb_glyph_info_t
deleted_at i line = slice_set line i (deleted (glyph_at line i))

-- the n components behind component c, deleted from the newest down
unfoldable pub later_deleted : Registers → ℕ → ℕ → List hb_glyph_info_t → List hb_glyph_info_t
later_deleted r c zero line = line
later_deleted r c (suc n) line = later_deleted r c n (deleted_at (component r (c + suc n)) line)

-- the glyph at a place becomes another, with its props as they were
abbrev pub with_ligature : ℕ → ℕ → List hb_glyph_info_t → List hb_glyph_info_t
with_ligature i g line = slice_set line i (record (glyph_at line i) { glyph_id = g })

-- a ligature is stored at component c: the later components are deleted, and what lies from it through the newest
-- component merges
unfoldable pub stored : ℕ → ℕ → Registers → Buffer → Moved Registers
stored c g r b =
    let u = component r c in
    let e = component r (r.count - 1) + 1 in
    let d = with_line b (later_deleted r c (r.count - 1 - c) (with_ligature u g b.line)) in
    record { registers = record r { count = c + 1 }; buffer = if nat_lt u e then merge_out_clusters d u e else d }

-- what one component leaves: the act stops, or goes on with the sum
pub data Step : Type 0 where
  Stops : Moved Registers → Step
  GoesOn : ℕ → Moved Registers → Step

-- over the actions, the component values and the ligatures of the subtable
module _ (actions : List ℕ) (values : List ℕ) (ligatures : List GlyphId) where
  -- a store whose ligature is missing stops; the last action stops behind its store
  abbrev pub stored_by : ℕ → ℕ → ℕ → Option GlyphId → Moved Registers → Step
  stored_by action c sum None n = Stops n
  stored_by action c sum (Some g) n =
      if is_last action then Stops (stored c g.0 n.registers n.buffer)
      else GoesOn sum (stored c g.0 n.registers n.buffer)

  abbrev pub summed : ℕ → ℕ → ℕ → Option ℕ → Moved Registers → Step
  summed action c sum None n = Stops n
  summed action c sum (Some value) n =
      if is_store action
      then stored_by action c (sum + value) (slice_get ligatures (sum + value)) n
      else GoesOn (sum + value) n

  -- one component by its action: the value for its glyph is added to the sum. A missing action or value stops
  unfoldable pub component_step : Option ℕ → ℕ → ℕ → Moved Registers → Step
  component_step None c sum n = Stops n
  component_step (Some action) c sum n =
      let glyph = glyph_at n.buffer.line (component n.registers c) in
      summed action c sum (element_at values (pos glyph.glyph_id +ℤ offset_of action)) n

  -- the c oldest components from the newest of them down, each by the next action; where none is left, none is held any
  -- more
  unfoldable pub ligated : ℕ → ℕ → ℕ → Moved Registers → Moved Registers
  ligated zero a sum n = record n { registers = record n.registers { count = 0 } }
  ligated (suc c) a sum n =
      elim (component_step (slice_get actions a) c sum n) [ Stops d ↦ d | GoesOn more d ↦ ligated c (a + 1) more d ]

  -- how many components there are through the one that becomes the last ligature; all of them, where none does
  unfoldable pub through_last : ℕ → ℕ → ℕ → Moved Registers → ℕ
  through_last zero a sum n = n.registers.count
  through_last (suc c) a sum n =
      let t = component_step (slice_get actions a) c sum n in
      elim t [ Stops d ↦ d.registers.count | GoesOn more d ↦ through_last c (a + 1) more d ]

  -- the act of an entry: 0x8000 holds the cursor as a component, 0x2000 takes the components in
  unfoldable pub act : GenericStateEntry ℕ → Registers → Buffer → Moved Registers
  act e r b =
      let s = with_component e r b.cursor in
      if has_flag e 0x2000 && nat_lt b.cursor (length b.line)
      then ligated s.count e.extra 0 (record { registers = s; buffer = b })
      else record { registers = s; buffer = b }

  -- the same of the act of an entry
  abbrev pub through_last_of : GenericStateEntry ℕ → Registers → Buffer → ℕ
  through_last_of e r b =
      let s = with_component e r b.cursor in
      if has_flag e 0x2000 && nat_lt b.cursor (length b.line)
      then through_last s.count e.extra 0 (record { registers = s; buffer = b })
      else s.count

  abbrev pub context : ℕ → Context Registers (GenericStateEntry ℕ)
  context size = record { fresh = fresh size; in_place = false; advances = goes_on; actionable = actionable; act = act }

-- what a context holds: the actions, component values and ligatures of its subtable, and the registers
pub record Held : Type 0 where
  pub actions : List ℕ
  pub components : List ℕ
  pub ligatures : List GlyphId
  pub registers : Registers

abbrev pub held_actionable : GenericStateEntry ℕ → Held → ℕ → ℕ → Bool
held_actionable e h p n = actionable e h.registers p n

-- the act of an entry over what a context holds
abbrev pub held_act : GenericStateEntry ℕ → Held → Buffer → Moved Held
held_act e h b =
    let n = act h.actions h.components h.ligatures e h.registers b in
    record { registers = record h { registers = n.registers }; buffer = n.buffer }

-- each component behind the last ligature of an act is the deleted glyph on a line, unless it has the same place as the
-- component that became that ligature
abbrev pub DeletesLater : GenericStateEntry ℕ → Held → Buffer → List hb_glyph_info_t → Type 0
DeletesLater e h b line =
    let s = with_component e h.registers b.cursor in
    let n = through_last_of h.actions h.components h.ligatures e h.registers b in
    (j : ℕ) → n ≤ j → j < s.count → component s j ≢ component s (n - 1)
    → IsTrue (is_deleted (glyph_at line (component s j)))

-- no component is held, with which a run starts, and there is a slot
pub record IsHeldFresh (h : Held) : Type 0 where
  pub none : h.registers.count ≡ 0
  pub some : 0 < length h.registers.slots

-- what a context holds fits where its registers do, no more components are held than glyphs stand before the cursor and
-- one at it, and where there are as many, the newest is the cursor
pub record IsHeldFit (h : Held) (p n : ℕ) : Type 0 where
  pub fit : IsFit h.registers p n
  pub few : h.registers.count ≤ p + 1
  pub newest : p < h.registers.count → component h.registers (h.registers.count - 1) ≡ p
