-- One step of the loops of a ligature machine.
use Rattle.std.proofs.Common.{◌≡◌, zero, suc, ℕ, ◌+◌, ◌<◌, Bool, true, false, cond, ltb, ltb-true, ltb-false, List, length, get_or, set, Option, Some, None, refl, ap, sym, ◌∙◌, arith}
use Rattle.std.specs.Prelude.{slice_get, ℤ, pos, ◌+ℤ◌}
use Rattle.std.proofs.lemmas.Option.{slice_get_past, slice_get_read}
use Rattle.aat_buffer.specs.Buffer.{Buffer, Is16Bit, glyph_at, rewritten, with_line}
use Rattle.aat_glyph.specs.declared.glyph.hb_glyph_info_t.{hb_glyph_info_t}
use Rattle.aat_lookup.specs.declared.glyph_id.GlyphId.{GlyphId}
use Rattle.aat_machine_tables.specs.Actions.{value_of}
use Rattle.aat_machine_tables.specs.Subtables.{LigatureTables}
use Rattle.aat_run.specs.Context.{Moved}
use Rattle.aat_run.specs.inside.Places.{left_with}
use Rattle.aat_kinds.specs.Ligature.{Registers, Step, component, component_step, deleted, deleted_at, element_at, is_last, is_store, later_deleted, ligated, offset_of, stored, stored_by, summed, Stops, GoesOn}
use Rattle.aat_kinds.specs.inside.Taken.{all_taken, step_of, taken_by}

-- one more of the later components is deleted
pub later_more : (r : Registers) (c n m : ℕ) (line : List hb_glyph_info_t) → n ≡ m + 1 → later_deleted r c n line ≡ later_deleted r c m (deleted_at (component r (c + n)) line)
unfolding later_deleted
later_more r c zero m line next = absurd (omega arith)
later_more r c (suc n) m line next = let e : n ≡ m = omega arith in ap (λ x. later_deleted r c x (deleted_at (component r (c + suc n)) line)) e

-- none is left
pub later_none : (r : Registers) (c n : ℕ) (line : List hb_glyph_info_t) → n ≡ 0 → later_deleted r c n line ≡ line
unfolding later_deleted
later_none r c zero line none = refl
later_none r c (suc n) line none = absurd (omega arith)

-- the glyph at a place is written as a deleted one
pub deleted_there : (line : List hb_glyph_info_t) (i j : ℕ) (g h : hb_glyph_info_t) → i ≡ j → g ≡ glyph_at line i → h ≡ deleted g → set line i h ≡ deleted_at j line
deleted_there line i j g h place read wrote = ap (set line i) (wrote ∙ ap deleted read) ∙ ap (λ x. deleted_at x line) place

-- a deleted glyph keeps its cluster and its mask
pub deleted_kept : (line : List hb_glyph_info_t) (i : ℕ) (g h : hb_glyph_info_t) → g ≡ glyph_at line i → h ≡ deleted g → rewritten line i h ≡ h
deleted_kept line i g h read wrote = ap (rewritten line i) (wrote ∙ ap deleted read) ∙ sym (wrote ∙ ap deleted read)

-- deleting goes on, and comes to the same line
pub later_goes_on : (r : Registers) (c n m place most : ℕ) (line first : List hb_glyph_info_t) (g h : hb_glyph_info_t) → n ≡ m + 1 → place ≡ component r (c + n)
    → g ≡ glyph_at line place → h ≡ deleted g → later_deleted r c n line ≡ later_deleted r c most first
    → later_deleted r c m (set line place h) ≡ later_deleted r c most first
later_goes_on r c n m place most line first g h next is read wrote was =
    ap (later_deleted r c m) (deleted_there line place (component r (c + n)) g h is read wrote) ∙ (sym (later_more r c n m line next) ∙ was)

-- a buffer that differs by its line alone, with another line
pub line_put : (b d : Buffer) (gs : List hb_glyph_info_t) → d ≡ with_line b d.line → with_line d gs ≡ with_line b gs
line_put b d gs same = ap (λ (x : Buffer). with_line x gs) same

-- a deleted glyph has 16 bits
pub deleted_is_small : (g h : hb_glyph_info_t) → h ≡ deleted g → Is16Bit h
deleted_is_small g h wrote = rw wrote (omega arith)

module _ (actions values : List ℕ) (ligatures : List GlyphId) where
  goes_on_from : (left a sum more : ℕ) (n d : Moved Registers) → component_step actions values ligatures (slice_get actions a) left sum n ≡ GoesOn more d → ligated actions values ligatures (suc left) a sum n ≡ ligated actions values ligatures left (a + 1) more d
  unfolding ligated
  goes_on_from left a sum more n d goes = rw (goes, ligated) refl

  stops_from : (left a sum : ℕ) (n d : Moved Registers) → component_step actions values ligatures (slice_get actions a) left sum n ≡ Stops d → ligated actions values ligatures (suc left) a sum n ≡ d
  unfolding ligated
  stops_from left a sum n d stops = rw (stops, ligated) refl

  -- a component that goes on
  pub ligated_goes_on : (left rest a sum more : ℕ) (n d : Moved Registers) → left ≡ rest + 1 → component_step actions values ligatures (slice_get actions a) rest sum n ≡ GoesOn more d
      → ligated actions values ligatures left a sum n ≡ ligated actions values ligatures rest (a + 1) more d
  ligated_goes_on left rest a sum more n d next goes = let e : left ≡ suc rest = omega arith in rw e (goes_on_from rest a sum more n d goes)

  -- a component that stops
  pub ligated_stops : (left rest a sum : ℕ) (n d : Moved Registers) → left ≡ rest + 1 → component_step actions values ligatures (slice_get actions a) rest sum n ≡ Stops d → ligated actions values ligatures left a sum n ≡ d
  ligated_stops left rest a sum n d next stops = let e : left ≡ suc rest = omega arith in rw e (stops_from rest a sum n d stops)

  -- none is left
  pub ligated_none : (left a sum : ℕ) (n : Moved Registers) → left ≡ 0 → ligated actions values ligatures left a sum n ≡ record { registers = record n.registers { count = 0 }; buffer = n.buffer }
  unfolding ligated
  ligated_none zero a sum n none = refl
  ligated_none (suc left) a sum n none = absurd (omega arith)

-- over the act that takes all of the components of r in
module _ (t : LigatureTables) (first : ℕ) (r : Registers) (b : Buffer) where
  -- what is left to take, from so many components, by the action at place a
  abbrev left_to_take : ℕ → ℕ → ℕ → Registers → Buffer → Moved Registers
  left_to_take left a sum s d = ligated t.actions t.components t.ligatures left a sum (left_with s d)

  pub taken_more : (left rest a sum more : ℕ) (s v : Registers) (d e : Buffer) → left ≡ rest + 1 → step_of t a rest sum s d ≡ GoesOn more (left_with v e)
      → left_to_take left a sum s d ≡ all_taken t first r b → left_to_take rest (a + 1) more v e ≡ all_taken t first r b
  taken_more left rest a sum more s v d e next goes was =
      sym (ligated_goes_on t.actions t.components t.ligatures left rest a sum more (left_with s d) (left_with v e) next goes) ∙ was

  pub taken_stops : (left rest a sum : ℕ) (s v : Registers) (d e : Buffer) → left ≡ rest + 1 → step_of t a rest sum s d ≡ Stops (left_with v e)
      → left_to_take left a sum s d ≡ all_taken t first r b → left_with v e ≡ all_taken t first r b
  taken_stops left rest a sum s v d e next stops was =
      sym (ligated_stops t.actions t.components t.ligatures left rest a sum (left_with s d) (left_with v e) next stops) ∙ was

  pub taken_none : (left a sum : ℕ) (s v : Registers) (d : Buffer) → left ≡ 0 → v ≡ record s { count = 0 }
      → left_to_take left a sum s d ≡ all_taken t first r b → left_with v d ≡ all_taken t first r b
  taken_none left a sum s v d none is was =
      ap (λ (x : Registers). left_with x d) is ∙ (sym (ligated_none t.actions t.components t.ligatures left a sum (left_with s d) none) ∙ was)

-- an element that a look-up has found in a list, and one that it has not
pub found_in : {X : Type 0} (xs ys : List X) (i : ℕ) (x : X) → xs ≡ ys → true ≡ ltb i (length xs) → x ≡ get_or xs i x → slice_get ys i ≡ Some x
found_in {X} xs ys i x same inside read = ap (λ (zs : List X). slice_get zs i) (sym same) ∙ slice_get_read xs (length xs) i x refl (ltb-true i (length xs) (sym inside)) read

pub missing_in : {X : Type 0} (xs ys : List X) (i : ℕ) → xs ≡ ys → false ≡ ltb i (length xs) → slice_get ys i ≡ None
missing_in {X} xs ys i same outside = ap (λ (zs : List X). slice_get zs i) (sym same) ∙ slice_get_past xs i (ltb-false i (length xs) (sym outside))

-- one component, by what its action and its value are
module _ (t : LigatureTables) (c : ℕ) (r : Registers) (b : Buffer) where
  pub step_without_action : (place sum : ℕ) → slice_get t.actions place ≡ None → step_of t place c sum r b ≡ Stops (left_with r b)
  unfolding component_step
  step_without_action place sum none =
      ap (λ (o : Option ℕ). component_step t.actions t.components t.ligatures o c sum (left_with r b)) none

  pub step_without_value : (place sum a : ℕ) → slice_get t.actions place ≡ Some a → element_at t.components (pos (glyph_at b.line (component r c)).glyph_id +ℤ offset_of a) ≡ None
      → step_of t place c sum r b ≡ Stops (left_with r b)
  unfolding component_step
  step_without_value place sum a some none =
      ap (λ (o : Option ℕ). component_step t.actions t.components t.ligatures o c sum (left_with r b)) some
      ∙ ap (λ (o : Option ℕ). summed t.actions t.components t.ligatures a c sum o (left_with r b)) none

  pub step_with_value : (place sum a v w : ℕ) → slice_get t.actions place ≡ Some a → element_at t.components (pos (glyph_at b.line (component r c)).glyph_id +ℤ offset_of a) ≡ Some v → w ≡ v
      → step_of t place c sum r b ≡ taken_by t a c (sum + w) r b
  unfolding component_step
  step_with_value place sum a v w some value is =
      ap (λ (o : Option ℕ). component_step t.actions t.components t.ligatures o c sum (left_with r b)) some
      ∙ ap (λ (o : Option ℕ). summed t.actions t.components t.ligatures a c sum o (left_with r b)) value
      ∙ ap (λ (n : ℕ). taken_by t a c (sum + n) r b) (sym is)

  -- the value that was read for the glyph of the component
  pub value_read : (vs : List ℕ) (place a : ℕ) (g : hb_glyph_info_t) (v w : Option ℕ) → vs ≡ t.components → place ≡ component r c → g ≡ glyph_at b.line place → v ≡ value_of vs a g.glyph_id → v ≡ w
      → element_at t.components (pos (glyph_at b.line (component r c)).glyph_id +ℤ offset_of a) ≡ w
  value_read vs place a g v w same at read value is =
      ap (λ (xs : List ℕ). value_of xs a (glyph_at b.line (component r c)).glyph_id) (sym same)
      ∙ ap (λ (i : ℕ). value_of vs a (glyph_at b.line i).glyph_id) (sym at)
      ∙ ap (λ (h : hb_glyph_info_t). value_of vs a h.glyph_id) (sym read)
      ∙ sym value ∙ is

  -- by an action that stores
  module _ (a sum : ℕ) (stores : is_store a ≡ true) where
    taken_stores : (o : Option GlyphId) → slice_get t.ligatures sum ≡ o → taken_by t a c sum r b ≡ stored_by t.actions t.components t.ligatures a c sum o (left_with r b)
    taken_stores o is =
        ap (λ (s : Bool). cond s (stored_by t.actions t.components t.ligatures a c sum (slice_get t.ligatures sum) (left_with r b)) (GoesOn sum (left_with r b))) stores
        ∙ ap (λ (q : Option GlyphId). stored_by t.actions t.components t.ligatures a c sum q (left_with r b)) is

    pub taken_missing : slice_get t.ligatures sum ≡ None → taken_by t a c sum r b ≡ Stops (left_with r b)
    taken_missing none = taken_stores None none

    module _ (g : GlyphId) (some : slice_get t.ligatures sum ≡ Some g) (v : Registers) (d : Buffer) (held : v ≡ record r { count = c + 1 }) (left : d ≡ (stored c g.0 r b).buffer) where
      left_stored : stored c g.0 r b ≡ left_with v d
      unfolding stored
      left_stored = ap (λ (x : Registers). left_with x (stored c g.0 r b).buffer) (sym held) ∙ ap (λ (x : Buffer). left_with v x) (sym left)

      pub taken_last : is_last a ≡ true → taken_by t a c sum r b ≡ Stops (left_with v d)
      taken_last last =
          taken_stores (Some g) some
          ∙ ap (λ (s : Bool). cond s (Stops (stored c g.0 r b)) (GoesOn sum (stored c g.0 r b))) last
          ∙ ap (λ (n : Moved Registers). Stops n) left_stored

      pub taken_further : is_last a ≡ false → taken_by t a c sum r b ≡ GoesOn sum (left_with v d)
      taken_further more =
          taken_stores (Some g) some
          ∙ ap (λ (s : Bool). cond s (Stops (stored c g.0 r b)) (GoesOn sum (stored c g.0 r b))) more
          ∙ ap (λ (n : Moved Registers). GoesOn sum n) left_stored
