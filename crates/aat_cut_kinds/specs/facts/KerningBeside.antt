-- A part of a line that stands at a place of the whole: what writes of positions, payments and marks keep of it.
use Rattle.std.proofs.Common.{◌≡◌, ◌∙◌, ◌⊎◌, inl, inr, ℕ, ◌+◌, ◌<◌, ◌≤◌, ◌==◌, not, Bool, true, false, cond, List, [], ◌∷◌, ◌++◌, length, take, drop, map, nat_le, bit_and, bit_or, Option, refl, ap, sym, arith, get_or, length-set, get_or-set_same, get_or-set_other}
use Rattle.std.proofs.lemmas.Bool.{cases_eq}
use Rattle.std.proofs.lemmas.Bool.Decides.{nat_tests}
use Rattle.std.proofs.lemmas.List.{map-append, take-append-drop}
use Rattle.std.proofs.lemmas.List.Folds.{drop_split}
use Rattle.std.proofs.lemmas.Nat.Bits.{bit_at_and, bit_at_or, bit_at-zero, same_from_bits}
use Rattle.std.specs.Int.{bit_at}
use Rattle.std.specs.Prelude.{slice_range}
use Rattle.aat_buffer.specs.Buffer.{Buffer, glyph_at, no_glyph, position_at, position_list, with_line, with_position, zero_position}
use Rattle.aat_buffer.specs.Marks.{break_marked, end_place, least_of, marked_above, on_long_span, on_span, start_place, unsafe_to_break, with_mask_bits}
use Rattle.aat_buffer.specs.facts.Cases.{either}
use Rattle.aat_buffer.specs.facts.Lines.{length_unsafe}
use Rattle.aat_glyph.specs.declared.glyph.GlyphPosition.{GlyphPosition}
use Rattle.aat_glyph.specs.declared.glyph.hb_glyph_info_t.{hb_glyph_info_t}
use Rattle.aat_run.specs.Budget.{paid}
use Rattle.aat_run.specs.Machine.{passed}
use Rattle.aat_run.specs.Switches.{meets}
use Rattle.aat_kerning_machines.specs.Positions.{with_attachment_flag}
use Rattle.std.proofs.Math.ListN.{get_or-map}
use Rattle.aat_cut_kinds.specs.KerningCuts.{seen_of}

-- The n glyphs of a part stand at place `at` of a line of `long` glyphs, alike in what kerning sees and in their
-- positions; round them the positions are those of an older buffer.
pub record Beside (kern_mask at n long : ℕ) (origin w p : Buffer) : Type 0 where
  pub direction : w.direction ≡ p.direction
  pub cursor : w.cursor ≡ at + p.cursor
  pub room : at + n ≤ long
  pub line : length w.line ≡ long
  pub line_of_part : length p.line ≡ n
  pub placed : length (position_list w) ≡ long
  pub placed_part : length (position_list p) ≡ n
  pub glyphs : (i : ℕ) → i < n → seen_of kern_mask (glyph_at w.line (at + i)) ≡ seen_of kern_mask (glyph_at p.line i)
  pub positions : (i : ℕ) → i < n → position_at w (at + i) ≡ position_at p i
  pub outside : (j : ℕ) → (j < at) ⊎ (at + n ≤ j) → position_at w j ≡ position_at origin j
  pub kept : (j : ℕ) → seen_of kern_mask (glyph_at w.line j) ≡ seen_of kern_mask (glyph_at origin.line j)
  pub turned : w.direction ≡ origin.direction

-- a position that is written, and those round it
at_write : (b : Buffer) (i j : ℕ) (x : GlyphPosition) → i < length (position_list b) → i ≡ j → position_at (with_position b i x) j ≡ x
at_write b i j x inside same = ap (λ k. position_at (with_position b i x) k) (sym same) ∙ get_or-set_same (position_list b) i x zero_position inside

off_write : (b : Buffer) (i j : ℕ) (x : GlyphPosition) → (j ≡ i → ⊥) → position_at (with_position b i x) j ≡ position_at b j
off_write b i j x apart = get_or-set_other (position_list b) i j x zero_position apart

module _ (kern_mask at n long : ℕ) (origin : Buffer) where
  Same : Buffer → Buffer → Type 0
  Same w p = Beside kern_mask at n long origin w p

  -- the same position is written of a glyph of the part, and of that glyph in the whole
  pub beside_write :
      (w p : Buffer) (i : ℕ) (x y : GlyphPosition) → i < n → x ≡ y → Beside kern_mask at n long origin w p
      → Beside kern_mask at n long origin (with_position w (at + i) x) (with_position p i y)
  beside_write w p i x y below same h = record {
    direction = h.direction;
    cursor = h.cursor;
    room = h.room;
    line = h.line;
    line_of_part = h.line_of_part;
    placed = length-set (position_list w) (at + i) x ∙ h.placed;
    placed_part = length-set (position_list p) i y ∙ h.placed_part;
    glyphs = h.glyphs;
    positions = λ j inside. at_place j inside (cases_eq i j);
    outside = λ j apart. off_write w (at + i) j x (λ e. clash j apart e) ∙ h.outside j apart;
    kept = h.kept;
    turned = h.turned;
  }
    where
      inside_whole : at + i < length (position_list w)
      inside_whole = omega (arith, h.placed, h.room, below)

      inside_part : i < length (position_list p)
      inside_part = omega (arith, h.placed_part, below)

      at_place : (j : ℕ) → j < n → (i ≡ j) ⊎ (i ≡ j → ⊥) → position_at (with_position w (at + i) x) (at + j) ≡ position_at (with_position p i y) j
      at_place j inside (inl e) = at_write w (at + i) (at + j) x inside_whole (omega (arith, e)) ∙ (same ∙ sym (at_write p i j y inside_part e))
      at_place j inside (inr ne) =
          off_write w (at + i) (at + j) x (λ e. ne (omega (arith, e))) ∙ (h.positions j inside ∙ sym (off_write p i j y (λ e. ne (sym e))))

      clash : (j : ℕ) → (j < at) ⊎ (at + n ≤ j) → j ≡ at + i → ⊥
      clash j (inl low) e = omega (arith, low, e)
      clash j (inr high) e = omega (arith, high, e, below)

  pub beside_attached : (w p : Buffer) → Beside kern_mask at n long origin w p → Beside kern_mask at n long origin (with_attachment_flag w) (with_attachment_flag p)
  beside_attached w p h = record { direction = h.direction; cursor = h.cursor; room = h.room; line = h.line; line_of_part = h.line_of_part; placed = h.placed; placed_part = h.placed_part; glyphs = h.glyphs; positions = h.positions; outside = h.outside; kept = h.kept; turned = h.turned }

  pub beside_paid_before : (w p : Buffer) → Beside kern_mask at n long origin w p → Beside kern_mask at n long origin (paid 1 w) p
  beside_paid_before w p h = record { direction = h.direction; cursor = h.cursor; room = h.room; line = h.line; line_of_part = h.line_of_part; placed = h.placed; placed_part = h.placed_part; glyphs = h.glyphs; positions = h.positions; outside = h.outside; kept = h.kept; turned = h.turned }

  pub beside_paid : (w p : Buffer) → Beside kern_mask at n long origin w p → Beside kern_mask at n long origin (paid 1 w) (paid 1 p)
  beside_paid w p h = record { direction = h.direction; cursor = h.cursor; room = h.room; line = h.line; line_of_part = h.line_of_part; placed = h.placed; placed_part = h.placed_part; glyphs = h.glyphs; positions = h.positions; outside = h.outside; kept = h.kept; turned = h.turned }

  pub beside_passed : (w p : Buffer) → Beside kern_mask at n long origin w p → Beside kern_mask at n long origin (passed w) (passed p)
  beside_passed w p h = record { direction = h.direction; cursor = omega (arith, h.cursor); room = h.room; line = h.line; line_of_part = h.line_of_part; placed = h.placed; placed_part = h.placed_part; glyphs = h.glyphs; positions = h.positions; outside = h.outside; kept = h.kept; turned = h.turned }

-- a buffer is another one but for masks that kerning does not ask
pub record IsMarked (kern_mask : ℕ) (old new : Buffer) : Type 0 where
  pub rest : new ≡ with_line old new.line
  pub glyphs : map (seen_of kern_mask) new.line ≡ map (seen_of kern_mask) old.line
  pub long : length new.line ≡ length old.line

pub unmarked : (kern_mask : ℕ) (b : Buffer) → IsMarked kern_mask b b
unmarked kern_mask b = record { rest = refl; glyphs = refl; long = refl }

pub marked_then : (kern_mask : ℕ) (a b c : Buffer) → IsMarked kern_mask a b → IsMarked kern_mask b c → IsMarked kern_mask a c
marked_then kern_mask a b c g h = record {
  rest = h.rest ∙ ap (λ (x : Buffer). with_line x c.line) g.rest;
  glyphs = h.glyphs ∙ g.glyphs;
  long = h.long ∙ g.long;
}

-- lines that are alike have alike glyphs at each place
pub same_at : (kern_mask : ℕ) (gs hs : List hb_glyph_info_t) (k : ℕ) → map (seen_of kern_mask) gs ≡ map (seen_of kern_mask) hs → seen_of kern_mask (glyph_at gs k) ≡ seen_of kern_mask (glyph_at hs k)
same_at kern_mask gs hs k same = sym (get_or-map (seen_of kern_mask) gs k no_glyph) ∙ (ap (λ xs. get_or xs k (seen_of kern_mask no_glyph)) same ∙ get_or-map (seen_of kern_mask) hs k no_glyph)

-- marks on both keep a part beside the whole
pub beside_marked :
    (kern_mask at n long : ℕ) (origin w p v u : Buffer) → IsMarked kern_mask w v → IsMarked kern_mask p u
    → Beside kern_mask at n long origin w p → Beside kern_mask at n long origin v u
beside_marked kern_mask at n long origin w p v u whole part h = record {
  direction = ap (λ (x : Buffer). x.direction) whole.rest ∙ (h.direction ∙ sym (ap (λ (x : Buffer). x.direction) part.rest));
  cursor = (let a : v.cursor ≡ w.cursor = ap (λ (x : Buffer). x.cursor) whole.rest in let b : u.cursor ≡ p.cursor = ap (λ (x : Buffer). x.cursor) part.rest in omega (arith, a, b, h.cursor));
  room = h.room;
  line = whole.long ∙ h.line;
  line_of_part = part.long ∙ h.line_of_part;
  placed = ap (λ (x : Buffer). length (position_list x)) whole.rest ∙ h.placed;
  placed_part = ap (λ (x : Buffer). length (position_list x)) part.rest ∙ h.placed_part;
  glyphs = λ i inside. same_at kern_mask v.line w.line (at + i) whole.glyphs ∙ (h.glyphs i inside ∙ sym (same_at kern_mask u.line p.line i part.glyphs));
  positions = λ i inside. ap (λ (x : Buffer). position_at x (at + i)) whole.rest ∙ (h.positions i inside ∙ sym (ap (λ (x : Buffer). position_at x i) part.rest));
  outside = λ j apart. ap (λ (x : Buffer). position_at x j) whole.rest ∙ h.outside j apart;
  kept = λ j. same_at kern_mask v.line w.line j whole.glyphs ∙ h.kept j;
  turned = ap (λ (x : Buffer). x.direction) whole.rest ∙ h.turned;
}

-- marks change masks alone, and not what a kern mask without glyph flags meets
module _ (kern_mask : ℕ) (free : bit_and kern_mask 7 ≡ 0) where
  meets_as_before : (m : ℕ) → meets (bit_or m 3) kern_mask ≡ meets m kern_mask
  meets_as_before m = ap (λ k. not (k == 0)) (same_from_bits (bit_and (bit_or m 3) kern_mask) (bit_and m kern_mask) bits)
    where
      bits : (i : ℕ) → bit_at (bit_and (bit_or m 3) kern_mask) i ≡ bit_at (bit_and m kern_mask) i
      bits i =
          let seven : bit_at (bit_or 3 7) i ≡ bit_at 7 i = refl in
          let none : bit_at (bit_and kern_mask 7) i ≡ bit_at 0 i = ap (λ n. bit_at n i) free in
          omega (arith, seven, none, bit_at_or 3 7 i, bit_at_and kern_mask 7 i, bit_at-zero i, bit_at_and (bit_or m 3) kern_mask i, bit_at_or m 3 i, bit_at_and m kern_mask i)

  seen_marked : (least : ℕ) (g : hb_glyph_info_t) → seen_of kern_mask (marked_above least 3 g) ≡ seen_of kern_mask g
  seen_marked least g =
      either (seen_of kern_mask) (g.cluster == least) g (with_mask_bits 3 g) (seen_of kern_mask g) refl
      (ap (λ (t : Bool). record { id = g.glyph_id; glyph_props = g.glyph_props; unicode_props = g.unicode_props; asked = t }) (meets_as_before g.mask))

  of_glyphs : (least : ℕ) (gs : List hb_glyph_info_t) → map (seen_of kern_mask) (map (marked_above least 3) gs) ≡ map (seen_of kern_mask) gs
  of_glyphs least [] = refl
  of_glyphs least (g ∷ gs) = rw (seen_marked least g, of_glyphs least gs) refl

  of_span : (i j : ℕ) (gs : List hb_glyph_info_t) → i ≤ j → map (seen_of kern_mask) (on_span break_marked i j gs) ≡ map (seen_of kern_mask) gs
  of_span i j gs low =
      let f = seen_of kern_mask in
      let span = slice_range gs i j in
      let whole : gs ≡ take i gs ++ (span ++ drop j gs) = sym (take-append-drop i gs) ∙ ap (λ t. take i gs ++ t) (drop_split gs i j low) in
      let left : map f (on_span break_marked i j gs) ≡ map f (take i gs) ++ (map f (break_marked span) ++ map f (drop j gs)) =
      map-append f (take i gs) (break_marked span ++ drop j gs) ∙ ap (λ t. map f (take i gs) ++ t) (map-append f (break_marked span) (drop j gs)) in
      let right : map f (take i gs ++ (span ++ drop j gs)) ≡ map f (take i gs) ++ (map f span ++ map f (drop j gs)) =
      map-append f (take i gs) (span ++ drop j gs) ∙ ap (λ t. map f (take i gs) ++ t) (map-append f span (drop j gs)) in
      left ∙ (ap (λ t. map f (take i gs) ++ (t ++ map f (drop j gs))) (of_glyphs (least_of span) span) ∙ (sym right ∙ ap (map f) (sym whole)))

  of_long_span : (i j : ℕ) (gs : List hb_glyph_info_t) → map (seen_of kern_mask) (on_long_span break_marked i j gs) ≡ map (seen_of kern_mask) gs
  of_long_span i j gs = by_length (nat_le (i + 2) j) refl
    where
      by_length : (t : Bool) → nat_le (i + 2) j ≡ t → map (seen_of kern_mask) (cond t (on_span break_marked i j gs) gs) ≡ map (seen_of kern_mask) gs
      by_length true is = of_span i j gs (grind (arith, nat_tests, is))
      by_length false is = refl

  pub marks_are_blind : (b : Buffer) (start end : Option ℕ) → IsMarked kern_mask b (unsafe_to_break b start end)
  marks_are_blind b start end = record {
    rest = refl;
    glyphs = of_long_span (start_place start) (end_place end (length b.line)) b.line;
    long = length_unsafe b start end;
  }
