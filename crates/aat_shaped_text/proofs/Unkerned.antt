-- A text that nothing kerns is left as it is, and each place of it is open.
use Rattle.std.proofs.Common.{◌≡◌, ◌∙◌, ap, refl, sym, true≢false, ℕ, ◌&&◌, Bool, true, false, cond, is_some, List, [], ◌∷◌, map, length, not, reverse}
use Rattle.std.proofs.lemmas.Bool.{and_parts, or_parts}
use Rattle.std.proofs.lemmas.List.{reverse-reverse}
use Rattle.std.specs.List.{list_any}
use Rattle.std.specs.Prelude.{None, Option, Some, is_none, option_map}
use Rattle.aat_buffer.specs.Buffer.{Buffer, position_list, reversed}
use Rattle.aat_cut_kinds.specs.KernedTables.{KernedSubtable, by_kern, by_kerx, of_kern, runs_over, turned_where}
use Rattle.aat_cut_kinds.specs.KerningCuts.{KernedRun, kerned_by_all}
use Rattle.aat_cut_kinds.specs.facts.KernedTables.{kern_same}
use Rattle.aat_font.specs.Face.{advance_of, kern_in, kerx_in, tables_of}
use Rattle.aat_font.specs.declared.face.hb_font_t.{hb_font_t}
use Rattle.aat_font.specs.declared.plan.Feature.{Feature}
use Rattle.aat_glyph.specs.Directions.{is_backward, is_horizontal}
use Rattle.aat_glyph.specs.declared.glyph.Direction.{Direction}
use Rattle.aat_glyph.specs.declared.glyph.GlyphPosition.{GlyphPosition}
use Rattle.aat_glyph.specs.declared.glyph.hb_glyph_info_t.{hb_glyph_info_t}
use Rattle.aat_kerning.specs.Cut.{ordered_line, ordered_positions}
use Rattle.aat_kerning.specs.Positioning.{is_for_direction, kern_positioning, kerning_of_kern_subtable, kerx_positioning}
use Rattle.aat_kerning_tables.specs.declared.kern.KernSubtable.{KernSubtable}
use Rattle.aat_layout.specs.Shaping.{advanced, with_advances}
use Rattle.aat_shaped_text.specs.Breaks.{is_unchained, kerns_apart, kerns_by_pairs}
use Rattle.aat_shaped_text.specs.KernedBreaks.{kerning_opens, read_place}
use Rattle.aat_shaped_text.specs.ShapedText.{text_kerning}
use Rattle.aat_shaped_text.specs.TextFeatures.{requests_kerning}
use Rattle.aat_shaped_text.specs.Unkerned.{is_unkerned}
use Rattle.aat_shaped_text.proofs.KernedApart.{Plain, plain_reverse}
use Rattle.aat_shaped_text.proofs.KernsApart.{some_by_kern}
use Rattle.aat_shaped_text.proofs.Texts.{plain_unchained}

some_none : {X : Type 0} (o : Option X) → is_none o ≡ true → is_some o ≡ false
some_none None is = refl
some_none (Some x) is = absurd (true≢false (sym is))

not_true : (t : Bool) → not t ≡ true → t ≡ false
not_true true is = absurd (true≢false (sym is))
not_true false is = refl

left_out : {X : Type 0} (t : Bool) (x rest : X) → t ≡ false → cond t x rest ≡ rest
left_out true x rest is = absurd (true≢false is)
left_out false x rest is = refl

-- subtables that are not for texts of a direction do not run
none_runs : (requested : Bool) (d : Direction) (is_attached : Bool) (ss : List KernSubtable)
    → list_any (λ s. is_for_direction (kerning_of_kern_subtable 8 s) d) ss ≡ false
    → runs_over requested d is_attached (map (of_kern 8) ss) ≡ []
none_runs requested d is_attached [] none = refl
none_runs requested d is_attached (s ∷ ss) none =
    let both =
    or_parts (is_for_direction (kerning_of_kern_subtable 8 s) d) (list_any (λ s. is_for_direction (kerning_of_kern_subtable 8 s) d) ss) none in
    left_out (is_for_direction (kerning_of_kern_subtable 8 s) d) _ (runs_over requested d is_attached (map (of_kern 8) ss)) both.0
    ∙ none_runs requested d is_attached ss both.1

twice : (o : Option (List GlyphPosition)) → option_map (λ qs. reverse qs) (option_map (λ qs. reverse qs) o) ≡ o
twice None = refl
twice (Some qs) = ap Some (reverse-reverse qs)

reversed_twice : (b : Buffer) → reversed (reversed b) ≡ b
reversed_twice b =
    ap (λ gs. record b { line = gs; positions = option_map reverse (option_map reverse b.positions) }) (reverse-reverse b.line)
    ∙ ap (λ (o : Option (List GlyphPosition)). record b { positions = o }) (twice b.positions)

left_by_none : (t : Bool) (b : Buffer) → (turned_where t (kerned_by_all [])).left b ≡ b
left_by_none true b = reversed_twice b
left_by_none false b = refl

open_to_none : (t : Bool) (q : ℕ) (b : Buffer) → (turned_where t (kerned_by_all [])).opens q b ≡ true
open_to_none true q b = refl
open_to_none false q b = refl

advances_plain : (h : Bool) (f : hb_glyph_info_t → ℕ) (gs : List hb_glyph_info_t) → Plain (map (λ g. advanced h (f g)) gs)
advances_plain h f [] = tt
advances_plain true f (g ∷ gs) = (refl, advances_plain true f gs)
advances_plain false f (g ∷ gs) = (refl, advances_plain false f gs)

module _ (face : hb_font_t) (d : Direction) (features : List Feature) (unkerned : is_unkerned face d ≡ true) where
  abbrev kerns : List KernSubtable
  kerns = kern_in (tables_of face).kern

  abbrev requested : Bool
  requested = requests_kerning features

  both : (is_none (tables_of face).kerx ≡ true) × (not (list_any (λ s. is_for_direction (kerning_of_kern_subtable 8 s) d) kerns) ≡ true)
  both = and_parts (is_none (tables_of face).kerx) (not (list_any (λ s. is_for_direction (kerning_of_kern_subtable 8 s) d) kerns)) unkerned

  no_kerx : is_some (tables_of face).kerx ≡ false
  no_kerx = some_none (tables_of face).kerx both.0

  no_runs : runs_over requested d false (map (of_kern 8) kerns) ≡ []
  no_runs =
      none_runs requested d false kerns
      (not_true (list_any (λ s. is_for_direction (kerning_of_kern_subtable 8 s) d) kerns) both.1)

  -- no pairs kern it
  pub unpaired : kerns_by_pairs face d ≡ false
  unpaired =
      ap (λ (t : Bool). t && kerns_apart face d)
      (sym (some_by_kern face d no_kerx)
      ∙ not_true (list_any (λ s. is_for_direction (kerning_of_kern_subtable 8 s) d) kerns) both.1)

  -- kerning leaves each place open
  pub opens_each : (b : Buffer) (i : ℕ) → kerning_opens face d features b i ≡ true
  opens_each b i =
      ap (λ (t : Bool). (cond t (by_kerx requested 8 (tables_of face).ankr (kerx_in (tables_of face).kerx) d) (by_kern requested 8 kerns d)).opens (read_place d (length b.line) i) b) no_kerx
      ∙ (ap (λ (rs : List KernedRun). (turned_where (is_backward d) (kerned_by_all rs)).opens (read_place d (length b.line) i) b) no_runs
      ∙ open_to_none (is_backward d) (read_place d (length b.line) i) b)

  -- and it leaves the line
  pub left_unkerned : (b : Buffer) → b.direction ≡ d → (text_kerning face features b).buffer ≡ b
  left_unkerned b way =
      ap (λ (t : Bool). (cond t (kerx_positioning requested 8 (tables_of face).ankr (kerx_in (tables_of face).kerx) b) (kern_positioning requested 8 kerns b)).buffer) no_kerx
      ∙ (kern_same 8 refl requested kerns d b way
      ∙ (ap (λ (rs : List KernedRun). (turned_where (is_backward d) (kerned_by_all rs)).left b) no_runs
      ∙ left_by_none (is_backward d) b))

  -- nothing of it is attached
  pub unchained_unkerned : (b : Buffer) (i : ℕ) → b.direction ≡ d
      → is_unchained d (ordered_positions (text_kerning face features (with_advances (advance_of face) b)).buffer) i ≡ true
  unchained_unkerned b i way =
      ap (λ (c : Buffer). is_unchained d (ordered_positions c) i) (left_unkerned (with_advances (advance_of face) b) way)
      ∙ by (is_backward b.direction)
    where
      qs : List GlyphPosition
      qs = map (λ (g : hb_glyph_info_t). advanced (is_horizontal b.direction) (advance_of face g.glyph_id)) b.line

      plain : Plain qs
      plain = advances_plain (is_horizontal b.direction) (λ g. advance_of face g.glyph_id) b.line

      by : (t : Bool) → is_unchained d (position_list (cond t (reversed (with_advances (advance_of face) b)) (with_advances (advance_of face) b))) i ≡ true
      by true = plain_unchained d (reverse qs) i (plain_reverse qs plain)
      by false = plain_unchained d qs i plain
