-- Subtables that no glyph of a line wakes, in either order of the line.
use Rattle.std.proofs.Common.{◌≡◌, ◌∙◌, ap, refl, ◌-◌, ◌<◌, Bool, true, false, cond, List, reverse, length, Option, Some, None, option_map, arith}
use Rattle.std.proofs.lemmas.List.{reverse-reverse, length-reverse, get_or-reverse}
use Rattle.aat_buffer.specs.Buffer.{Buffer, without_positions, reversed, no_glyph}
use Rattle.aat_font.specs.Idle.{is_idle}
use Rattle.aat_machine_tables.specs.declared.morx.Subtable.{Subtable}
use Rattle.aat_machine_tables.specs.declared.morx.SubtableKind.{SubtableKind}
use Rattle.aat_machine_tables.specs.declared.morx.SubtableKind.TheVariants.{Rearrangement, Contextual, Ligature, NonContextual, Insertion}
use Rattle.aat_glyph.specs.declared.glyph.GlyphPosition.{GlyphPosition}
use Rattle.aat_glyph.specs.declared.glyph.hb_glyph_info_t.{hb_glyph_info_t}
use Rattle.aat_kinds.specs.Idle.{IsIdleLineOf, at_rest, passed_over}
use Rattle.aat_kinds.specs.Kinds.{Sizes, kind_run, reversed_run, is_reversed}
use Rattle.aat_kinds.specs.facts.IdleKinds.{idle_kind}
use Rattle.aat_morx.specs.Substitution.{is_skipped, subtable_run}
use Rattle.aat_morx.specs.LineWords.{IsAsleep}
use Rattle.aat_run.specs.Outcome.{Outcome}
use Rattle.aat_run.specs.Switches.{Switch}

turned_positions : (o : Option (List GlyphPosition)) → option_map reverse (option_map reverse o) ≡ o
turned_positions None = refl
turned_positions (Some ps) = ap (λ (qs : List GlyphPosition). Some qs) (reverse-reverse ps)

module _ (b : Buffer) where
  line_back : reverse (reverse b.line) ≡ b.line
  line_back = reverse-reverse b.line

  turned_over : reversed_run passed_over b ≡ passed_over b
  turned_over = rw (length-reverse b.line, line_back, turned_positions b.positions) refl

  turned_without : reversed_run (λ d. passed_over (without_positions d)) b ≡ passed_over (without_positions b)
  turned_without = rw (length-reverse b.line, line_back) refl

  turned_none : reversed_run (λ d. record { buffer = d; turns = length d.line }) b ≡ record { buffer = b; turns = length b.line }
  turned_none = rw (length-reverse b.line, line_back, turned_positions b.positions) refl

-- what a sleeping subtable leaves is the same in either order
pub turned_rest : (kind : SubtableKind) (b : Buffer) → reversed_run (at_rest kind) b ≡ at_rest kind b
turned_rest (Rearrangement table) b = turned_over b
turned_rest (Contextual s) b = turned_over b
turned_rest (Ligature s) b = turned_without b
turned_rest (NonContextual lookup) b = turned_none b
turned_rest (Insertion s) b = turned_without b

-- it leaves the line
pub rest_line : (kind : SubtableKind) (b : Buffer) → (at_rest kind b).buffer.line ≡ b.line
rest_line (Rearrangement table) b = refl
rest_line (Contextual s) b = refl
rest_line (Ligature s) b = refl
rest_line (NonContextual lookup) b = refl
rest_line (Insertion s) b = refl

-- it sleeps on the reversed line too
pub turned_idle : (kind : SubtableKind) (gs : List hb_glyph_info_t) → IsIdleLineOf kind gs → IsIdleLineOf kind (reverse gs)
turned_idle kind gs idle k low =
    let inside : k < length gs = omega (arith, low, length-reverse gs) in
    ap (λ (g : hb_glyph_info_t). is_idle kind g.glyph_id) (get_or-reverse gs k no_glyph inside) ∙ idle (length gs - 1 - k) (omega (arith, inside))

module _ (z : Sizes) (switch : Switch) (s : Subtable) (b : Buffer) (asleep : IsAsleep s b.line) where
  run_of : Buffer → Outcome
  run_of d = kind_run z (switch.is_on s.feature_flags) s.kind d

  in_order : (turned : Bool) → cond turned (reversed_run run_of b) (run_of b) ≡ at_rest s.kind b
  unfolding run_of
  in_order false = idle_kind z (switch.is_on s.feature_flags) s.kind b asleep.0 asleep.1
  in_order true =
      let ran = idle_kind z (switch.is_on s.feature_flags) s.kind (reversed b) (omega (arith, asleep.0, length-reverse b.line)) (turned_idle s.kind b.line asleep.1) in
      ap (λ (o : Outcome). record { buffer = reversed o.buffer; turns = o.turns }) ran ∙ turned_rest s.kind b

  -- one that is not left out
  pub asleep_run : is_skipped switch s b.direction ≡ false → subtable_run z switch s b ≡ at_rest s.kind b
  unfolding subtable_run run_of
  asleep_run runs = rw runs (in_order (is_reversed s.coverage b.direction))
