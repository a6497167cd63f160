-- A ligature run that tells of its open clusters leaves the parts of a line at each open rise of its clusters, and at each
-- open fall, whatever the table.
use Rattle.std.proofs.Common.{◌≡◌, ◌<◌, ℕ, Bool, true, List}
use Rattle.aat_lookup.specs.declared.glyph_id.GlyphId.{GlyphId}
use Rattle.aat_machine_tables.specs.Table.{TableValue}
use Rattle.aat_machine_tables.specs.declared.state_table.GenericStateEntry.{GenericStateEntry}
use Rattle.aat_closing.specs.ClosingRuns.{ligature_closing, told_run}
use Rattle.aat_buffer.specs.Buffer.{Buffer}
use Rattle.aat_cut_kinds.specs.Open.{is_open}
use Rattle.aat_cut_kinds.specs.Parts.{back_part, front_part}
use Rattle.aat_cut_kinds.specs.facts.ContextCuts.{AtOn, CutOf}
use Rattle.aat_closing.specs.ToldParts.{IsFall, IsRise, PartsAtFall, PartsAtRise, ToldInParts}
use Rattle.aat_closing.specs.facts.KindParts.{told_parts}
use Rattle.aat_closing.specs.facts.LigatureClosing.{Near, parted_at_fall, parted_at_rise}

module _ (actions components : List ℕ) (ligatures : List GlyphId) (size : ℕ) (some : 0 < size) (on : ℕ → Bool) (table : TableValue (GenericStateEntry ℕ)) where
  -- at a cut of either sort
  pub ligature_cut_at_rise : (c q : ℕ) (b : Buffer) → IsRise c q b → CutOf on table (ligature_closing table actions components ligatures size) (Near actions components ligatures size table) (λ line. is_open c line ≡ true → ⊥) q b
      → ToldInParts (told_run on table (ligature_closing table actions components ligatures size) b) (told_run on table (ligature_closing table actions components ligatures size) (front_part q b))
      (told_run on table (ligature_closing table actions components ligatures size) (back_part q b))
  ligature_cut_at_rise c q b rise cut =
      told_parts on table (ligature_closing table actions components ligatures size) q b
      (parted_at_rise actions components ligatures size some on table c q b rise.before rise.behind rise.ordered cut)

  pub ligature_cut_at_fall : (c q : ℕ) (b : Buffer) → IsFall c q b → CutOf on table (ligature_closing table actions components ligatures size) (Near actions components ligatures size table) (λ line. is_open c line ≡ true → ⊥) q b
      → ToldInParts (told_run on table (ligature_closing table actions components ligatures size) b) (told_run on table (ligature_closing table actions components ligatures size) (front_part q b))
      (told_run on table (ligature_closing table actions components ligatures size) (back_part q b))
  ligature_cut_at_fall c q b fall cut =
      told_parts on table (ligature_closing table actions components ligatures size) q b
      (parted_at_fall actions components ligatures size some on table c q b fall.before fall.behind fall.ordered cut)

  pub ligature_at_rise : PartsAtRise (told_run on table (ligature_closing table actions components ligatures size)) on
  unfolding told_run
  ligature_at_rise c q b rise is_on tells =
      ligature_cut_at_rise c q b rise
      (AtOn (record { behind_first = rise.behind_first; before_end = rise.before_end; is_on = is_on; through = tells.told; unmarked = λ closed. closed tells.opens; budget = tells.budget }))

  pub ligature_at_fall : PartsAtFall (told_run on table (ligature_closing table actions components ligatures size)) on
  unfolding told_run
  ligature_at_fall c q b fall is_on tells =
      ligature_cut_at_fall c q b fall
      (AtOn (record { behind_first = fall.behind_first; before_end = fall.before_end; is_on = is_on; through = tells.told; unmarked = λ closed. closed tells.opens; budget = tells.budget }))
