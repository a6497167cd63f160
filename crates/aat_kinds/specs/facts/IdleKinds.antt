-- What a subtable does over a line on which no glyph wakes it: nothing, in its turns.
use Rattle.std.proofs.Common.{◌≡◌, ◌∙◌, ap, refl, ℕ, suc, ◌<◌, Bool, true, false, cond, Option, Some, None, is_none, unwrap_or, List, [], ◌∷◌, map, length, arith}
use Rattle.aat_buffer.specs.Buffer.{Buffer, with_line, glyph_at}
use Rattle.aat_font.specs.Idle.{is_idle, is_idle_at_end, is_idle_class, is_idle_glyph, rearrangement_rests, contextual_rests, ligature_rests, insertion_rests}
use Rattle.aat_lookup.specs.Keys.{value_in}
use Rattle.aat_machine_tables.specs.Table.{TableValue, class_of}
use Rattle.aat_machine_tables.specs.declared.morx.SubtableKind.{SubtableKind}
use Rattle.aat_machine_tables.specs.declared.morx.SubtableKind.TheVariants.{Rearrangement, Contextual, Ligature, NonContextual, Insertion}
use Rattle.aat_machine_tables.specs.declared.state_table.GenericStateEntry.{GenericStateEntry}
use Rattle.aat_glyph.specs.declared.glyph.hb_glyph_info_t.{hb_glyph_info_t}
use Rattle.aat_kinds.specs.Contextual as c
use Rattle.aat_kinds.specs.Idle.{IsIdleLineOf, at_rest}
use Rattle.aat_kinds.specs.Insertion as i
use Rattle.aat_kinds.specs.Kinds.{Sizes, kind_run, rearrangement_run, contextual_run, ligature_run, insertion_run, noncontextual_run}
use Rattle.aat_kinds.specs.Ligature as l
use Rattle.aat_kinds.specs.Rearrangement as r
use Rattle.aat_kinds.specs.facts.Resting.{rearrangement_rest, contextual_rest, ligature_rest, insertion_rest}
use Rattle.aat_kinds.specs.Values.{with_answer, with_looked_up_value, noncontextual}
use Rattle.aat_run.specs.facts.IdleRuns.{both, idle_run}

-- the end's entry rests where a glyph is idle
end_of : {T : Type 0} (rests : GenericStateEntry T → Bool) (table : TableValue (GenericStateEntry T)) (g : ℕ) → is_idle_glyph rests table g ≡ true → is_idle_at_end rests table ≡ true
end_of rests table g h = (both (is_idle_at_end rests table) (is_idle_class rests table (unwrap_or (class_of table g) 1)) h).0

-- glyphs without a value stay
no_value : (o : Option ℕ) → is_none o ≡ true → o ≡ None
no_value None h = refl
no_value (Some v) h = cc

all_stay :
    (on : ℕ → Bool) (classes : Option (List (ℕ × ℕ))) (lookup : List (ℕ × ℕ)) (gs : List hb_glyph_info_t)
    → ((k : ℕ) → k < length gs → is_none (value_in lookup (glyph_at gs k).glyph_id) ≡ true)
    → noncontextual on classes lookup gs ≡ gs
all_stay on classes lookup [] none = refl
all_stay on classes lookup (g ∷ gs) none =
    let here = no_value (value_in lookup g.glyph_id) (none 0 (omega arith)) in
    let same : with_looked_up_value on classes lookup g ≡ g = ap (λ (o : Option ℕ). cond (on g.cluster) (with_answer classes o g) g) here ∙ stays (on g.cluster) in
    let later = all_stay on classes lookup gs (λ k lt. none (suc k) (omega (arith, lt))) in
    ap (λ (h : hb_glyph_info_t). h ∷ map (with_looked_up_value on classes lookup) gs) same ∙ ap (λ (hs : List hb_glyph_info_t). g ∷ hs) later
  where
    stays : (b : Bool) → cond b g g ≡ g
    stays true = refl
    stays false = refl

-- the run of a subtable that no glyph of a line wakes
pub idle_kind : (z : Sizes) (on : ℕ → Bool) (kind : SubtableKind) (b : Buffer) → 0 < length b.line → IsIdleLineOf kind b.line → kind_run z on kind b ≡ at_rest kind b
unfolding is_idle rearrangement_run contextual_run ligature_run insertion_run noncontextual_run
idle_kind z on (Rearrangement table) b some idle =
    idle_run on table (r.context z.bound) rearrangement_rests (record { law = rearrangement_rest z.bound; advances = λ e goes. goes }) b (end_of rearrangement_rests table _ (idle 0 some)) idle
idle_kind z on (Contextual s) b some idle =
    idle_run on s.state (c.context z.classes s.lookups) contextual_rests (record { law = contextual_rest z.classes s.lookups; advances = λ e goes. goes }) b (end_of contextual_rests s.state _ (idle 0 some)) idle
idle_kind z on (Ligature s) b some idle =
    idle_run on s.state (l.context s.actions s.components s.ligatures z.slots) ligature_rests (record { law = ligature_rest s.actions s.components s.ligatures; advances = λ e goes. goes }) b (end_of ligature_rests s.state _ (idle 0 some)) idle
idle_kind z on (NonContextual lookup) b some idle =
    ap (λ (gs : List hb_glyph_info_t). record { buffer = with_line b gs; turns = length b.line }) (all_stay on z.classes lookup b.line idle)
idle_kind z on (Insertion s) b some idle =
    idle_run on s.state (i.context s.glyphs) insertion_rests (record { law = insertion_rest s.glyphs; advances = λ e goes. goes }) b (end_of insertion_rests s.state _ (idle 0 some)) idle
