-- Closing runs take no glyph away, and make no positions where none stand.
use Rattle.std.proofs.Common.{◌≡◌, ◌∙◌, ℕ, ◌<◌, ◌≤◌, Bool, true, false, List, length, Option, None, refl, arith}
use Rattle.std.proofs.lemmas.List.{length-map}
use Rattle.aat_buffer.specs.Buffer.{Buffer}
use Rattle.aat_lookup.specs.declared.glyph_id.GlyphId.{GlyphId}
use Rattle.aat_machine_tables.specs.Table.{TableValue}
use Rattle.aat_machine_tables.specs.declared.morx.SubtableKind.{SubtableKind}
use Rattle.aat_machine_tables.specs.declared.morx.SubtableKind.TheVariants.{Rearrangement, Contextual, Ligature, NonContextual, Insertion}
use Rattle.aat_machine_tables.specs.declared.state_table.GenericStateEntry.{GenericStateEntry}
use Rattle.aat_run.specs.Context.{Context, machine_of, start}
use Rattle.aat_run.specs.Driven.{machine_run}
use Rattle.aat_run.specs.Laws.{FitsFresh, KeepsFit, Lengthens, MakesNoPositions, PassesFit, Pays}
use Rattle.aat_run.specs.facts.MachineRuns.{whole_longer, whole_makes_none}
use Rattle.aat_kinds.specs.Kinds.{Sizes, noncontextual_run}
use Rattle.aat_kinds.specs.Contextual as c
use Rattle.aat_kinds.specs.Insertion as i
use Rattle.aat_kinds.specs.Ligature as l
use Rattle.aat_kinds.specs.Rearrangement as r
use Rattle.aat_kinds.specs.Values.{with_looked_up_value}
use Rattle.aat_kinds.specs.facts.ContextualLaws as cl
use Rattle.aat_kinds.specs.facts.InsertionLaws as il
use Rattle.aat_kinds.specs.facts.LigatureLaws as ll
use Rattle.aat_kinds.specs.facts.RearrangementLaws as rl
use Rattle.aat_closing.specs.Closing.{contextual_from, insertion_from, ligature_from, rearrangement_from}
use Rattle.aat_closing.specs.ClosingRuns.{Told, closing_run, contextual_closing, insertion_closing, ligature_closing, rearrangement_closing, told_run}
use Rattle.aat_closing.specs.facts.ClosedLaws as closed

pub record KeepsMore (run : Buffer → Told) : Type 0 where
  pub positions : (b : Buffer) → b.positions ≡ None → (run b).buffer.positions ≡ None
  pub longer : (b : Buffer) → length b.line ≤ length (run b).buffer.line

told_keeps : {T R : Type 0} (on : ℕ → Bool) (table : TableValue (GenericStateEntry T)) (x : Context R (GenericStateEntry T)) (fits : R → ℕ → ℕ → Type 0)
    → KeepsFit x.act fits → PassesFit fits → Pays x.act fits → FitsFresh fits x.fresh → Lengthens x.act fits → MakesNoPositions x.act fits → KeepsMore (told_run on table x)
unfolding told_run machine_run
told_keeps on table x fits keeps passes pays fresh lengthens makes_none = record {
  positions = λ b none. whole_makes_none (machine_of on table x) fits keeps passes pays makes_none (start x.in_place b x.fresh) (at_start x.in_place b) (none_at_start x.in_place b none);
  longer = λ b. whole_longer (machine_of on table x) fits keeps passes pays lengthens (length b.line) (start x.in_place b x.fresh) (at_start x.in_place b) (long_at_start x.in_place b);
}
  where
    at_start : (p : Bool) (b : Buffer) → fits x.fresh (start p b x.fresh).buffer.cursor (length (start p b x.fresh).buffer.line)
    at_start true b = fresh (length b.line)
    at_start false b = fresh (length b.line)

    none_at_start : (p : Bool) (b : Buffer) → b.positions ≡ None → (start p b x.fresh).buffer.positions ≡ None
    none_at_start true b none = none
    none_at_start false b none = refl

    long_at_start : (p : Bool) (b : Buffer) → length b.line ≤ length (start p b x.fresh).buffer.line
    long_at_start true b = omega arith
    long_at_start false b = omega arith

rearrangement_keeps : (bound : ℕ) (on : ℕ → Bool) (table : TableValue r.Entry) → KeepsMore (told_run on table (rearrangement_closing bound))
rearrangement_keeps bound on table =
    told_keeps on table (rearrangement_closing bound) r.IsFit (closed.keeps_fit r.IsFit (r.act bound) rearrangement_from (rl.keeps_fit bound)) rl.passes_fit
    (closed.pays r.IsFit (r.act bound) rearrangement_from (rl.pays bound)) rl.fits_fresh
    (closed.lengthens r.IsFit (r.act bound) rearrangement_from (rl.lengthens bound))
    (closed.makes_no_positions r.IsFit (r.act bound) rearrangement_from (λ e s b fit none. rl.keeps_positions bound e s b fit ∙ none))

contextual_keeps : (classes : Option (List (ℕ × ℕ))) (lookups : List (List (ℕ × ℕ))) (on : ℕ → Bool) (table : TableValue c.Entry) → KeepsMore (told_run on table (contextual_closing classes lookups))
contextual_keeps classes lookups on table =
    told_keeps on table (contextual_closing classes lookups) c.IsFit (closed.keeps_fit c.IsFit (c.act classes lookups) contextual_from (cl.keeps_fit classes lookups)) cl.passes_fit
    (closed.pays c.IsFit (c.act classes lookups) contextual_from (cl.pays classes lookups)) cl.fits_fresh
    (closed.lengthens c.IsFit (c.act classes lookups) contextual_from (cl.lengthens classes lookups))
    (closed.makes_no_positions c.IsFit (c.act classes lookups) contextual_from (λ e s b fit none. cl.keeps_positions classes lookups e s b fit ∙ none))

ligature_keeps : (actions values : List ℕ) (ligatures : List GlyphId) (size : ℕ) → 0 < size → (on : ℕ → Bool) (table : TableValue (GenericStateEntry ℕ)) → KeepsMore (told_run on table (ligature_closing table actions values ligatures size))
ligature_keeps actions values ligatures size some on table =
    told_keeps on table (ligature_closing table actions values ligatures size) l.IsFit
    (closed.keeps_fit l.IsFit (l.act actions values ligatures) (ligature_from actions table) (ll.keeps_fit actions values ligatures)) ll.passes_fit
    (closed.pays l.IsFit (l.act actions values ligatures) (ligature_from actions table) (ll.pays actions values ligatures)) (ll.fits_fresh size some)
    (closed.lengthens l.IsFit (l.act actions values ligatures) (ligature_from actions table) (ll.lengthens actions values ligatures))
    (closed.makes_no_positions l.IsFit (l.act actions values ligatures) (ligature_from actions table) (ll.makes_no_positions actions values ligatures))

insertion_keeps : (glyphs : List GlyphId) (on : ℕ → Bool) (table : TableValue i.Entry) → KeepsMore (told_run on table (insertion_closing glyphs))
insertion_keeps glyphs on table =
    told_keeps on table (insertion_closing glyphs) i.IsFit (closed.keeps_fit i.IsFit (i.act glyphs) insertion_from (il.keeps_fit glyphs)) il.passes_fit
    (closed.pays i.IsFit (i.act glyphs) insertion_from (il.pays glyphs)) il.fits_fresh
    (closed.lengthens i.IsFit (i.act glyphs) insertion_from (il.lengthens glyphs))
    (closed.makes_no_positions i.IsFit (i.act glyphs) insertion_from (il.makes_no_positions glyphs))

noncontextual_keeps : (z : Sizes) (on : ℕ → Bool) (lookup : List (ℕ × ℕ)) → KeepsMore (closing_run z on (NonContextual lookup))
unfolding noncontextual_run
noncontextual_keeps z on lookup = record {
  positions = λ b none. none;
  longer = λ b. let same = length-map b.line (with_looked_up_value on z.classes lookup) in omega (arith, same);
}

pub closing_runs_keep_more : (z : Sizes) (on : ℕ → Bool) (kind : SubtableKind) → 0 < z.slots → KeepsMore (closing_run z on kind)
closing_runs_keep_more z on (Rearrangement table) some = rearrangement_keeps z.bound on table
closing_runs_keep_more z on (Contextual s) some = contextual_keeps z.classes s.lookups on s.state
closing_runs_keep_more z on (Ligature s) some = ligature_keeps s.actions s.components s.ligatures z.slots some on s.state
closing_runs_keep_more z on (NonContextual lookup) some = noncontextual_keeps z on lookup
closing_runs_keep_more z on (Insertion s) some = insertion_keeps s.glyphs on s.state
