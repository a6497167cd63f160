-- The contexts meet the laws, and their runs are bounded.
use Rattle.std.proofs.Common.{◌≡◌, ℕ, ◌<◌, Bool, List, length, Option, refl, ◌∙◌, arith}
use Rattle.std.proofs.lemmas.List.{length-map, length-reverse}
use Rattle.aat_buffer.specs.Buffer.{Buffer, with_cursor, reversed, without_positions}
use Rattle.aat_machine_tables.specs.Table.{TableValue}
use Rattle.aat_machine_tables.specs.declared.morx.Coverage.{Coverage}
use Rattle.aat_lookup.specs.declared.glyph_id.GlyphId.{GlyphId}
use Rattle.aat_machine_tables.specs.declared.state_table.GenericStateEntry.{GenericStateEntry}
use Rattle.aat_run.specs.Context.{Context, machine_of, start}
use Rattle.aat_kinds.specs.Kinds.{Sizes, kind_run, rearrangement_run, contextual_run, ligature_run, insertion_run, noncontextual_run, reversed_run, is_reversed, ordered_run}
use Rattle.aat_run.specs.Driven.{machine_run}
use Rattle.aat_machine_tables.specs.declared.morx.SubtableKind.{SubtableKind}
use Rattle.aat_machine_tables.specs.declared.morx.SubtableKind.TheVariants.{Rearrangement, Contextual, Ligature, NonContextual, Insertion}
use Rattle.aat_run.specs.Outcome.{Outcome}
use Rattle.aat_run.specs.Budget.{extent}
use Rattle.aat_run.specs.Laws.{IsLawful, IsBounded}
use Rattle.aat_kinds.specs.Lawful.{ActsKeepSmall, ContextsAreLawful}
use Rattle.aat_kinds.specs.Values.{noncontextual}
use Rattle.aat_buffer.specs.facts.Cases.{chosen}
use Rattle.aat_run.specs.facts.MachineRuns.{whole_counts, whole_bounded, whole_longer}
use Rattle.aat_kinds.specs.Rearrangement as r
use Rattle.aat_kinds.specs.Contextual as c
use Rattle.aat_kinds.specs.Ligature as l
use Rattle.aat_kinds.specs.Insertion as i
use Rattle.aat_kinds.specs.facts.ContextualSmall as contextual_small
use Rattle.aat_kinds.specs.facts.RearrangementKeeps as rearrangement_keeps
use Rattle.aat_kinds.specs.facts.RearrangementLaws as rl
use Rattle.aat_kinds.specs.facts.ContextualLaws as cl
use Rattle.aat_kinds.specs.facts.LigatureLaws as ll
use Rattle.aat_kinds.specs.facts.InsertionLaws as il

rearrangement_is_lawful : (bound : ℕ) → IsLawful (r.context bound) r.IsFit
rearrangement_is_lawful bound = record {
  fresh = rl.fits_fresh;
  passes_fit = rl.passes_fit;
  keeps_fit = rl.keeps_fit bound;
  pays = rl.pays bound;
  bounded = rl.bounded bound;
  lengthens = rl.lengthens bound;
  makes_no_positions = λ e s b fit none. rl.keeps_positions bound e s b fit ∙ none;
  keeps_settings = rl.keeps_settings bound;
}

contextual_is_lawful : (classes : Option (List (ℕ × ℕ))) (lookups : List (List (ℕ × ℕ))) → IsLawful (c.context classes lookups) c.IsFit
contextual_is_lawful classes lookups = record {
  fresh = cl.fits_fresh;
  passes_fit = cl.passes_fit;
  keeps_fit = cl.keeps_fit classes lookups;
  pays = cl.pays classes lookups;
  bounded = cl.bounded classes lookups;
  lengthens = cl.lengthens classes lookups;
  makes_no_positions = λ e s b fit none. cl.keeps_positions classes lookups e s b fit ∙ none;
  keeps_settings = cl.keeps_settings classes lookups;
}

ligature_is_lawful : (actions values : List ℕ) (ligatures : List GlyphId) (size : ℕ) → 0 < size → IsLawful (l.context actions values ligatures size) l.IsFit
ligature_is_lawful actions values ligatures size some = record {
  fresh = ll.fits_fresh size some;
  passes_fit = ll.passes_fit;
  keeps_fit = ll.keeps_fit actions values ligatures;
  pays = ll.pays actions values ligatures;
  bounded = ll.bounded actions values ligatures;
  lengthens = ll.lengthens actions values ligatures;
  makes_no_positions = ll.makes_no_positions actions values ligatures;
  keeps_settings = ll.keeps_settings actions values ligatures;
}

insertion_is_lawful : (glyphs : List GlyphId) → IsLawful (i.context glyphs) i.IsFit
insertion_is_lawful glyphs = record {
  fresh = il.fits_fresh;
  passes_fit = il.passes_fit;
  keeps_fit = il.keeps_fit glyphs;
  pays = il.pays glyphs;
  bounded = il.bounded glyphs;
  lengthens = il.lengthens glyphs;
  makes_no_positions = il.makes_no_positions glyphs;
  keeps_settings = il.keeps_settings glyphs;
}

pub contexts_are_lawful : ContextsAreLawful
contexts_are_lawful = record {
  rearrangement_is_lawful = rearrangement_is_lawful;
  rearrangement_stays = λ bound. record { length = rl.keeps_length bound; cursor = rl.keeps_cursor bound; positions = rl.keeps_positions bound };
  contextual_is_lawful = contextual_is_lawful;
  contextual_stays = λ classes lookups. record { length = cl.keeps_length classes lookups; cursor = cl.keeps_cursor classes lookups; positions = cl.keeps_positions classes lookups };
  ligature_is_lawful = ligature_is_lawful;
  ligature_keeps_length = ll.keeps_length;
  insertion_is_lawful = insertion_is_lawful;
}

pub acts_keep_small : ActsKeepSmall
acts_keep_small = record {
  rearrangement_keeps = rearrangement_keeps.keeps_small;
  contextual_keeps = contextual_small.keeps_small;
  ligature_keeps = λ actions values ligatures small. ll.keeps_small actions values ligatures small;
  insertion_keeps = λ glyphs small. il.keeps_small glyphs small;
}

-- the run of a lawful context is bounded
pub machine_is_bounded : {T R : Type 0} (on : ℕ → Bool) (table : TableValue (GenericStateEntry T)) (x : Context R (GenericStateEntry T)) (fits : R → ℕ → ℕ → Type 0) (b : Buffer) → IsLawful x fits → IsBounded b (machine_run on table x b)
unfolding machine_run
machine_is_bounded on table x fits b law =
    let m = machine_of on table x in
    let c = start x.in_place b x.fresh in
    let same : extent c.buffer ≡ extent b = chosen (λ (d : Buffer). extent (with_cursor d 0) ≡ extent b) x.in_place b (without_positions b) (λ _. refl) (λ _. refl) in
    let long : length c.buffer.line ≡ length b.line = chosen (λ (d : Buffer). length d.line ≡ length b.line) x.in_place b (without_positions b) (λ _. refl) (λ _. refl) in
    let stands = law.fresh (length c.buffer.line) in
    record {
      turns = omega (arith, same, whole_counts m fits law.keeps_fit law.passes_fit law.pays c stands);
      extent = omega (arith, same, whole_bounded m fits law.keeps_fit law.passes_fit law.pays law.bounded c stands);
      length = omega (arith, long, whole_longer m fits law.keeps_fit law.passes_fit law.pays law.lengthens (length c.buffer.line) c stands (omega arith));
    }

pub kind_is_bounded : (z : Sizes) (on : ℕ → Bool) (k : SubtableKind) (b : Buffer) → 0 < z.slots → IsBounded b (kind_run z on k b)
unfolding rearrangement_run contextual_run ligature_run insertion_run noncontextual_run
kind_is_bounded z on (Rearrangement table) b some = machine_is_bounded on table (r.context z.bound) r.IsFit b (rearrangement_is_lawful z.bound)
kind_is_bounded z on (Contextual s) b some = machine_is_bounded on s.state (c.context z.classes s.lookups) c.IsFit b (contextual_is_lawful z.classes s.lookups)
kind_is_bounded z on (Ligature s) b some =
    machine_is_bounded on s.state (l.context s.actions s.components s.ligatures z.slots) l.IsFit b (ligature_is_lawful s.actions s.components s.ligatures z.slots some)
kind_is_bounded z on (NonContextual lookup) b some =
    let long : length (noncontextual on z.classes lookup b.line) ≡ length b.line = length-map b.line _ in
    record { turns = omega arith; extent = omega (arith, long); length = omega (arith, long) }
kind_is_bounded z on (Insertion s) b some = machine_is_bounded on s.state (i.context s.glyphs) i.IsFit b (insertion_is_lawful s.glyphs)

-- a bounded run is bounded in the order of a coverage
pub reversed_is_bounded : (run : Buffer → Outcome) (b : Buffer) → ((d : Buffer) → IsBounded d (run d)) → IsBounded b (reversed_run run b)
reversed_is_bounded run b each =
    let k = each (reversed b) in
    let before : length (reversed b).line ≡ length b.line = length-reverse b.line in
    let after : length (reversed (run (reversed b)).buffer).line ≡ length (run (reversed b)).buffer.line = length-reverse (run (reversed b)).buffer.line in
    record { turns = omega (arith, k.turns, before); extent = omega (arith, k.extent, before, after); length = omega (arith, k.length, before, after) }

pub ordered_is_bounded : (coverage : Coverage) (run : Buffer → Outcome) (b : Buffer) → ((d : Buffer) → IsBounded d (run d)) → IsBounded b (ordered_run coverage run b)
ordered_is_bounded coverage run b each = chosen (IsBounded b) (is_reversed coverage b.direction) (reversed_run run b) (run b) (λ _. reversed_is_bounded run b each) (λ _. each b)
