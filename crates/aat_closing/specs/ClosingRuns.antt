-- The runs of the kinds that close what they look at. TrueType Reference Manual: The 'morx' table.
use Rattle.std.specs.Prelude.{◌≡◌, ℕ, ◌+◌, ◌&&◌, not, Bool, true, false, List, [], ◌∷◌, Option, if◌then◌else◌}
use Rattle.aat_buffer.specs.Buffer.{Buffer, reversed}
use Rattle.aat_lookup.specs.declared.glyph_id.GlyphId.{GlyphId}
use Rattle.aat_machine_tables.specs.Entries.{goes_on}
use Rattle.aat_machine_tables.specs.Judged.{rearrangement_acts}
use Rattle.aat_machine_tables.specs.Table.{TableValue}
use Rattle.aat_machine_tables.specs.declared.morx.Coverage.{Coverage}
use Rattle.aat_machine_tables.specs.declared.state_table.GenericStateEntry.{GenericStateEntry}
use Rattle.aat_machine_tables.specs.declared.morx.SubtableKind.{SubtableKind}
use Rattle.aat_machine_tables.specs.declared.morx.SubtableKind.TheVariants.{Rearrangement, Contextual, Ligature, NonContextual, Insertion}
use Rattle.aat_run.specs.Context.{Context}
use Rattle.aat_run.specs.Driven.{comes_to_end, context_from, machine_run}
use Rattle.aat_run.specs.declared.driver.MachineRun.{MachineRun}
use Rattle.aat_kinds.specs.Contextual as contextual
use Rattle.aat_kinds.specs.Insertion as insertion
use Rattle.aat_kinds.specs.Kinds.{Sizes, is_reversed, noncontextual_run}
use Rattle.aat_kinds.specs.Ligature as ligature
use Rattle.aat_kinds.specs.Rearrangement as rearrangement
use Rattle.aat_closing.specs.Closing.{closing, contextual_from, insertion_from, insertion_may_act, ligature_from, rearrangement_from}

-- The contexts. An entry of rearrangement is actionable where it has a verb, and one of insertion where it has an index,
-- whatever else.
abbrev pub rearrangement_closing : ℕ → Context rearrangement.Registers rearrangement.Entry
rearrangement_closing bound =
    context_from true goes_on (λ e r p n. rearrangement_acts e) (closing rearrangement_from (rearrangement.act bound))
    rearrangement.fresh

abbrev pub contextual_closing : Option (List (ℕ × ℕ)) → List (List (ℕ × ℕ)) → Context contextual.Registers contextual.Entry
contextual_closing classes lookups =
    context_from true goes_on contextual.actionable (closing contextual_from (contextual.act classes lookups))
    contextual.fresh

abbrev pub ligature_closing : TableValue (GenericStateEntry ℕ) → List ℕ → List ℕ → List GlyphId → ℕ
    → Context ligature.Registers (GenericStateEntry ℕ)
ligature_closing table actions components ligatures slots =
    context_from false goes_on ligature.actionable
    (closing (ligature_from actions table) (ligature.act actions components ligatures)) (ligature.fresh slots)

abbrev pub insertion_closing : List GlyphId → Context insertion.Registers insertion.Entry
insertion_closing glyphs =
    context_from false goes_on (λ e r p n. insertion_may_act e) (closing insertion_from (insertion.act glyphs))
    insertion.fresh

-- what a closing run leaves: a buffer, in so many turns; and whether it is told which clusters are open
pub record Told : Type 0 where
  pub buffer : Buffer
  pub turns : ℕ
  pub is_told : Bool

-- it is what a closing run left: this buffer, in so many turns, and whether it told
abbrev pub IsTold : Told → Buffer → MachineRun → Type 0
IsTold t b o = ◌≡◌ {A = Told} (record { buffer = b; turns = o.turns; is_told = o.is_through }) t

-- nothing was run
abbrev pub nothing_run : Buffer → Told
nothing_run b = record { buffer = b; turns = 0; is_told = true }

-- one run after another, which tell what is open where each of them does
unfoldable pub told_in_order : {X : Type 0} → (X → Buffer → Told) → List X → Buffer → Told
told_in_order run [] b = nothing_run b
told_in_order run (x ∷ xs) b =
    let o = run x b in
    let d = told_in_order run xs o.buffer in
    record { buffer = d.buffer; turns = o.turns + d.turns; is_told = o.is_told && d.is_told }

-- the run of a machine tells where it comes to the end of the line: a missing entry may end it before
unfoldable pub told_run : {T R : Type 0} → (ℕ → Bool) → TableValue (GenericStateEntry T)
    → Context R (GenericStateEntry T) → Buffer → Told
told_run on table x b =
    let o = machine_run on table x b in
    record { buffer = o.buffer; turns = o.turns; is_told = comes_to_end on table x b }

-- the run of a subtable by its kind; a noncontextual one looks at each glyph alone
abbrev pub closing_run : Sizes → (ℕ → Bool) → SubtableKind → Buffer → Told
closing_run z on (Rearrangement table) b = told_run on table (rearrangement_closing z.bound) b
closing_run z on (Contextual s) b = told_run on s.state (contextual_closing z.classes s.lookups) b
closing_run z on (Ligature s) b =
    told_run on s.state (ligature_closing s.state s.actions s.components s.ligatures z.slots) b
closing_run z on (NonContextual lookup) b =
    let o = noncontextual_run on z.classes lookup b in record { buffer = o.buffer; turns = o.turns; is_told = true }
closing_run z on (Insertion s) b = told_run on s.state (insertion_closing s.glyphs) b

-- A subtable is one of rearrangement: a merge of it that stops at the cursor may split a cluster where the clusters fall
-- along the line, as they do where one on which they rise is turned round.
abbrev pub may_split : SubtableKind → Bool
may_split (Rearrangement table) = true
may_split (Contextual s) = false
may_split (Ligature s) = false
may_split (NonContextual lookup) = false
may_split (Insertion s) = false

-- the run on the line in the opposite order, which is then turned back; one that may split clusters tells nothing
abbrev pub turned : Bool → (Buffer → Told) → Buffer → Told
turned splits run b =
    let o = run (reversed b) in
    record { buffer = reversed o.buffer; turns = o.turns; is_told = o.is_told && not splits }

-- the closing run of a subtable in the order of its coverage
abbrev pub closing_ordered : Sizes → (ℕ → Bool) → Coverage → SubtableKind → Buffer → Told
closing_ordered z on coverage kind b =
    if is_reversed coverage b.direction then turned (may_split kind) (closing_run z on kind) b else closing_run z on kind b
