-- What the runs of each kind leave, but for the flags of the glyphs, does not depend on the flags before, nor on marks that
-- are put in besides.
use Rattle.std.proofs.Common.{◌≡◌, ◌∙◌, ℕ, Bool, true, false, cond, List, Option, Some, None, refl, ap, sym, subst}
use Rattle.aat_buffer.specs.Buffer.{Buffer, reversed, with_line}
use Rattle.aat_glyph.specs.declared.glyph.hb_glyph_info_t.{hb_glyph_info_t}
use Rattle.aat_lookup.specs.Keys.{value_in}
use Rattle.aat_lookup.specs.declared.glyph_id.GlyphId.{GlyphId}
use Rattle.aat_machine_tables.specs.Entries.{goes_on}
use Rattle.aat_machine_tables.specs.declared.morx.Coverage.{Coverage}
use Rattle.aat_machine_tables.specs.Table.{TableValue}
use Rattle.aat_machine_tables.specs.declared.state_table.GenericStateEntry.{GenericStateEntry}
use Rattle.aat_run.specs.Driven.{comes_to_end, context_from, machine_run}
use Rattle.aat_run.specs.Outcome.{Outcome}
use Rattle.aat_kinds.specs.Contextual as contextual
use Rattle.aat_kinds.specs.Insertion as insertion
use Rattle.aat_kinds.specs.Kinds.{contextual_run, insertion_run, ligature_run, is_reversed, noncontextual_run, ordered_run, rearrangement_run, reversed_run}
use Rattle.aat_kinds.specs.Ligature as ligature
use Rattle.aat_kinds.specs.Rearrangement as rearrangement
use Rattle.aat_kinds.specs.Values.{noncontextual, with_answer, with_looked_up_value}
use Rattle.aat_closing.specs.Closing.{closing}
use Rattle.aat_closing.specs.Unflagged.{AreBlind, IsBlindRun, LeftAlike, SameButFlags, erased, unflagged}
use Rattle.aat_closing.specs.facts.BlindBuffers.{closing_is_blind, erased_of, erased_reversed, same_length, same_of}
use Rattle.aat_closing.specs.facts.BlindContextual.{contextual_is_blind}
use Rattle.aat_closing.specs.facts.BlindInsertion.{insertion_is_blind}
use Rattle.aat_closing.specs.facts.BlindLigature.{ligature_is_blind}
use Rattle.aat_closing.specs.facts.BlindLines.{bare_map}
use Rattle.aat_closing.specs.facts.BlindRearrangement.{rearrangement_is_blind}
use Rattle.aat_closing.specs.facts.ErasedRuns.{ends_alike, machine_runs_alike}

-- A run that closes places as it goes, whatever places they are and whatever it takes for actionable, leaves the same but
-- for the flags as that of the subtable, and comes to the end of the line where that does.

-- a rearrangement subtable
module _ (bound : ℕ) (on : ℕ → Bool) (table : TableValue rearrangement.Entry)
    (from : rearrangement.Entry → rearrangement.Registers → Buffer → ℕ) (actionable : rearrangement.Entry → rearrangement.Registers → ℕ → ℕ → Bool)
  where
    rearrangement_alike : AreBlind (closing from (rearrangement.act bound)) (rearrangement.act bound)
    rearrangement_alike = closing_is_blind from (rearrangement.act bound) (rearrangement_is_blind bound)

    pub rearrangement_runs_alike : IsBlindRun (machine_run on table (context_from true goes_on actionable (closing from (rearrangement.act bound)) rearrangement.fresh)) (rearrangement_run bound on table)
    unfolding rearrangement_run
    rearrangement_runs_alike =
        machine_runs_alike on table true goes_on actionable rearrangement.actionable (closing from (rearrangement.act bound)) (rearrangement.act bound) rearrangement.fresh rearrangement_alike

    pub rearrangement_ends_alike : (a b : Buffer) → SameButFlags a b
        → comes_to_end on table (context_from true goes_on actionable (closing from (rearrangement.act bound)) rearrangement.fresh) a ≡ comes_to_end on table (rearrangement.context bound) b
    rearrangement_ends_alike a b same =
        ends_alike on table true goes_on actionable rearrangement.actionable (closing from (rearrangement.act bound)) (rearrangement.act bound) rearrangement.fresh rearrangement_alike a b same

-- a contextual subtable
module _ (classes : Option (List (ℕ × ℕ))) (lookups : List (List (ℕ × ℕ))) (on : ℕ → Bool) (table : TableValue contextual.Entry)
    (from : contextual.Entry → contextual.Registers → Buffer → ℕ) (actionable : contextual.Entry → contextual.Registers → ℕ → ℕ → Bool)
  where
    contextual_alike : AreBlind (closing from (contextual.act classes lookups)) (contextual.act classes lookups)
    contextual_alike = closing_is_blind from (contextual.act classes lookups) (contextual_is_blind classes lookups)

    pub contextual_runs_alike : IsBlindRun (machine_run on table (context_from true goes_on actionable (closing from (contextual.act classes lookups)) contextual.fresh)) (contextual_run on classes table lookups)
    unfolding contextual_run
    contextual_runs_alike =
        machine_runs_alike on table true goes_on actionable contextual.actionable (closing from (contextual.act classes lookups)) (contextual.act classes lookups) contextual.fresh contextual_alike

    pub contextual_ends_alike : (a b : Buffer) → SameButFlags a b
        → comes_to_end on table (context_from true goes_on actionable (closing from (contextual.act classes lookups)) contextual.fresh) a ≡ comes_to_end on table (contextual.context classes lookups) b
    contextual_ends_alike a b same =
        ends_alike on table true goes_on actionable contextual.actionable (closing from (contextual.act classes lookups)) (contextual.act classes lookups) contextual.fresh contextual_alike a b same

-- a ligature subtable
module _ (size : ℕ) (actions components : List ℕ) (ligatures : List GlyphId) (on : ℕ → Bool) (table : TableValue (GenericStateEntry ℕ))
    (from : GenericStateEntry ℕ → ligature.Registers → Buffer → ℕ) (actionable : GenericStateEntry ℕ → ligature.Registers → ℕ → ℕ → Bool)
  where
    ligature_alike : AreBlind (closing from (ligature.act actions components ligatures)) (ligature.act actions components ligatures)
    ligature_alike = closing_is_blind from (ligature.act actions components ligatures) (ligature_is_blind actions components ligatures)

    pub ligature_runs_alike : IsBlindRun (machine_run on table (context_from false goes_on actionable (closing from (ligature.act actions components ligatures)) (ligature.fresh size)))
        (ligature_run size on table actions components ligatures)
    unfolding ligature_run
    ligature_runs_alike =
        machine_runs_alike on table false goes_on actionable ligature.actionable (closing from (ligature.act actions components ligatures)) (ligature.act actions components ligatures) (ligature.fresh size) ligature_alike

    pub ligature_ends_alike : (a b : Buffer) → SameButFlags a b
        → comes_to_end on table (context_from false goes_on actionable (closing from (ligature.act actions components ligatures)) (ligature.fresh size)) a
        ≡ comes_to_end on table (ligature.context actions components ligatures size) b
    ligature_ends_alike a b same =
        ends_alike on table false goes_on actionable ligature.actionable (closing from (ligature.act actions components ligatures)) (ligature.act actions components ligatures) (ligature.fresh size) ligature_alike a b same

-- an insertion subtable
module _ (glyphs : List GlyphId) (on : ℕ → Bool) (table : TableValue insertion.Entry)
    (from : insertion.Entry → insertion.Registers → Buffer → ℕ) (actionable : insertion.Entry → insertion.Registers → ℕ → ℕ → Bool)
  where
    insertion_alike : AreBlind (closing from (insertion.act glyphs)) (insertion.act glyphs)
    insertion_alike = closing_is_blind from (insertion.act glyphs) (insertion_is_blind glyphs)

    pub insertion_runs_alike : IsBlindRun (machine_run on table (context_from false goes_on actionable (closing from (insertion.act glyphs)) insertion.fresh)) (insertion_run on table glyphs)
    unfolding insertion_run
    insertion_runs_alike =
        machine_runs_alike on table false goes_on actionable insertion.actionable (closing from (insertion.act glyphs)) (insertion.act glyphs) insertion.fresh insertion_alike

    pub insertion_ends_alike : (a b : Buffer) → SameButFlags a b
        → comes_to_end on table (context_from false goes_on actionable (closing from (insertion.act glyphs)) insertion.fresh) a ≡ comes_to_end on table (insertion.context glyphs) b
    insertion_ends_alike a b same =
        ends_alike on table false goes_on actionable insertion.actionable (closing from (insertion.act glyphs)) (insertion.act glyphs) insertion.fresh insertion_alike a b same

-- a glyph that gets its value
bare_value : (on : ℕ → Bool) (classes : Option (List (ℕ × ℕ))) (lookup : List (ℕ × ℕ)) (g : hb_glyph_info_t)
    → unflagged (with_looked_up_value on classes lookup g) ≡ with_looked_up_value on classes lookup (unflagged g)
bare_value on classes lookup g = by_test (on g.cluster) (value_in lookup g.glyph_id)
  where
    by_test : (t : Bool) (o : Option ℕ) → unflagged (cond t (with_answer classes o g) g) ≡ cond t (with_answer classes o (unflagged g)) (unflagged g)
    by_test true None = refl
    by_test true (Some v) = refl
    by_test false o = refl

-- a noncontextual subtable
pub noncontextual_runs_alike : (on : ℕ → Bool) (classes : Option (List (ℕ × ℕ))) (lookup : List (ℕ × ℕ)) → IsBlindRun (noncontextual_run on classes lookup) (noncontextual_run on classes lookup)
unfolding noncontextual_run
noncontextual_runs_alike on classes lookup a b same =
    let alike : erased a ≡ erased b = erased_of a b same in
    let changed : Buffer → Buffer = λ d. with_line d (noncontextual on classes lookup d.line) in
    let once : (d : Buffer) → erased (changed d) ≡ changed (erased d) = λ d. ap (with_line d) (bare_map (with_looked_up_value on classes lookup) (bare_value on classes lookup) d.line) in
    (same_of (changed a) (changed b) (once a ∙ (ap changed alike ∙ sym (once b))), same_length a b alike)

-- runs on the line in the opposite order
pub reversed_runs_alike : (run other : Buffer → Outcome) → IsBlindRun run other → IsBlindRun (reversed_run run) (reversed_run other)
reversed_runs_alike run other blind a b same =
    let turned : (c d : Buffer) → SameButFlags c d → SameButFlags (reversed c) (reversed d) =
    λ c d both. same_of (reversed c) (reversed d) (erased_reversed c ∙ (ap reversed (erased_of c d both) ∙ sym (erased_reversed d))) in
    let left = blind (reversed a) (reversed b) (turned a b same) in
    (turned (run (reversed a)).buffer (other (reversed b)).buffer left.0, left.1)

-- runs in the order of a coverage
pub ordered_runs_alike : (coverage : Coverage) (run other : Buffer → Outcome) → IsBlindRun run other → IsBlindRun (ordered_run coverage run) (ordered_run coverage other)
ordered_runs_alike coverage run other blind a b same =
    let direction : is_reversed coverage a.direction ≡ is_reversed coverage b.direction = λ k. is_reversed coverage (same.rest k).direction in
    subst (λ (t : Bool). LeftAlike (cond (is_reversed coverage a.direction) (reversed_run run a) (run a)) (cond t (reversed_run other b) (other b))) direction (by_order (is_reversed coverage a.direction))
  where
    by_order : (t : Bool) → LeftAlike (cond t (reversed_run run a) (run a)) (cond t (reversed_run other b) (other b))
    by_order true = reversed_runs_alike run other blind a b same
    by_order false = blind a b same

-- a run that leaves what a blind one leaves is blind itself
pub other_is_blind : (run other : Buffer → Outcome) → IsBlindRun run other → IsBlindRun other other
other_is_blind run other blind a b same =
    let before = blind a a (same_of a a refl) in
    let left = blind a b same in
    let erased_before = erased_of (run a).buffer (other a).buffer before.0 in
    let erased_left = erased_of (run a).buffer (other b).buffer left.0 in
    (same_of (other a).buffer (other b).buffer (sym erased_before ∙ erased_left), sym before.1 ∙ left.1)
