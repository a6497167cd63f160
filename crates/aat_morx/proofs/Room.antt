-- How many glyphs substitution leaves, and so why it is refused.
use Rattle.std.proofs.Common.{subst, ◌≡◌, ◌∙◌, ap, sym, refl, ℕ, ◌<◌, ◌≤◌, Bool, false, List, [], ◌∷◌, length, arith, None}
use Rattle.std.proofs.lemmas.List.{length-reverse}
use Rattle.std.specs.Prelude.{fold}
use Rattle.aat_buffer.specs.Buffer.{Buffer, reversed, without_positions}
use Rattle.aat_buffer.specs.facts.Cases.{chosen}
use Rattle.aat_buffer.specs.facts.Lines.{length_concat, of_concat}
use Rattle.aat_machine_tables.specs.declared.morx.Chain.{Chain}
use Rattle.aat_machine_tables.specs.declared.morx.Coverage.{Coverage}
use Rattle.aat_machine_tables.specs.declared.morx.Subtable.{Subtable}
use Rattle.aat_machine_tables.specs.declared.morx.SubtableKind.{SubtableKind}
use Rattle.aat_machine_tables.specs.declared.morx.SubtableKind.TheVariants.{Rearrangement, Contextual, Ligature, NonContextual, Insertion}
use Rattle.aat_kinds.proofs.LawsHold.{contexts_are_lawful}
use Rattle.aat_kinds.proofs.OrderOfKinds.{glyphs_are_kept}
use Rattle.aat_kinds.specs.Kinds.{Sizes, is_insertion, kind_run, rearrangement_run, reversed_run, is_reversed, ordered_run}
use Rattle.aat_kinds.specs.Rearrangement as r
use Rattle.aat_map.proofs.Truth.{or_false}
use Rattle.aat_map.specs.SwitchedChains.{SwitchedChain, switched_by, with_switch}
use Rattle.aat_morx.proofs.LawsHold.{substitution_is_bounded}
use Rattle.aat_morx.proofs.OrderOfRuns.{clusters_keep_their_order}
use Rattle.aat_morx.specs.Kept.{inserts, has_insertion}
use Rattle.aat_morx.specs.Substitution.{is_skipped, subtable_run, chain_run, substituted, prepared}
use Rattle.aat_run.specs.Budget.{extent}
use Rattle.aat_run.specs.Driven.{IsRefusal}
use Rattle.aat_run.specs.Laws.{HasOrderOf}
use Rattle.aat_run.specs.Outcome.{IsOutcome, Outcome, untouched, then_run, in_order}
use Rattle.aat_run.specs.Ranges.{switch_for}
use Rattle.aat_run.specs.Switches.{Switch}
use Rattle.aat_run.specs.declared.error.AatError.{AatError}
use Rattle.aat_run.specs.declared.error.AatError.TheVariants.{AaltValue, TooLong, OutOfMemory, BufferFailed}
use Rattle.aat_run.specs.declared.ranges.range_flags_t.{range_flags_t}
use Rattle.aat_run.specs.facts.DrivenRuns.{run_in_place}

-- the runs of the kinds but for insertion keep the number of glyphs
number_of_kind : (z : Sizes) (on : ℕ → Bool) (k : SubtableKind) (b : Buffer) → 0 < z.slots → is_insertion k ≡ false → length (kind_run z on k b).buffer.line ≡ length b.line
unfolding rearrangement_run
number_of_kind z on (Rearrangement table) b some none =
    let law = contexts_are_lawful.rearrangement_is_lawful z.bound in
    run_in_place on table (r.context z.bound) r.IsFit law.keeps_fit law.passes_fit law.pays b (law.fresh (length b.line)) (λ _. contexts_are_lawful.rearrangement_stays z.bound) refl
number_of_kind z on (Contextual s) b some none = glyphs_are_kept.contextual_number on z.classes s.state s.lookups b
number_of_kind z on (Ligature s) b some none = glyphs_are_kept.ligature_number z.slots on s.state s.actions s.components s.ligatures b some
number_of_kind z on (NonContextual lookup) b some none = glyphs_are_kept.noncontextual_number on z.classes lookup b
number_of_kind z on (Insertion s) b some none = absurd (cc)

number_of_ordered : (coverage : Coverage) (run : Buffer → Outcome) (b : Buffer) → ((d : Buffer) → length (run d).buffer.line ≡ length d.line) → length (ordered_run coverage run b).buffer.line ≡ length b.line
number_of_ordered coverage run b each =
    chosen (λ (o : Outcome). length o.buffer.line ≡ length b.line) (is_reversed coverage b.direction) (reversed_run run b) (run b)
    (λ _. length-reverse (run (reversed b)).buffer.line ∙ (each (reversed b) ∙ length-reverse b.line)) (λ _. each b)

number_of_subtable : (z : Sizes) (switch : Switch) (s : Subtable) (b : Buffer) → 0 < z.slots → is_insertion s.kind ≡ false → length (subtable_run z switch s b).buffer.line ≡ length b.line
unfolding subtable_run
number_of_subtable z switch s b some none =
    let on = switch.is_on s.feature_flags in
    chosen (λ (o : Outcome). length o.buffer.line ≡ length b.line) (is_skipped switch s b.direction) (untouched b) (ordered_run s.coverage (kind_run z on s.kind) b)
    (λ _. refl) (λ _. number_of_ordered s.coverage (kind_run z on s.kind) b (λ d. number_of_kind z on s.kind d some none))

number_of_subtables : (z : Sizes) (switch : Switch) (ss : List Subtable) (o : Outcome) → 0 < z.slots → inserts ss ≡ false → length (fold (λ o s. then_run o (subtable_run z switch s)) o ss).buffer.line ≡ length o.buffer.line
number_of_subtables z switch [] o some none = refl
number_of_subtables z switch (s ∷ ss) o some none =
    let both = or_false (is_insertion s.kind) (inserts ss) none in
    number_of_subtables z switch ss (then_run o (subtable_run z switch s)) some both.1 ∙ number_of_subtable z switch s o.buffer some both.0

number_of_chains : (z : Sizes) (cs : List Chain) (ls : List (List range_flags_t)) (o : Outcome) → 0 < z.slots → has_insertion cs ≡ false → length (fold (λ o c. then_run o (chain_run z c)) o (switched_by cs ls)).buffer.line ≡ length o.buffer.line
number_of_chains z [] ls o some none = refl
number_of_chains z (c ∷ cs) [] o some none =
    let both = or_false (inserts c.subtables.items) (has_insertion cs) none in
    number_of_chains z cs [] (then_run o (chain_run z (with_switch (switch_for []) c))) some both.1 ∙ number_of_subtables z (switch_for []) c.subtables.items (untouched o.buffer) some both.0
number_of_chains z (c ∷ cs) (l ∷ ls) o some none =
    let both = or_false (inserts c.subtables.items) (has_insertion cs) none in
    number_of_chains z cs ls (then_run o (chain_run z (with_switch (switch_for l) c))) some both.1 ∙ number_of_subtables z (switch_for l) c.subtables.items (untouched o.buffer) some both.0

-- where no subtable inserts, as many glyphs are left as there were
pub number_without_insertion : (z : Sizes) (cs : List Chain) (ls : List (List range_flags_t)) (b : Buffer) → 0 < z.slots → has_insertion cs ≡ false → length (substituted z (switched_by cs ls) b).buffer.line ≡ length b.line
number_without_insertion z cs ls b some none = number_of_chains z cs ls (untouched (prepared b)) some none ∙ length_concat (without_positions b) None None

-- a run over what is prepared
whole_of : (z : Sizes) (chains : List SwitchedChain) (b d : Buffer) → d ≡ prepared b → (in_order (chain_run z) chains d).buffer ≡ (substituted z chains b).buffer
whole_of z chains b d ready = ap (λ (x : Buffer). (in_order (chain_run z) chains x).buffer) ready

most_of_prepared : (b d : Buffer) → d ≡ prepared b → d.max_len ≡ b.max_len
most_of_prepared b d ready = ap (λ (x : Buffer). x.max_len) ready ∙ of_concat (λ (x : Buffer). x.max_len) (without_positions b) None None (λ gs. refl)

-- one that is refused as too long would leave more than the longest line, and at most n + M glyphs
pub too_long_by_extent : (z : Sizes) (chains : List SwitchedChain) (b d : Buffer) (e : AatError) → 0 < z.slots → d ≡ prepared b → e ≡ TooLong → IsRefusal d (in_order (chain_run z) chains d).buffer e → b.max_len < extent b
too_long_by_extent z chains b d e some ready is h =
    let passed : d.max_len < length (in_order (chain_run z) chains d).buffer.line = subst (λ (x : AatError). IsRefusal d (in_order (chain_run z) chains d).buffer x) is h in
    let whole : length (in_order (chain_run z) chains d).buffer.line ≡ length (substituted z chains b).buffer.line = ap (λ (x : Buffer). length x.line) (whole_of z chains b d ready) in
    let most : d.max_len ≡ b.max_len = most_of_prepared b d ready in
    let bound : extent (substituted z chains b).buffer ≤ extent b = (substitution_is_bounded z chains b some).1.0 in
    omega (arith, passed, whole, most, bound)

-- where no subtable inserts, nothing is refused of a line that has at most its greatest length
pub none_refused : (z : Sizes) (cs : List Chain) (ls : List (List range_flags_t)) (b d : Buffer) (e : AatError) → 0 < z.slots → has_insertion cs ≡ false → length b.line ≤ b.max_len → d ≡ prepared b
    → IsRefusal d (in_order (chain_run z) (switched_by cs ls) d).buffer e → ⊥
none_refused z cs ls b d e some none within ready h =
    let whole : length (in_order (chain_run z) (switched_by cs ls) d).buffer.line ≡ length (substituted z (switched_by cs ls) b).buffer.line = ap (λ (x : Buffer). length x.line) (whole_of z (switched_by cs ls) b d ready) in
    let same : length (substituted z (switched_by cs ls) b).buffer.line ≡ length b.line = number_without_insertion z cs ls b some none in
    let long : length d.line ≡ length b.line = ap (λ (x : Buffer). length x.line) ready ∙ length_concat (without_positions b) None None in
    by_error e h (whole ∙ same) long (most_of_prepared b d ready)
  where
    by_error : (e : AatError) → IsRefusal d (in_order (chain_run z) (switched_by cs ls) d).buffer e → length (in_order (chain_run z) (switched_by cs ls) d).buffer.line ≡ length b.line → length d.line ≡ length b.line → d.max_len ≡ b.max_len → ⊥
    by_error (AaltValue value) h same long most = h
    by_error TooLong h same long most = omega (arith, h, same, most, within)
    by_error OutOfMemory h same long most = omega (arith, h.0, same, long)
    by_error BufferFailed h same long most = h

-- what was run over what is prepared leaves the clusters in their order, and where no subtable inserts, as many glyphs
module _ (z : Sizes) (cs : List Chain) (ls : List (List range_flags_t)) (b d v : Buffer) (turns : ℕ) (some : 0 < z.slots) (ready : d ≡ prepared b)
    (ran : IsOutcome (in_order (chain_run z) (switched_by cs ls) d) v turns)
  where
    left : v ≡ (substituted z (switched_by cs ls) b).buffer
    left = ap (λ (o : Outcome). o.buffer) ran ∙ whole_of z (switched_by cs ls) b d ready

    pub order_of_ran : HasOrderOf b v
    order_of_ran = subst (HasOrderOf b) (sym left) (clusters_keep_their_order z (switched_by cs ls) b some)

    pub number_of_ran : has_insertion cs ≡ false → length v.line ≡ length b.line
    number_of_ran none = ap (λ (x : Buffer). length x.line) left ∙ number_without_insertion z cs ls b some none

-- so does what is prepared alone
pub order_of_prepared : (z : Sizes) (b d : Buffer) → 0 < z.slots → d ≡ prepared b → HasOrderOf b d
order_of_prepared z b d some ready = subst (HasOrderOf b) (sym ready) (clusters_keep_their_order z [] b some)
