-- What closing substitution under a map leaves, from what the call answers.
use Rattle.std.proofs.Common.{◌≡◌, ◌∙◌, ap, sym, refl, true, true≢false, List}
use Rattle.std.specs.Prelude.{MatchOption, Option, Some, None, is_none}
use Rattle.aat_buffer.specs.Buffer.{Buffer}
use Rattle.aat_closing.specs.ClosingApplied.{closing_applied_by}
use Rattle.aat_closing.specs.ClosingChains.{closing_chain}
use Rattle.aat_closing.specs.ClosingRuns.{IsTold, Told, nothing_run, told_in_order}
use Rattle.aat_font.specs.Face.{chains_in, tables_of}
use Rattle.aat_font.specs.declared.face.hb_font_t.{hb_font_t}
use Rattle.aat_font.specs.declared.morx.Morx.{Morx}
use Rattle.aat_kinds.specs.Kinds.{Sizes, sizes_for}
use Rattle.aat_map.specs.Map.{lists_for}
use Rattle.aat_map.specs.SwitchedChains.{switched_by}
use Rattle.aat_morx.specs.Substitution.{prepared}
use Rattle.aat_run.specs.declared.driver.MachineRun.{MachineRun}
use Rattle.aat_run.specs.declared.ranges.range_flags_t.{range_flags_t}
use Rattle.aat_drawn_text.specs.inside.TextLine.{told_by}

-- without the table nothing is run
without_table : (z : Sizes) (o : Option Morx) (m : Option (List (List range_flags_t))) (b : Buffer) → is_none o ≡ true
    → told_in_order (closing_chain z) (switched_by (chains_in o) (lists_for m (chains_in o))) (prepared b) ≡ nothing_run (prepared b)
unfolding told_in_order
without_table z None m b none = refl
without_table z (Some morx) m b none = absurd (true≢false (sym none))

-- the buffer, and whether the runs told
pub closed_so : (face : hb_font_t) (m : Option (List (List range_flags_t))) (old new : Buffer) (answer : Option MachineRun)
    → is_none answer ≡ is_none (tables_of face).morx
    → MatchOption answer (new ≡ prepared old) (IsTold (closing_applied_by (sizes_for face) face m old) new)
    → (new ≡ (closing_applied_by (sizes_for face) face m old).buffer) × (told_by answer ≡ (closing_applied_by (sizes_for face) face m old).is_told)
closed_so face m old new None known run =
    let none = without_table (sizes_for face) (tables_of face).morx m old (sym known) in
    (run ∙ sym (ap (λ (o : Told). o.buffer) none), sym (ap (λ (o : Told). o.is_told) none))
closed_so face m old new (Some answer) known run = (ap (λ (o : Told). o.buffer) run, ap (λ (o : Told). o.is_told) run)
