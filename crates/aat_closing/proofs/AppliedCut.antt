-- The line that the closing runs of all chains leave is cut.
use Rattle.std.proofs.Common.{◌≡◌, ◌∙◌, ap, sym, subst, refl, ◌<◌, true, List, Option}
use Rattle.aat_buffer.specs.Buffer.{Buffer}
use Rattle.aat_font.specs.Face.{chains_in, tables_of}
use Rattle.aat_font.specs.declared.face.hb_font_t.{hb_font_t}
use Rattle.aat_run.specs.declared.driver.MachineRun.{MachineRun}
use Rattle.aat_run.specs.declared.ranges.range_flags_t.{range_flags_t}
use Rattle.aat_map.specs.Map.{lists_for}
use Rattle.aat_map.specs.SwitchedChains.{switched_by}
use Rattle.aat_kinds.specs.Kinds.{Sizes}
use Rattle.aat_cut_kinds.specs.Parts.{LeftInParts, back_part, front_part}
use Rattle.aat_closing.specs.AppliedCuts.{CanBeCut}
use Rattle.aat_closing.specs.ClosingApplied.{closing_applied_by}
use Rattle.aat_closing.specs.ClosingRuns.{IsTold, Told}
use Rattle.aat_closing.specs.facts.ChainsSteady.{chains_leave_parts_about}

pub applied_cut : (z : Sizes) (face : hb_font_t) (m : Option (List (List range_flags_t))) (b left : Buffer) (o : MachineRun) → 0 < z.slots
    → IsTold (closing_applied_by z face m b) left o → o.is_through ≡ true → CanBeCut z face m b left
applied_cut z face m b left o slots is through cursor plain low c q even rise opens budget between =
    let buffer : left ≡ (closing_applied_by z face m b).buffer = ap (λ (t : Told). t.buffer) is in
    let told : (closing_applied_by z face m b).is_told ≡ true = sym (ap (λ (t : Told). t.is_told) is) ∙ through in
    let parts =
    chains_leave_parts_about z b.direction low c (switched_by (chains_in (tables_of face).morx) (lists_for m (chains_in (tables_of face).morx))) slots even q b refl cursor plain rise
    (record { told = told; opens = rw (sym buffer) opens; budget = rw (sym buffer) budget }) (rw (sym buffer) between) in
    subst (λ (d : Buffer). LeftInParts d (closing_applied_by z face m (front_part q b)).buffer (closing_applied_by z face m (back_part q b)).buffer) (sym buffer) parts.parts
