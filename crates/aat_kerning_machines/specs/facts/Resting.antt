-- Entries that rest, by the kind of the machine: the law of `StateTableDriver`.
use Rattle.std.proofs.Common.{◌≡◌, ap, refl, ℕ, ◌&&◌, Bool, true, false, not, List, ℤ, Option, Some, None}
use Rattle.aat_buffer.specs.Buffer.{Buffer}
use Rattle.aat_kerning_tables.specs.AnchorPoints.{Points}
use Rattle.aat_machine_tables.specs.Entries.{has_flag, is_present}
use Rattle.aat_machine_tables.specs.declared.entries.EntryData.{EntryData}
use Rattle.aat_machine_tables.specs.declared.entries.KernEntryData.{KernEntryData}
use Rattle.aat_machine_tables.specs.declared.state_table.GenericStateEntry.{GenericStateEntry}
use Rattle.aat_kerning_machines.specs.Anchors.{Held, anchor_act, anchor_rests, held_act}
use Rattle.aat_kerning_machines.specs.KerningMachine.{has_action}
use Rattle.aat_kerning_machines.specs.Stack.{kern_act, kern_rests, kerx_act, kerx_rests}
use Rattle.aat_run.specs.Context.{Moved}
use Rattle.aat_run.specs.Laws.{RestsBy}
use Rattle.aat_run.specs.facts.IdleRuns.{both}

clear : (b : Bool) → not b ≡ true → b ≡ false
clear true h = cc
clear false h = refl

-- entries of `kern`
kern_parts :
    (e : GenericStateEntry KernEntryData) → kern_rests e ≡ true
    → (has_flag e 0x8000 ≡ false) × (is_present e.extra.value_index ≡ false)
kern_parts e rests =
    let p = both (not (has_flag e 0x8000)) (not (is_present e.extra.value_index)) rests in
    (clear (has_flag e 0x8000) p.0, clear (is_present e.extra.value_index) p.1)

kern_stays :
    (is_cross : Bool) (kern_mask : ℕ) (values : List ℤ) (e : GenericStateEntry KernEntryData) → kern_rests e ≡ true
    → (stack : List ℕ) (b : Buffer)
    → kern_act is_cross kern_mask values e stack b ≡ record { registers = stack; buffer = b }
unfolding kern_act
kern_stays is_cross kern_mask values e rests stack b =
    let p = kern_parts e rests in
    rw (p.0, p.1) refl

pub kern_rest :
    (is_cross : Bool) (kern_mask : ℕ) (values : List ℤ)
    → RestsBy {R = List ℕ} kern_rests (λ e r p n. is_present e.extra.value_index) (kern_act is_cross kern_mask values)
kern_rest is_cross kern_mask values = record {
  unactionable = λ e rests r p n. (kern_parts e rests).1;
  stays = kern_stays is_cross kern_mask values;
}

-- entries of `kerx` with a stack
kerx_parts :
    (e : GenericStateEntry EntryData) → kerx_rests e ≡ true
    → (has_flag e 0x8000 ≡ false) × (has_flag e 0x2000 ≡ false) × (has_action e ≡ false)
kerx_parts e rests =
    let first = both (not (has_flag e 0x8000)) (not (has_flag e 0x2000) && not (has_action e)) rests in
    let rest = both (not (has_flag e 0x2000)) (not (has_action e)) first.1 in
    (clear (has_flag e 0x8000) first.0, clear (has_flag e 0x2000) rest.0, clear (has_action e) rest.1)

kerx_stays :
    (is_cross : Bool) (kern_mask tuple_count : ℕ) (values : List ℤ) (e : GenericStateEntry EntryData)
    → kerx_rests e ≡ true → (stack : List ℕ) (b : Buffer)
    → kerx_act is_cross kern_mask tuple_count values e stack b ≡ record { registers = stack; buffer = b }
unfolding kerx_act
kerx_stays is_cross kern_mask tuple_count values e rests stack b =
    let p = kerx_parts e rests in
    rw (p.0, p.1, p.2) refl

pub kerx_rest :
    (is_cross : Bool) (kern_mask tuple_count : ℕ) (values : List ℤ)
    → RestsBy {R = List ℕ} kerx_rests (λ e r p n. has_action e) (kerx_act is_cross kern_mask tuple_count values)
kerx_rest is_cross kern_mask tuple_count values = record {
  unactionable = λ e rests r p n. (kerx_parts e rests).2;
  stays = kerx_stays is_cross kern_mask tuple_count values;
}

-- entries of `kerx` with anchors
anchor_parts :
    (e : GenericStateEntry EntryData) → anchor_rests e ≡ true → (has_flag e 0x8000 ≡ false) × (has_action e ≡ false)
anchor_parts e rests =
    let p = both (not (has_flag e 0x8000)) (not (has_action e)) rests in
    (clear (has_flag e 0x8000) p.0, clear (has_action e) p.1)

anchor_stays :
    (points : Option Points) (pairs : List (ℕ × ℕ)) (e : GenericStateEntry EntryData) → anchor_rests e ≡ true
    → (mark : Option ℕ) (b : Buffer) → anchor_act points pairs e mark b ≡ record { registers = mark; buffer = b }
unfolding anchor_act
anchor_stays points pairs e rests None b =
    let p = anchor_parts e rests in
    rw p.0 refl
anchor_stays points pairs e rests (Some mark) b =
    let p = anchor_parts e rests in
    rw (p.0, p.1) refl

-- over the points that a driver holds
pub held_rest : (pairs : List (ℕ × ℕ)) → RestsBy {R = Held} anchor_rests (λ e r p n. has_action e) (held_act pairs)
held_rest pairs = record {
  unactionable = λ e rests r p n. (anchor_parts e rests).1;
  stays = λ e rests h b. ap (λ (m : Moved (Option ℕ)). record { registers = record h { mark = m.registers }; buffer = m.buffer })
      (anchor_stays h.points pairs e rests h.mark b);
}
