-- The laws of the stack acts.
use Rattle.std.proofs.Common.{ℕ, ◌+◌, ◌&&◌, ◌==◌, not, Bool, true, false, cond, List, [], ◌∷◌, length, ℤ, pos, negsuc, Option, Some, None, nat_lt, nat_le, max}
use Rattle.std.specs.Ordering.{int_eq}
use Rattle.aat_buffer.specs.Buffer.{Buffer, with_position, glyph_at, position_at}
use Rattle.aat_buffer.specs.facts.Cases.{chosen}
use Rattle.aat_glyph.specs.Directions.{is_horizontal}
use Rattle.aat_glyph.specs.declared.glyph.GlyphPosition.{GlyphPosition}
use Rattle.aat_machine_tables.specs.declared.state_table.GenericStateEntry.{GenericStateEntry}
use Rattle.aat_machine_tables.specs.declared.entries.EntryData.{EntryData}
use Rattle.aat_machine_tables.specs.declared.entries.KernEntryData.{KernEntryData}
use Rattle.aat_machine_tables.specs.Entries.{has_flag, is_present}
use Rattle.aat_run.specs.Context.{Moved}
use Rattle.aat_run.specs.Laws.{FitsAlways}
use Rattle.aat_run.specs.Switches.{meets}
use Rattle.aat_kerning_machines.specs.KerningLaws.{PositionsAlone, ChangesPositionsAlone, IsLawfulDriver}
use Rattle.aat_kerning_machines.specs.KerningMachine.{has_action}
use Rattle.aat_kerning_machines.specs.Positions.{with_attachment_flag, with_cross_offset, attached_as, cross_offset, plus, with_shift, with_advance}
use Rattle.aat_kerning_machines.specs.Stack.{across, along, even, with_value_for, ends_list, popped, kerx_act, kern_act, kerx_value, kern_value, pushed_by, kerx_driver, kern_driver}
use Rattle.aat_kerning_machines.specs.facts.Writes.{same_place, place_of_write, place_of_attachment}

-- a property that writes of positions and scratch flags keep
module _ (P : Buffer → Type 0)
    (on_write : (i : ℕ) (q : GlyphPosition) (b : Buffer) → P b → P (with_position b i q))
    (on_attach : (b : Buffer) → P b → P (with_attachment_flag b))
  where
    of_across : (v : ℤ) (i : ℕ) (b : Buffer) → P b → P (across v i b)
    of_across v i b p =
        let h = is_horizontal b.direction in
        let q = position_at b i in
        let reset = with_position b i (with_cross_offset h (pos 0) (attached_as 0 (pos 0) q)) in
        let added = with_position b i (with_cross_offset h (plus (cross_offset h q) v) q) in
        chosen P (int_eq v (negsuc 32767)) reset (cond (q.attach_type == 0) b (with_attachment_flag added))
        (λ _. on_write i _ b p) (λ _.
        chosen P (q.attach_type == 0) b (with_attachment_flag added)
        (λ _. p) (λ _. on_attach added (on_write i _ b p)))

    of_along : (kern_mask : ℕ) (v : ℤ) (i : ℕ) (b : Buffer) → P b → P (along kern_mask v i b)
    of_along kern_mask v i b p =
        let h = is_horizontal b.direction in
        let q = position_at b i in
        let is_asked = meets (glyph_at b.line i).mask kern_mask in
        chosen P (cond h is_asked (is_asked && int_eq q.y_offset (pos 0)))
        (with_position b i (with_shift h v (with_advance h v q))) b
        (λ _. on_write i _ b p) (λ _. p)

    pub of_place :
        (is_cross : Bool) (kern_mask : ℕ) (v : ℤ) (i : ℕ) (b : Buffer) → P b
        → P (with_value_for is_cross kern_mask v i b)
    of_place is_cross kern_mask v i b p =
        chosen P (nat_lt i (length b.line)) (cond is_cross (across (even v) i b) (along kern_mask (even v) i b)) b
        (λ _. chosen P is_cross (across (even v) i b) (along kern_mask (even v) i b)
        (λ _. of_across (even v) i b p) (λ _. of_along kern_mask (even v) i b p))
        (λ _. p)

    of_value :
        (o : Option ℤ) (stack : List ℕ) (b : Buffer) (more : ℤ → Moved (List ℕ)) → P b → ((v : ℤ) → P (more v).buffer)
        → P (elim o as (λ _. Moved (List ℕ)) [ None ↦ record { registers = stack; buffer = b } | Some v ↦ more v ]).buffer
    of_value None stack b more p f = p
    of_value (Some v) stack b more p f = f v

    of_end :
        (t : Bool) (x y : Moved (List ℕ)) → P x.buffer → P y.buffer
        → P (elim t as (λ _. Moved (List ℕ)) [ true ↦ x | false ↦ y ]).buffer
    of_end true x y p q = p
    of_end false x y p q = q

    of_popped :
        (is_cross : Bool) (kern_mask : ℕ) (value : ℕ → Option ℤ) (step : ℕ) (stack : List ℕ) (index : ℕ) (b : Buffer)
        → P b
        → P (popped is_cross kern_mask value step stack index b).buffer
    unfolding popped
    of_popped is_cross kern_mask value step [] index b p = p
    of_popped is_cross kern_mask value step (i ∷ stack) index b p =
        of_value (value index) stack b _ p (λ v.
        let d = with_value_for is_cross kern_mask v i b in
        let kept = of_place is_cross kern_mask v i b p in
        of_end (ends_list v i b) (record { registers = stack; buffer = d })
        (popped is_cross kern_mask value step stack (index + step) d)
        kept (of_popped is_cross kern_mask value step stack (index + step) d kept))

    pub of_kerx :
        (is_cross : Bool) (kern_mask tuple_count : ℕ) (values : List ℤ)
        (e : GenericStateEntry EntryData) (stack : List ℕ) (b : Buffer)
        → P b
        → P (kerx_act is_cross kern_mask tuple_count values e stack b).buffer
    unfolding kerx_act
    of_kerx is_cross kern_mask tuple_count values e stack b p =
        let step = max tuple_count 1 in
        chosen (λ (n : Moved (List ℕ)). P n.buffer) (has_action e && nat_le tuple_count 65535) _ _
        (λ _. of_popped is_cross kern_mask (kerx_value values step) step
        (pushed_by e b.cursor (cond (has_flag e 0x2000) [] stack)) e.extra.action_index b p)
        (λ _. p)

    pub of_kern :
        (is_cross : Bool) (kern_mask : ℕ) (values : List ℤ)
        (e : GenericStateEntry KernEntryData) (stack : List ℕ) (b : Buffer)
        → P b
        → P (kern_act is_cross kern_mask values e stack b).buffer
    unfolding kern_act
    of_kern is_cross kern_mask values e stack b p =
        chosen (λ (n : Moved (List ℕ)). P n.buffer) (not (is_present e.extra.value_index)) _ _ (λ _. p) (λ _.
        chosen (λ (n : Moved (List ℕ)). P n.buffer) (nat_lt e.extra.value_index (length values)) _ _
        (λ _. of_popped is_cross kern_mask (kern_value values) 1 (pushed_by e b.cursor stack) e.extra.value_index b p)
        (λ _. p))

pub kerx_keeps_place :
    (is_cross : Bool) (kern_mask tuple_count : ℕ) (values : List ℤ)
    → ChangesPositionsAlone (kerx_act is_cross kern_mask tuple_count values) FitsAlways
kerx_keeps_place is_cross kern_mask tuple_count values e stack b fit =
    of_kerx (PositionsAlone b) (place_of_write b) (place_of_attachment b)
    is_cross kern_mask tuple_count values e stack b (same_place b)

pub kern_keeps_place :
    (is_cross : Bool) (kern_mask : ℕ) (values : List ℤ) → ChangesPositionsAlone (kern_act is_cross kern_mask values) FitsAlways
kern_keeps_place is_cross kern_mask values e stack b fit =
    of_kern (PositionsAlone b) (place_of_write b) (place_of_attachment b) is_cross kern_mask values e stack b (same_place b)

pub kerx_is_lawful :
    (is_cross : Bool) (kern_mask tuple_count : ℕ) (values : List ℤ)
    → IsLawfulDriver (kerx_driver is_cross kern_mask tuple_count values) FitsAlways
kerx_is_lawful is_cross kern_mask tuple_count values = record {
  fresh = λ n. tt;
  passes_fit = λ r p n fit below. tt;
  keeps_fit = λ e r b fit below. tt;
  keeps_place = kerx_keeps_place is_cross kern_mask tuple_count values;
}

pub kern_is_lawful :
    (is_cross : Bool) (kern_mask : ℕ) (values : List ℤ)
    → IsLawfulDriver (kern_driver is_cross kern_mask values) FitsAlways
kern_is_lawful is_cross kern_mask values = record {
  fresh = λ n. tt;
  passes_fit = λ r p n fit below. tt;
  keeps_fit = λ e r b fit below. tt;
  keeps_place = kern_keeps_place is_cross kern_mask values;
}
