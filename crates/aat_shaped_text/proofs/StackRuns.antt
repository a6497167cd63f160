-- Kerning machines do not look at the flags of glyphs where their acts do not. The acts of stacks do not, along the line and
-- across it.
use Rattle.std.proofs.Common.{◌≡◌, ◌∙◌, sym, ap, refl, ℕ, ◌+◌, ◌-◌, ◌&&◌, ◌||◌, not, Bool, true, false, cond, List, [], ◌∷◌, length, ℤ, pos, negsuc, ◌==◌, nat_lt, nat_le, max, true≢false}
use Rattle.std.specs.Prelude.{Option, Some, None}
use Rattle.std.specs.Ordering.{int_eq}
use Rattle.aat_buffer.specs.Buffer.{Buffer, glyph_at, position_at, with_cursor}
use Rattle.aat_buffer.specs.facts.Cases.{either}
use Rattle.aat_glyph.specs.Directions.{is_horizontal}
use Rattle.aat_glyph.specs.declared.glyph.GlyphPosition.{GlyphPosition}
use Rattle.aat_glyph.specs.declared.glyph.hb_glyph_info_t.{hb_glyph_info_t}
use Rattle.aat_machine_tables.specs.Entries.{has_flag, is_present}
use Rattle.aat_machine_tables.specs.Table.{TableValue}
use Rattle.aat_machine_tables.specs.declared.state_table.GenericStateEntry.{GenericStateEntry}
use Rattle.aat_run.specs.Budget.{has_operations, paid, potential}
use Rattle.aat_run.specs.Context.{Config, Moved, class_at, is_at_end, is_inside, start}
use Rattle.aat_run.specs.Laws.{FitsAlways}
use Rattle.aat_run.specs.Machine.{Ends, Goes, OnGoes, Turn, behind_act, break_marked_at, passed, run, settled_by}
use Rattle.aat_run.specs.Switches.{meets}
use Rattle.aat_run.specs.facts.Runs.{mapped, run_maps}
use Rattle.aat_kerning_machines.specs.KerningLaws.{ChangesPositionsAlone}
use Rattle.aat_kerning_machines.specs.KerningMachine.{Driver, KerningMachine, break_marked_behind, depends_on_before, driver_run, has_action, kerning_acted, kerning_by_entry, kerning_machine_of, kerning_marked, kerning_stepped, kerning_turn, kerning_whole, looked_ahead, moved_on}
use Rattle.aat_kerning_machines.specs.Positions.{attached_as, cross_offset, on_position, plus, with_advance, with_attachment_flag, with_cross_offset, with_shift}
use Rattle.aat_kerning_machines.specs.Stack.{across, along, ends_list, even, is_odd, kern_act, kern_value, kerx_act, kerx_value, popped, pushed_by, with_value_for}
use Rattle.aat_kerning_machines.specs.facts.KerningRuns.{buffer_kept}
use Rattle.aat_closing.specs.Unflagged.{bare, erased, erased_config, erased_left}
use Rattle.aat_closing.specs.facts.BlindBuffers.{erased_unsafe}
use Rattle.aat_closing.specs.facts.BlindLines.{bare_at, bare_length}
use Rattle.aat_shaped_text.proofs.KernedBlind.{meets_unflagged}

-- a run leaves the line as it was but for flags, where its act keeps the line
module _ {T : Type 0} (pays_first : Bool) (table : TableValue (GenericStateEntry T)) (driver : Driver (List ℕ) (GenericStateEntry T))
    (places : ChangesPositionsAlone driver.act FitsAlways)
  where
    pub run_bare : (b : Buffer) → bare (driver_run pays_first table driver b).buffer.line ≡ bare b.line
    unfolding driver_run
    run_bare b =
        buffer_kept (kerning_machine_of pays_first table driver) FitsAlways places (λ e r c fit below. tt) (λ r p n fit below. tt) (λ c. bare c.line ≡ bare b.line)
        (λ c i j h. ap (λ (x : Buffer). x.line) (erased_unsafe c i j) ∙ h)
        (λ e r c fit h. ap bare (places e r c fit).line ∙ h) (λ c h. h) (λ c h. h)
        (start true b driver.fresh) tt refl

-- Flags are not looked at: what an act leaves of a line without them is what it leaves of the line, without them.
abbrev pub IsUnseeing : {R E : Type 0} → (E → R → Buffer → Moved R) → Type 0
IsUnseeing {R} {E} act = (e : E) (r : R) (b : Buffer) → act e r (erased b) ≡ erased_left (act e r b)

meets_bare : (b : Buffer) (i : ℕ) → meets (glyph_at (bare b.line) i).mask 8 ≡ meets (glyph_at b.line i).mask 8
meets_bare b i = ap (λ (g : hb_glyph_info_t). meets g.mask 8) (bare_at b.line i) ∙ meets_unflagged (glyph_at b.line i).mask

erased_choice : (t : Bool) (x y : Buffer) → cond t (erased x) (erased y) ≡ erased (cond t x y)
erased_choice true x y = refl
erased_choice false x y = refl

erased_along : (v : ℤ) (i : ℕ) (b : Buffer) → along 8 v i (erased b) ≡ erased (along 8 v i b)
erased_along v i b =
    let h = is_horizontal b.direction in
    let f : GlyphPosition → GlyphPosition = λ q. with_shift h v (with_advance h v q) in
    let here = int_eq (position_at b i).y_offset (pos 0) in
    ap (λ (t : Bool). cond (cond h t (t && here)) (erased (on_position f i b)) (erased b)) (meets_bare b i)
    ∙ (let asked = meets (glyph_at b.line i).mask 8 in erased_choice (cond h asked (asked && here)) (on_position f i b) b)

erased_across : (v : ℤ) (i : ℕ) (b : Buffer) → across v i (erased b) ≡ erased (across v i b)
erased_across v i b =
    let h = is_horizontal b.direction in
    let q = position_at b i in
    let reset = on_position (λ (p : GlyphPosition). with_cross_offset h (pos 0) (attached_as 0 (pos 0) p)) i b in
    let added = with_attachment_flag (on_position (λ (p : GlyphPosition). with_cross_offset h (plus (cross_offset h p) v) p) i b) in
    ap (λ (x : Buffer). cond (int_eq v (negsuc 32767)) (erased reset) x) (erased_choice (q.attach_type == 0) b added)
    ∙ erased_choice (int_eq v (negsuc 32767)) reset (cond (q.attach_type == 0) b added)

-- a value for a place, along the line or across it
abbrev valued : Bool → ℤ → ℕ → Buffer → Buffer
valued is_cross v i b = cond is_cross (across v i b) (along 8 v i b)

erased_valued : (is_cross : Bool) (v : ℤ) (i : ℕ) (b : Buffer) → valued is_cross v i (erased b) ≡ erased (valued is_cross v i b)
erased_valued true v i b = erased_across v i b
erased_valued false v i b = erased_along v i b

erased_value : (is_cross : Bool) (v : ℤ) (i : ℕ) (b : Buffer) → with_value_for is_cross 8 v i (erased b) ≡ erased (with_value_for is_cross 8 v i b)
erased_value is_cross v i b =
    ap (λ (n : ℕ). cond (nat_lt i n) (valued is_cross (even v) i (erased b)) (erased b)) (bare_length b.line)
    ∙ (ap (λ (x : Buffer). cond (nat_lt i (length b.line)) x (erased b)) (erased_valued is_cross (even v) i b)
    ∙ erased_choice (nat_lt i (length b.line)) (valued is_cross (even v) i b) b)

erased_ends : (v : ℤ) (i : ℕ) (b : Buffer) → ends_list v i (erased b) ≡ ends_list v i b
erased_ends v i b = ap (λ (n : ℕ). is_odd v && nat_lt i n) (bare_length b.line)

-- where a list of values ends, or goes on
same_end :
    (stack : List ℕ) (t u : Bool) → t ≡ u → (x y : Buffer) → x ≡ erased y → (m n : Moved (List ℕ)) → m ≡ erased_left n
    → (elim t as (λ _. Moved (List ℕ)) [ true ↦ record { registers = stack; buffer = x } | false ↦ m ])
    ≡ erased_left (elim u as (λ _. Moved (List ℕ)) [ true ↦ record { registers = stack; buffer = y } | false ↦ n ])
same_end stack true true e x y same m n more = ap (λ (b : Buffer). record { registers = stack; buffer = b }) same
same_end stack false false e x y same m n more = more
same_end stack true false e x y same m n more = absurd (true≢false e)
same_end stack false true e x y same m n more = absurd (true≢false (sym e))

erased_popped :
    (is_cross : Bool) (value : ℕ → Option ℤ) (step : ℕ) (stack : List ℕ) (index : ℕ) (b : Buffer)
    → popped is_cross 8 value step stack index (erased b) ≡ erased_left (popped is_cross 8 value step stack index b)
unfolding popped
erased_popped is_cross value step [] index b = refl
erased_popped is_cross value step (i ∷ stack) index b =
    by (λ v. erased_popped is_cross value step stack (index + step) (with_value_for is_cross 8 v i b)) (value index)
  where
    by :
        ((v : ℤ) → popped is_cross 8 value step stack (index + step) (erased (with_value_for is_cross 8 v i b))
        ≡ erased_left (popped is_cross 8 value step stack (index + step) (with_value_for is_cross 8 v i b)))
        → (o : Option ℤ)
        → (elim o as (λ _. Moved (List ℕ)) [
          | None ↦ record { registers = stack; buffer = erased b }
          | Some v ↦ elim (ends_list v i (erased b)) as (λ _. Moved (List ℕ)) [
            | true ↦ record { registers = stack; buffer = with_value_for is_cross 8 v i (erased b) }
            | false ↦ popped is_cross 8 value step stack (index + step) (with_value_for is_cross 8 v i (erased b))
          ]
        ])
        ≡ erased_left (elim o as (λ _. Moved (List ℕ)) [
          | None ↦ record { registers = stack; buffer = b }
          | Some v ↦ elim (ends_list v i b) as (λ _. Moved (List ℕ)) [
            | true ↦ record { registers = stack; buffer = with_value_for is_cross 8 v i b }
            | false ↦ popped is_cross 8 value step stack (index + step) (with_value_for is_cross 8 v i b)
          ]
        ])
    by later None = refl
    by later (Some v) =
        same_end stack (ends_list v i (erased b)) (ends_list v i b) (erased_ends v i b)
        (with_value_for is_cross 8 v i (erased b)) (with_value_for is_cross 8 v i b) (erased_value is_cross v i b)
        (popped is_cross 8 value step stack (index + step) (with_value_for is_cross 8 v i (erased b)))
        (popped is_cross 8 value step stack (index + step) (with_value_for is_cross 8 v i b))
        (ap (popped is_cross 8 value step stack (index + step)) (erased_value is_cross v i b) ∙ later v)

pub moved_choice : {R : Type 0} (t : Bool) (x y : Moved R) → cond t (erased_left x) (erased_left y) ≡ erased_left (cond t x y)
moved_choice true x y = refl
moved_choice false x y = refl

pub kern_unseeing : (is_cross : Bool) (values : List ℤ) → IsUnseeing (kern_act is_cross 8 values)
unfolding kern_act
kern_unseeing is_cross values e r b =
    let filled = pushed_by e b.cursor r in
    let index = e.extra.value_index in
    let pops = popped is_cross 8 (kern_value values) 1 filled index b in
    rw (erased_popped is_cross (kern_value values) 1 filled index b)
    (ap (λ (m : Moved (List ℕ)). cond (not (is_present index)) (record { registers = filled; buffer = erased b }) m)
    (moved_choice (nat_lt index (length values)) pops (record { registers = []; buffer = b }))
    ∙ moved_choice (not (is_present index)) (record { registers = filled; buffer = b })
    (cond (nat_lt index (length values)) pops (record { registers = []; buffer = b })))

pub kerx_unseeing : (is_cross : Bool) (tuple_count : ℕ) (values : List ℤ) → IsUnseeing (kerx_act is_cross 8 tuple_count values)
unfolding kerx_act
kerx_unseeing is_cross tuple_count values e r b =
    let filled = pushed_by e b.cursor (cond (has_flag e 0x2000) [] r) in
    let step = max tuple_count 1 in
    let pops = popped is_cross 8 (kerx_value values step) step filled e.extra.action_index b in
    rw (erased_popped is_cross (kerx_value values step) step filled e.extra.action_index b)
    (moved_choice (has_action e && nat_le tuple_count 65535) pops (record { registers = filled; buffer = b }))

-- A run without marks.
module _ {R E : Type 0} (m : KerningMachine R E) where
  abbrev quiet_ahead : E → Option E → Config R → Turn (Config R)
  quiet_ahead e None c = Ends c
  quiet_ahead e (Some f) c = kerning_acted m e c

  abbrev quiet_by_entry : Option E → Config R → Turn (Config R)
  quiet_by_entry None c = Ends c
  quiet_by_entry (Some e) c =
      cond (nat_lt (c.buffer.cursor + 1) (length c.buffer.line)) (quiet_ahead e (m.entry c.state 0) c) (kerning_acted m e c)

  abbrev quiet_turn : Config R → Turn (Config R)
  quiet_turn c = quiet_by_entry (m.entry c.state (class_at m.class_of c.buffer)) (record c { turns = c.turns + 1 })

  module _ (unseeing : IsUnseeing m.act) where
    view_choice : (t : Bool) (x y : Turn (Config R)) → cond t (mapped erased_config x) (mapped erased_config y) ≡ mapped erased_config (cond t x y)
    view_choice true x y = refl
    view_choice false x y = refl

    moved_same : (a : Bool) (b : Buffer) → moved_on a (erased b) ≡ erased (moved_on a b)
    moved_same a b = erased_choice (a || not (has_operations b)) (passed b) b

    stepped_same : (e : E) (b : Buffer) → kerning_stepped m e (erased b) ≡ erased (kerning_stepped m e b)
    stepped_same e b =
        ap (λ (x : Buffer). cond m.pays_first x (paid 1 (moved_on (m.advances e) (erased b)))) (moved_same (m.advances e) (paid 1 b))
        ∙ (ap (λ (x : Buffer). cond m.pays_first (erased (moved_on (m.advances e) (paid 1 b))) (paid 1 x)) (moved_same (m.advances e) b)
        ∙ erased_choice m.pays_first (moved_on (m.advances e) (paid 1 b)) (paid 1 (moved_on (m.advances e) b)))

    settled_same : (e : E) (c : Config R) → settled_by (kerning_stepped m e) (erased_config c) ≡ mapped erased_config (settled_by (kerning_stepped m e) c)
    settled_same e c =
        let stepped : Turn (Config R) = Goes (record c { buffer = kerning_stepped m e c.buffer }) in
        ap (λ (n : ℕ). cond (not (nat_lt c.buffer.cursor n)) (Ends (erased_config c)) (Goes (record c { buffer = kerning_stepped m e (erased c.buffer) }))) (bare_length c.buffer.line)
        ∙ (ap (λ (b : Buffer). cond (is_at_end c.buffer) (Ends (erased_config c)) (Goes (record c { buffer = b }))) (stepped_same e c.buffer)
        ∙ view_choice (is_at_end c.buffer) (Ends c) stepped)

    acted_same : (e : E) (c : Config R) → kerning_acted m e (erased_config c) ≡ mapped erased_config (kerning_acted m e c)
    unfolding kerning_acted
    acted_same e c =
        ap (λ (x : Moved R). settled_by (kerning_stepped m e) (behind_act x (m.next e) c)) (unseeing e c.registers c.buffer)
        ∙ settled_same e (behind_act (m.act e c.registers c.buffer) (m.next e) c)

    -- the act over a line that was marked before
    marked_same : (e : E) (c : Config R) (b : Buffer) → erased b ≡ erased c.buffer
        → kerning_acted m e (erased_config c) ≡ mapped erased_config (kerning_acted m e (record c { buffer = b }))
    marked_same e c b same =
        ap (λ (x : Buffer). kerning_acted m e (record c { buffer = x })) (sym same) ∙ acted_same e (record c { buffer = b })

    ahead_same : (e : E) (o : Option E) (c d : Config R) → erased_config d ≡ erased_config c
        → quiet_ahead e o (erased_config c) ≡ mapped erased_config (looked_ahead m e o d)
    unfolding looked_ahead
    ahead_same e None c d same = ap Ends (sym same)
    ahead_same e (Some f) c d same =
        ap (kerning_acted m e) (sym same) ∙ by (m.actionable f)
      where
        by : (t : Bool) → kerning_acted m e (erased_config d)
            ≡ mapped erased_config (kerning_acted m e (cond t (record d { buffer = break_marked_behind d.buffer }) d))
        by true = marked_same e d (break_marked_behind d.buffer) (erased_unsafe d.buffer (Some d.buffer.cursor) (Some (d.buffer.cursor + 2)))
        by false = acted_same e d

    marked_is : (e : E) (c : Config R) → erased (kerning_marked m e c) ≡ erased c.buffer
    unfolding kerning_marked
    marked_is e c =
        either erased (is_inside c.buffer && depends_on_before m e c) (break_marked_at c.buffer) c.buffer (erased c.buffer)
        (erased_unsafe c.buffer (Some (c.buffer.cursor - 1)) (Some (c.buffer.cursor + 1))) refl

    by_entry_same : (o : Option E) (c : Config R) → quiet_by_entry o (erased_config c) ≡ mapped erased_config (kerning_by_entry m o c)
    unfolding kerning_by_entry
    by_entry_same None c = refl
    by_entry_same (Some e) c =
        let d : Config R = record c { buffer = kerning_marked m e c } in
        let same : erased_config d ≡ erased_config c = ap (λ (b : Buffer). record c { buffer = b }) (marked_is e c) in
        let test : nat_lt (d.buffer.cursor + 1) (length d.buffer.line) ≡ nat_lt (c.buffer.cursor + 1) (length (bare c.buffer.line)) =
        ap (λ (n : ℕ). nat_lt (d.buffer.cursor + 1) n) (sym (bare_length d.buffer.line)) ∙ ap (λ (x : Config R). nat_lt (x.buffer.cursor + 1) (length x.buffer.line)) same in
        ap (λ (t : Bool). cond t (quiet_ahead e (m.entry c.state 0) (erased_config c)) (kerning_acted m e (erased_config c))) (sym test)
        ∙ (ap (λ (x : Turn (Config R)). cond (nat_lt (d.buffer.cursor + 1) (length d.buffer.line)) x (kerning_acted m e (erased_config c))) (ahead_same e (m.entry c.state 0) c d same)
        ∙ (ap (λ (x : Turn (Config R)). cond (nat_lt (d.buffer.cursor + 1) (length d.buffer.line)) (mapped erased_config (looked_ahead m e (m.entry c.state 0) d)) x)
        (marked_same e c (kerning_marked m e c) (marked_is e c))
        ∙ view_choice (nat_lt (d.buffer.cursor + 1) (length d.buffer.line)) (looked_ahead m e (m.entry c.state 0) d) (kerning_acted m e d)))

    class_same : (f : ℕ → Option ℕ) (b : Buffer) → class_at f (erased b) ≡ class_at f b
    class_same f b = let long = bare_length b.line in rw (long, bare_at b.line b.cursor) refl

    turn_same : (c : Config R) → quiet_turn (erased_config c) ≡ mapped erased_config (kerning_turn m c)
    unfolding kerning_turn
    turn_same c =
        ap (λ (k : ℕ). quiet_by_entry (m.entry c.state k) (record (erased_config c) { turns = c.turns + 1 })) (class_same m.class_of c.buffer)
        ∙ by_entry_same (m.entry c.state (class_at m.class_of c.buffer)) (record c { turns = c.turns + 1 })

    always : (t : Turn (Config R)) → OnGoes (λ (c : Config R). Unit {0}) t
    always (Ends c) = tt
    always (Goes c) = tt

    whole_same : (c : Config R) → run quiet_turn (potential (erased c.buffer) + 1) (erased_config c) ≡ erased_config (kerning_whole m c)
    unfolding kerning_whole
    whole_same c =
        run_maps erased_config quiet_turn (kerning_turn m) (λ c. Unit {0}) (λ d good. turn_same d) (λ d good. always (kerning_turn m d)) (potential (erased c.buffer) + 1) c tt
        ∙ ap (λ (n : ℕ). erased_config (run (kerning_turn m) (n + 1) c)) (potential_same c.buffer)
      where
        potential_same : (b : Buffer) → potential (erased b) ≡ potential b
        potential_same b = let long = bare_length b.line in rw long refl

-- runs over lines that are the same but for flags leave the same but for flags
pub run_unseeing : {T R : Type 0} (pays_first : Bool) (table : TableValue (GenericStateEntry T)) (driver : Driver R (GenericStateEntry T))
    → IsUnseeing driver.act → (a b : Buffer) → erased a ≡ erased b
    → erased (driver_run pays_first table driver a).buffer ≡ erased (driver_run pays_first table driver b).buffer
unfolding driver_run
run_unseeing {T} {R} pays_first table driver unseeing a b same =
    let m = kerning_machine_of pays_first table driver in
    let at_front : Buffer → Config R = λ c. start true c driver.fresh in
    let both : erased_config (kerning_whole m (at_front a)) ≡ erased_config (kerning_whole m (at_front b)) =
    sym (whole_same m unseeing (at_front a))
    ∙ (ap (λ (c : Buffer). run (quiet_turn m) (potential (with_cursor c 0) + 1) (at_front c)) same ∙ whole_same m unseeing (at_front b)) in
    ap (λ (c : Config R). with_cursor c.buffer 0) both
