-- The laws of the anchor act.
use Rattle.std.proofs.Common.{ℕ, ◌<◌, ◌&&◌, List, length, Option, Some, None, sym, ap, nat_lt, subst}
use Rattle.std.specs.Prelude.{slice_get, option_map}
use Rattle.aat_buffer.specs.Buffer.{Buffer, with_position}
use Rattle.aat_buffer.specs.facts.Cases.{chosen}
use Rattle.aat_glyph.specs.declared.glyph.GlyphPosition.{GlyphPosition}
use Rattle.aat_machine_tables.specs.declared.state_table.GenericStateEntry.{GenericStateEntry}
use Rattle.aat_machine_tables.specs.declared.entries.EntryData.{EntryData}
use Rattle.aat_machine_tables.specs.Entries.{has_flag}
use Rattle.aat_kerning_tables.specs.AnchorPoints.{Points}
use Rattle.aat_run.specs.Context.{Moved}
use Rattle.aat_run.specs.Laws.{KeepsFit}
use Rattle.aat_kerning_machines.specs.Anchors.{anchored, behind_anchors, with_mark, anchor_act, anchor_driver, IsFit}
use Rattle.aat_kerning_machines.specs.KerningLaws.{PositionsAlone, ChangesPositionsAlone, IsLawfulDriver}
use Rattle.aat_kerning_machines.specs.KerningMachine.{has_action}
use Rattle.aat_kerning_machines.specs.Positions.{with_attachment_flag}
use Rattle.aat_kerning_machines.specs.facts.Writes.{same_place, place_of_write, place_of_attachment}

-- a property that writes of positions and scratch flags keep
module _ (P : Buffer → Type 0)
    (on_write : (i : ℕ) (q : GlyphPosition) (b : Buffer) → P b → P (with_position b i q))
    (on_attach : (b : Buffer) → P b → P (with_attachment_flag b))
  where
    OnSome : Option Buffer → Type 0
    OnSome None = Unit {0}
    OnSome (Some d) = P d

    of_anchored :
        (points : Option Points) (pairs : List (ℕ × ℕ)) (index mark : ℕ) (b : Buffer) → P b
        → OnSome (anchored points pairs index mark b)
    unfolding OnSome
    of_anchored None pairs index mark b p = p
    of_anchored (Some points) pairs index mark b p = by_pair (slice_get pairs index) (λ pair. on_write b.cursor _ b p)
      where
        by_pair : (o : Option (ℕ × ℕ)) {f : ℕ × ℕ → Buffer} → ((pair : ℕ × ℕ) → P (f pair)) → OnSome (option_map f o)
        by_pair None each = tt
        by_pair (Some pair) each = each pair

    of_behind :
        (e : GenericStateEntry EntryData) (registers : Option ℕ) (mark : ℕ) (b : Buffer) (o : Option Buffer) → P b
        → OnSome o → P (behind_anchors e registers mark b o).buffer
    unfolding OnSome
    of_behind e registers mark b None p q = p
    of_behind e registers mark b (Some d) p q = on_attach _ (on_write d.cursor _ d q)

    pub of_anchors :
        (points : Option Points) (pairs : List (ℕ × ℕ)) (e : GenericStateEntry EntryData) (mark : Option ℕ) (b : Buffer)
        → P b → P (anchor_act points pairs e mark b).buffer
    unfolding anchor_act
    of_anchors points pairs e None b p = p
    of_anchors points pairs e (Some mark) b p =
        let index = e.extra.action_index in
        let d = anchored points pairs index mark b in
        chosen (λ (n : Moved (Option ℕ)). P n.buffer) (has_action e && nat_lt b.cursor (length b.line)) _ _
        (λ _. of_behind e (Some mark) mark b d p (of_anchored points pairs index mark b p)) (λ _. p)

pub anchors_keep_place : (points : Option Points) (pairs : List (ℕ × ℕ)) → ChangesPositionsAlone (anchor_act points pairs) IsFit
anchors_keep_place points pairs e mark b fit =
    of_anchors (PositionsAlone b) (place_of_write b) (place_of_attachment b) points pairs e mark b (same_place b)

-- a mark that is set lies within the line
marked_fits :
    (e : GenericStateEntry EntryData) (mark : Option ℕ) (p n : ℕ) → IsFit mark p n → p < n
    → IsFit (with_mark e mark p) p n
marked_fits e mark p n fit below = chosen (λ o. IsFit o p n) (has_flag e 0x8000) (Some p) mark (λ _. below) (λ _. fit)

behind_fits :
    (e : GenericStateEntry EntryData) (registers : Option ℕ) (mark : ℕ) (b : Buffer) (o : Option Buffer) (n : ℕ)
    → IsFit registers b.cursor n → b.cursor < n
    → IsFit (behind_anchors e registers mark b o).registers b.cursor n
behind_fits e registers mark b None n fit below = fit
behind_fits e registers mark b (Some d) n fit below = marked_fits e registers b.cursor n fit below

regs_fit :
    (points : Option Points) (pairs : List (ℕ × ℕ)) (e : GenericStateEntry EntryData) (mark : Option ℕ) (b : Buffer)
    → IsFit mark b.cursor (length b.line)
    → b.cursor < length b.line → IsFit (anchor_act points pairs e mark b).registers b.cursor (length b.line)
unfolding anchor_act
regs_fit points pairs e None b fit below = marked_fits e None b.cursor (length b.line) fit below
regs_fit points pairs e (Some mark) b fit below =
    let index = e.extra.action_index in
    let n = length b.line in
    chosen (λ (x : Moved (Option ℕ)). IsFit x.registers b.cursor n) (has_action e && nat_lt b.cursor n)
    (behind_anchors e (Some mark) mark b (anchored points pairs index mark b))
    (record { registers = with_mark e (Some mark) b.cursor; buffer = b })
    (λ _. behind_fits e (Some mark) mark b (anchored points pairs index mark b) n fit below)
    (λ _. marked_fits e (Some mark) b.cursor n fit below)

pub anchors_keep_fit : (points : Option Points) (pairs : List (ℕ × ℕ)) → KeepsFit (anchor_act points pairs) IsFit
anchors_keep_fit points pairs e mark b fit below =
    let k = anchors_keep_place points pairs e mark b fit in
    let P : ℕ → ℕ → Type 0 = λ p n. IsFit (anchor_act points pairs e mark b).registers p n in
    let inside : b.cursor < length b.line = rw (k.cursor, k.line) at below in
    let here : P (anchor_act points pairs e mark b).buffer.cursor (length b.line) =
    subst (λ p. P p (length b.line)) (sym k.cursor) (regs_fit points pairs e mark b fit inside)
    in
    subst (P (anchor_act points pairs e mark b).buffer.cursor) (ap length (sym k.line)) here

pub anchors_are_lawful :
    (points : Option Points) (pairs : List (ℕ × ℕ)) → IsLawfulDriver (anchor_driver points pairs) IsFit
anchors_are_lawful points pairs = record {
  fresh = λ n. tt;
  passes_fit = λ mark p n fit below. fit;
  keeps_fit = anchors_keep_fit points pairs;
  keeps_place = anchors_keep_place points pairs;
}
