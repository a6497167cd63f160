-- Anchor machines do not look at the flags of glyphs.
use Rattle.std.proofs.Common.{◌≡◌, ◌∙◌, ap, refl, ℕ, ◌&&◌, cond, List, length, nat_lt}
use Rattle.std.specs.Prelude.{Option, Some, None, option_map, slice_get}
use Rattle.aat_buffer.specs.Buffer.{Buffer, glyph_at}
use Rattle.aat_glyph.specs.declared.glyph.hb_glyph_info_t.{hb_glyph_info_t}
use Rattle.aat_machine_tables.specs.declared.entries.EntryData.{EntryData}
use Rattle.aat_machine_tables.specs.declared.state_table.GenericStateEntry.{GenericStateEntry}
use Rattle.aat_run.specs.Context.{Moved}
use Rattle.aat_kerning_tables.specs.AnchorPoints.{Points, point_of}
use Rattle.aat_kerning_machines.specs.Anchors.{anchor_act, anchored, behind_anchors, with_anchor, with_mark}
use Rattle.aat_kerning_machines.specs.KerningMachine.{has_action}
use Rattle.aat_kerning_machines.specs.Positions.{on_position}
use Rattle.aat_closing.specs.Unflagged.{bare, erased, erased_left}
use Rattle.aat_closing.specs.facts.BlindLines.{bare_at, bare_length}
use Rattle.aat_shaped_text.proofs.StackRuns.{IsUnseeing, moved_choice}

-- the points of a pair of indexes meet
abbrev met : Points → ℕ → Buffer → (ℕ × ℕ) → Buffer
met points mark b pair =
    on_position (with_anchor (point_of points (glyph_at b.line mark).glyph_id pair.0) (point_of points (glyph_at b.line b.cursor).glyph_id pair.1)) b.cursor b

erased_met : (points : Points) (mark : ℕ) (b : Buffer) (pair : ℕ × ℕ) → met points mark (erased b) pair ≡ erased (met points mark b pair)
erased_met points mark b pair =
    λ k. on_position (with_anchor (point_of points (id_bare mark k) pair.0) (point_of points (id_bare b.cursor k) pair.1)) b.cursor (erased b)
  where
    id_bare : (i : ℕ) → (glyph_at (bare b.line) i).glyph_id ≡ (glyph_at b.line i).glyph_id
    id_bare i = ap (λ (g : hb_glyph_info_t). g.glyph_id) (bare_at b.line i)

erased_anchored :
    (points : Option Points) (pairs : List (ℕ × ℕ)) (index mark : ℕ) (b : Buffer)
    → anchored points pairs index mark (erased b) ≡ option_map erased (anchored points pairs index mark b)
erased_anchored None pairs index mark b = refl
erased_anchored (Some points) pairs index mark b = by (slice_get pairs index)
  where
    by : (o : Option (ℕ × ℕ)) → option_map (met points mark (erased b)) o ≡ option_map erased (option_map (met points mark b) o)
    by None = refl
    by (Some pair) = ap Some (erased_met points mark b pair)

erased_behind :
    (e : GenericStateEntry EntryData) (r : Option ℕ) (mark : ℕ) (b : Buffer) (o : Option Buffer)
    → behind_anchors e r mark (erased b) (option_map erased o) ≡ erased_left (behind_anchors e r mark b o)
erased_behind e r mark b None = refl
erased_behind e r mark b (Some d) = refl

pub anchors_unseeing : (points : Option Points) (pairs : List (ℕ × ℕ)) → IsUnseeing (anchor_act points pairs)
unfolding anchor_act
anchors_unseeing points pairs e None b = refl
anchors_unseeing points pairs e (Some mark) b =
    let acts = λ (n : ℕ). has_action e && nat_lt b.cursor n in
    let index = e.extra.action_index in
    let attached = behind_anchors e (Some mark) mark b (anchored points pairs index mark b) in
    let left : Moved (Option ℕ) = record { registers = with_mark e (Some mark) b.cursor; buffer = b } in
    ap (λ (n : ℕ). cond (acts n) (behind_anchors e (Some mark) mark (erased b) (anchored points pairs index mark (erased b))) (erased_left left)) (bare_length b.line)
    ∙ (ap (λ (o : Option Buffer). cond (acts (length b.line)) (behind_anchors e (Some mark) mark (erased b) o) (erased_left left)) (erased_anchored points pairs index mark b)
    ∙ (ap (λ (m : Moved (Option ℕ)). cond (acts (length b.line)) m (erased_left left)) (erased_behind e (Some mark) mark b (anchored points pairs index mark b))
    ∙ moved_choice (acts (length b.line)) attached left))
