use Rattle.std.proofs.Common.{◌≡◌, ◌∙◌, ◌+◌, Bool, true, false, ap, arith, cond, length, nat_lt, refl, subst, sym, w32}
use Rattle.std.proofs.lemmas.Int.{to_z-of_z}
use Rattle.std.proofs.lemmas.Result.{err_from_is_err_and}
use Rattle.std.specs.Option.{option_copied}
use Rattle.aat_buffer.specs.Buffer.{Buffer, reversed}
use Rattle.aat_buffer.specs.Clusters.{IsRisingLine}
use Rattle.aat_font.specs.Face.{advance_of, chains_in, tables_of}
use Rattle.aat_glyph.specs.Directions.{is_backward}
use Rattle.aat_kerning.specs.Positioning.{in_processing_order}
use Rattle.aat_glyph.specs.declared.glyph.Direction.{Direction}
use Rattle.aat_map.specs.Map.{lists_for}
use Rattle.aat_map.specs.SwitchedChains.{plan_requests, switched, switched_by}
use Rattle.aat_run.specs.Budget.{operations_left}
use Rattle.aat_shaped_text.specs.KernedPlaces.{TellsOpenPlaces}
use Rattle.aat_shaped_text.specs.ShapedText.{most_glyphs, tracked_line}
use Rattle.aat_shaped_text.specs.declared.breaks.BreakRules.{BreakRules}
use Rattle.aat_layout.specs.Shaping.{with_advances}
use Rattle.aat_drawn_text.specs.declared.drawn.Breaks.{Breaks}
use Rattle.aat_drawn_text.specs.declared.kerned.KernedBy.{KernedBy}
use Rattle.aat_drawn_text.proofs.DrawnText.{as_long, attached_none, behind_text, closed_lent, drawn_so, drawn_text_so, few_so, left_so, made_is, small_ordered, substituted_is, tells_is, text_direction, text_merges, used_so}
use Rattle.aat_drawn_text.proofs.Ordered.{IsTurnedLine, drawn_glyphs_ordered, drawn_kept, drawn_line}
use Rattle.aat_shaped_text.proofs.RisingText.{rising_line}
use Rattle.aat_drawn_text.proofs.Planned.{run_refusal}
use Rattle.aat_drawn_text.specs.inside.Kerned.{is_told_by_glyphs, open_places}
use Rattle.aat_drawn_text.specs.inside.TextLine.{substituted_so}
use Rattle.aat_drawn_text.proofs.text.draw_text.Goals as goal

pub returns-clause-ok : goal.returns-clause-ok
returns-clause-ok g c =
    let v = c.args.value in
    let face = c.args.face.now in
    let d = c.args.direction in
    let plan = c.args.plan.now in
    let features = plan.user_features.items in
    let text = c.args.text.now in
    let asked = c.as_slice-features.result.now in
    let made = c.in_ok-buffer.buffer in
    let closes = c.is_rising.result in
    let left = c.place.new.buffer in
    let lists = option_copied c.as_ref-lists.result in
    let compiled : switched_by (chains_in (tables_of c.args.face.now).morx) (lists_for (option_copied c.as_ref-lists.result) (chains_in (tables_of c.args.face.now).morx))
    ≡ switched c.args.plan.now.apply_morx (plan_requests c.args.plan.now c.args.face.now) (chains_in (tables_of c.args.face.now).morx) =
    rw c.as_ref-lists.ensures.value c.in_ok-map.ensures.ok in
    let wider : c.track_line.new.buffer ≡ tracked_line v left =
    c.in_ok-track_line.ensures.ok ∙ ap (λ n. tracked_line n left) (to_z-of_z w32 v c.ranges.value) in
    let is = left_so v face d features text plan c.requires.planned lists compiled asked made c.as_slice-features.ensures.value c.in_ok-buffer.ensures.ok
    closes c.substitute.new.buffer left c.in_ok-is_told.ensures.left c.in_ok-places.ensures.placing in
    let behind = c.substitute.new.buffer in
    let before : behind ≡ behind_text v face d features text closes =
    c.in_ok-is_told.ensures.left ∙ substituted_is v face d features text plan c.requires.planned lists compiled asked made c.as_slice-features.ensures.value c.in_ok-buffer.ensures.ok closes in
    let told = c.in_ok-places.places.items in
    let rules : BreakRules = record { is_even = c.substitutes_evenly.result; features = c.as_slice-features.result } in
    let breaks : Breaks = record {
      is_allowed = c.tells_breaks-is_allowed.result;
      rules = rules;
      left_open = c.open_places-left_open.result;
    } in
    drawn_so v face d features text c.closing_draws_alike.ensures rules breaks told c.turn.new.buffer
    (record {
      closes = closes;
      rising = c.is_rising.ensures;
      tells = c.in_ok-is_told.is_told;
      told_is = c.in_ok-is_told.ensures.told ∙ tells_is v face d features text plan c.requires.planned lists compiled asked made c.as_slice-features.ensures.value c.in_ok-buffer.ensures.ok closes;
      few = nat_lt c.operations_left-operations.result (operations_left left.max_ops + 16384);
      few_is = few_so v face d features text closes made left c.operations_left-operations.result
          c.operations_left-operations.ensures.value (made_is v face d features text plan c.requires.planned lists compiled asked made c.as_slice-features.ensures.value c.in_ok-buffer.ensures.ok) is;
      allowed = c.tells_breaks-is_allowed.ensures;
      rules_are = refl;
      evenly = c.substitutes_evenly.ensures;
      asked = c.as_slice-features.ensures.value;
      places = c.deref.result;
      left_open = c.open_places-left_open.ensures ∙ ap (λ (k : KernedBy). open_places face k c.deref.result) c.kerned_by-kerned.ensures;
      way = sym (ap (λ (b : Buffer). b.direction) before) ∙ text_direction v face d features text asked made behind c.in_ok-buffer.ensures.ok c.in_ok-is_told.ensures.settings.direction;
      opens = λ tells_it others.
          subst (λ (b : Buffer). TellsOpenPlaces face rules (with_advances (advance_of face) b) told) before
          (c.in_ok-places.ensures.told tells_it (c.is_told_by_glyphs-by_glyphs.ensures ∙ (ap is_told_by_glyphs c.kerned_by-kerned.ensures ∙ others)));
      drawn_is = drawn_text_so v face d features text closes left c.track_line.new.buffer c.turn.new.buffer is wider c.turn.ensures.after;
      long = c.turn.ensures.count ∙ (ap (λ (b : Buffer). length b.line) wider ∙ (c.in_ok-places.ensures.number ∙ ap (λ (b : Buffer). length b.line) before));
      chained = λ long.
          closed_lent c.turn.new.buffer told c.deref_mut.result.now c.close_attached.new.places c.deref.result.now c.in_ok-places.places.len
          c.deref_mut.ensures.value c.deref_mut.ensures.len c.deref.ensures.value c.in_ok-attached.ensures.closed long;
    })
    c.draw.new.glyphs.items c.in_ok-draw.ensures.ok

pub returns-clause-order : goal.returns-clause-order
returns-clause-order g c = λ up.
    let v = c.args.value in
    let face = c.args.face.now in
    let d = c.args.direction in
    let features = c.as_slice-features.result.now in
    let text = c.args.text.now in
    let made = c.in_ok-buffer.buffer in
    let behind = c.substitute.new.buffer in
    let left = c.place.new.buffer in
    let tracked : Buffer = tracked_line v left in
    let back = is_backward d in
    let built = c.in_ok-buffer.ensures.ok in
    let first : IsRisingLine made.line = rw built (rising_line face features text up) in
    let substituted : IsRisingLine behind.line = c.in_ok-is_told.ensures.order.rising (text_merges v face d features text features made built) first in
    let shaped : IsRisingLine tracked.line = c.in_ok-places.ensures.order.rising substituted in
    let way : tracked.direction ≡ d =
    text_direction v face d features text features made left built (c.in_ok-places.ensures.settings.direction ∙ c.in_ok-is_told.ensures.settings.direction) in
    let wider : c.track_line.new.buffer ≡ tracked =
    c.in_ok-track_line.ensures.ok ∙ ap (λ n. tracked_line n left) (to_z-of_z w32 v c.ranges.value) in
    let turned : IsTurnedLine back c.turn.new.buffer.line =
    rw c.turn.ensures.after (rw wider
    (subst (λ (e : Direction). IsTurnedLine (is_backward e) (in_processing_order tracked).line) way (drawn_line tracked shaped))) in
    drawn_glyphs_ordered c.draw.new.glyphs.items c.draw.new.buffer.line c.in_ok-draw.ensures.clusters back
    (drawn_kept back c.turn.new.buffer.line c.draw.new.buffer.line c.in_ok-draw.ensures.order turned)

pub returns-clause-used : goal.returns-clause-used
returns-clause-used g c =
    let v = c.args.value in
    let face = c.args.face.now in
    let d = c.args.direction in
    let plan = c.args.plan.now in
    let features = plan.user_features.items in
    let text = c.args.text.now in
    let asked = c.as_slice-features.result.now in
    let made = c.in_ok-buffer.buffer in
    let closes = c.is_rising.result in
    let left = c.place.new.buffer in
    let compiled : switched_by (chains_in (tables_of c.args.face.now).morx) (lists_for (option_copied c.as_ref-lists.result) (chains_in (tables_of c.args.face.now).morx))
    ≡ switched c.args.plan.now.apply_morx (plan_requests c.args.plan.now c.args.face.now) (chains_in (tables_of c.args.face.now).morx) =
    rw c.as_ref-lists.ensures.value c.in_ok-map.ensures.ok in
    used_so v face d features text c.closing_draws_alike.ensures closes c.uses_up-is_used_up.result left c.uses_up-is_used_up.ensures
    (left_so v face d features text plan c.requires.planned (option_copied c.as_ref-lists.result) compiled asked made c.as_slice-features.ensures.value c.in_ok-buffer.ensures.ok
    closes c.substitute.new.buffer left c.in_ok-is_told.ensures.left c.in_ok-places.ensures.placing)

pub returns-in_err-is_told-clause-refused : goal.returns-in_err-is_told-clause-refused
returns-in_err-is_told-clause-refused g c =
    let v = c.args.value in
    let face = c.args.face.now in
    let d = c.args.direction in
    let plan = c.args.plan.now in
    let features = plan.user_features.items in
    let text = c.args.text.now in
    let asked = c.as_slice-features.result.now in
    let made = c.in_ok-buffer.buffer in
    let closes = c.is_rising.result in
    let lists = option_copied c.as_ref-lists.result in
    let compiled : switched_by (chains_in (tables_of c.args.face.now).morx) (lists_for (option_copied c.as_ref-lists.result) (chains_in (tables_of c.args.face.now).morx))
    ≡ switched c.args.plan.now.apply_morx (plan_requests c.args.plan.now c.args.face.now) (chains_in (tables_of c.args.face.now).morx) =
    rw c.as_ref-lists.ensures.value c.in_ok-map.ensures.ok in
    let p = err_from_is_err_and c.from_residual-in_err-is_told.result c.from_residual-in_err-is_told.ensures.1 in
    rw (p.1, p.2)
    (run_refusal face features plan c.requires.planned d text made (substituted_so closes face lists made) _ c.in_ok-map.ensures.fits
    (made_is v face d features text plan c.requires.planned lists compiled asked made c.as_slice-features.ensures.value c.in_ok-buffer.ensures.ok)
    (as_long v face d features text plan c.requires.planned lists compiled asked made c.as_slice-features.ensures.value c.in_ok-buffer.ensures.ok
    c.closing_draws_alike.ensures closes)
    c.in_err-is_told.ensures.reason)

pub draw-requires-clause-ids : goal.draw-requires-clause-ids
draw-requires-clause-ids g c =
    let v = c.args.value in
    let left = c.place.new.buffer in
    let wider : c.track_line.new.buffer ≡ tracked_line v left =
    c.in_ok-track_line.ensures.ok ∙ ap (λ n. tracked_line n left) (to_z-of_z w32 v c.ranges.value) in
    rw c.turn.ensures.after (rw wider (small_ordered (tracked_line v left) c.in_ok-places.ensures.ids))

pub close_attached-requires-clause-none : goal.close_attached-requires-clause-none
close_attached-requires-clause-none g c = λ apart.
    let v = c.args.value in
    let face = c.args.face.now in
    let d = c.args.direction in
    let plan = c.args.plan.now in
    let features = plan.user_features.items in
    let text = c.args.text.now in
    let asked = c.as_slice-features.result.now in
    let made = c.in_ok-buffer.buffer in
    let closes = c.is_rising.result in
    let behind = c.substitute.new.buffer in
    let left = c.place.new.buffer in
    let lists = option_copied c.as_ref-lists.result in
    let compiled : switched_by (chains_in (tables_of c.args.face.now).morx) (lists_for (option_copied c.as_ref-lists.result) (chains_in (tables_of c.args.face.now).morx))
    ≡ switched c.args.plan.now.apply_morx (plan_requests c.args.plan.now c.args.face.now) (chains_in (tables_of c.args.face.now).morx) =
    rw c.as_ref-lists.ensures.value c.in_ok-map.ensures.ok in
    let wider : c.track_line.new.buffer ≡ tracked_line v left =
    c.in_ok-track_line.ensures.ok ∙ ap (λ n. tracked_line n left) (to_z-of_z w32 v c.ranges.value) in
    let is = left_so v face d features text plan c.requires.planned lists compiled asked made c.as_slice-features.ensures.value c.in_ok-buffer.ensures.ok
    closes behind left c.in_ok-is_told.ensures.left c.in_ok-places.ensures.placing in
    let before : behind ≡ behind_text v face d features text closes =
    c.in_ok-is_told.ensures.left ∙ substituted_is v face d features text plan c.requires.planned lists compiled asked made c.as_slice-features.ensures.value c.in_ok-buffer.ensures.ok closes in
    attached_none v face d features text closes c.turn.new.buffer (sym c.kerns_apart-attaches_none.ensures ∙ apart)
    (sym (ap (λ (b : Buffer). b.direction) before) ∙ text_direction v face d features text asked made behind c.in_ok-buffer.ensures.ok c.in_ok-is_told.ensures.settings.direction)
    (drawn_text_so v face d features text closes left c.track_line.new.buffer c.turn.new.buffer is wider c.turn.ensures.after)

-- a line that is turned round may grow as far
as_far : (b : Buffer) → (in_processing_order b).max_len ≡ b.max_len
as_far b = by_way (is_backward b.direction)
  where
    by_way : (t : Bool) → (cond t (reversed b) b).max_len ≡ b.max_len
    by_way true = refl
    by_way false = refl

pub returns-clause-bounded : goal.returns-clause-bounded
returns-clause-bounded g c =
    let most : c.turn.new.buffer.max_len ≡ most_glyphs (length c.args.text.now) =
    ap (λ (b : Buffer). b.max_len) c.turn.ensures.after
    ∙ (as_far c.track_line.new.buffer
    ∙ (ap (λ (b : Buffer). b.max_len) c.in_ok-track_line.ensures.ok
    ∙ (c.in_ok-places.ensures.settings.max_len
    ∙ (c.in_ok-is_told.ensures.settings.max_len ∙ ap (λ (b : Buffer). b.max_len) c.in_ok-buffer.ensures.ok)))) in
    omega (arith, c.in_ok-draw.ensures.count, c.turn.ensures.within, most)
