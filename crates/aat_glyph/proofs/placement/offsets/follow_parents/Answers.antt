use Rattle.std.proofs.Common.{◌≡◌, ◌∙◌, ◌≢◌, ◌<◌, ap, sym, arith, get_or-set_other, length, slice_set, subst}
use Rattle.std.proofs.lemmas.List.Edits.{fill_by_more}
use Rattle.std.proofs.lemmas.List.FromFn.{fill_by_all, length-map-range_with_len}
use Rattle.aat_glyph.specs.placement.Attachments.{at, drawn, no_position}
use Rattle.aat_glyph.specs.placement.inside.Pens.{pen_at}
use Rattle.aat_glyph.proofs.placement.Besides.{beside_is_drawn}
use Rattle.aat_glyph.proofs.placement.offsets.follow_parents.Goals as goal

pub beside_parent-requires-clause-pens : goal.beside_parent-requires-clause-pens
beside_parent-requires-clause-pens c =
    let qs = c.args.positions.now in
    let pens : length c.args.pens.now ≡ length qs =
    ap length c.requires ∙ length-map-range_with_len (pen_at qs) 0 (length qs) in
    omega arith

pub loop-i-preserved : goal.loop-i-preserved
loop-i-preserved c =
    let d = c.args.direction in
    let qs = c.args.positions.now in
    let ps = c.loop-i.positions in
    let i = c.loop-i.i in
    let within : i < length qs = omega arith in
    let here : i < length ps = omega arith in
    let is : drawn d qs i ≡ c.beside_parent.result =
    sym (c.beside_parent.ensures
    ∙ beside_is_drawn d qs ps c.args.pens.now i within c.requires c.loop-i.invariant.0 (c.loop-i.invariant.1 i (omega arith))) in (
      (λ k lt. subst (λ q. at (slice_set ps i q) k ≡ drawn d qs k) is
          (fill_by_more (drawn d qs) ps i no_position here c.loop-i.invariant.0 k lt)),
      (λ k le. let ne : k ≢ i = omega arith in rw get_or-set_other (c.loop-i.invariant.1 k (omega arith))),
    )

pub returns : goal.returns
returns c =
    let qs = c.args.positions.now in
    fill_by_all (drawn c.args.direction qs) c.loop-i.positions (length qs) no_position (omega arith)
    (λ k lt. c.loop-i.invariant.0 k (omega arith))
