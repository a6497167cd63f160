use Rattle.std.proofs.Common.{◌≡◌, ◌∙◌, ap, arith, set, ◌-◌}
use Rattle.std.proofs.lemmas.List.{length-set}
use Rattle.std.proofs.lemmas.List.Elements.{All-set}
use Rattle.aat_buffer.specs.Buffer.{Is16Bit, with_line}
use Rattle.aat_glyph.specs.declared.glyph.hb_glyph_info_t.{hb_glyph_info_t}
use Rattle.aat_kinds.proofs.Ligating.{deleted_is_small, deleted_kept, later_goes_on, later_none, line_put}
use Rattle.aat_kinds.proofs.ligature.Components.delete_later.Goals as goal

pub loop-n-preserved : goal.loop-n-preserved
loop-n-preserved g c =
    let l = c.loop-n in
    let r = c.args.self.now in
    let glyph = c.info-glyph.result.now in
    let place = c.place-place.result in
    let wrote : c.rewrite_glyph.new.self ≡ with_line l.buffer (set l.buffer.line place c.deleted.result) =
    c.rewrite_glyph.ensures.after ∙ ap (λ (h : hb_glyph_info_t). with_line l.buffer (set l.buffer.line place h)) (deleted_kept l.buffer.line place glyph c.deleted.result c.info-glyph.ensures.read c.deleted.ensures) in
    rw wrote (record {
      same = line_put c.args.buffer.now l.buffer (set l.buffer.line place c.deleted.result) l.invariant.same;
      done = later_goes_on r c.args.c l.n (l.n - 1) place (r.count - 1 - c.args.c) l.buffer.line c.args.buffer.now.line glyph c.deleted.result
          (omega arith) c.place-place.ensures c.info-glyph.ensures.read c.deleted.ensures l.invariant.done;
      below = omega arith;
      count = length-set l.buffer.line place c.deleted.result ∙ l.invariant.count;
      small = All-set Is16Bit l.buffer.line place c.deleted.result (deleted_is_small glyph c.deleted.result c.deleted.ensures) l.invariant.small;
    })

pub returns-clause-line : goal.returns-clause-line
returns-clause-line g c = cc (later_none c.args.self.now c.args.c c.loop-n.n c.loop-n.buffer.line (omega arith))
