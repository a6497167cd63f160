use Rattle.std.proofs.Common.{◌≡◌, ◌∙◌, sym, ap, subst, ◌&&◌, not, false, List}
use Rattle.aat_glyph.specs.declared.glyph.hb_glyph_info_t.{hb_glyph_info_t}
use Rattle.aat_glyph.specs.declared.glyph.Direction.{Direction}
use Rattle.aat_kinds.specs.Kinds.{is_reversed, sizes_of}
use Rattle.aat_run.specs.Outcome.{Outcome}
use Rattle.aat_run.specs.Ranges.{switch_for}
use Rattle.aat_morx.specs.LineWords.{TellsOf}
use Rattle.aat_morx.specs.Substitution.{is_skipped}
use Rattle.aat_morx.proofs.Asleep.{rest_line}
use Rattle.aat_closing.proofs.AsleepClosing.{asleep_closing}
use Rattle.aat_closing.specs.ClosingRuns.{may_split}
use Rattle.aat_closing.proofs.subtable.close_subtable.Goals as goal

pub returns-then-not-wakes-clause-run : goal.returns-then-not-wakes-clause-run
returns-then-not-wakes-clause-run g c =
    let s = c.args.subtable.now in
    let b = c.args.buffer.now in
    let switch = switch_for c.args.run.now.ranges.now in
    let runs : is_skipped switch s b.direction ≡ false = rw (← c.direction-direction.ensures, ← c.is_skipped.ensures.skipped) c.if-is_skipped.false in
    let rest = c.pass_over.ensures.rest in
    let tells : c.may_tell.result ≡ not (is_reversed s.coverage b.direction && may_split s.kind) =
    c.may_tell.ensures ∙ ap (λ (d : Direction). not (is_reversed s.coverage d && may_split s.kind)) c.direction-direction.ensures in
    rw (asleep_closing (sizes_of g.row.SLOTS g.row.LONGEST c.args.run.now.face.now) switch s b (c.wakes.ensures.asleep s c.requires.wake c.if-not-wakes.true) runs)
    (λ i. record { buffer = (rest i).buffer; turns = (rest i).turns; is_told = tells i })

pub returns-then-not-wakes-clause-tells : goal.returns-then-not-wakes-clause-tells
returns-then-not-wakes-clause-tells g c =
    let line = ap (λ (o : Outcome). o.buffer.line) c.pass_over.ensures.rest ∙ rest_line c.args.subtable.now.kind c.args.buffer.now in
    subst (λ (gs : List hb_glyph_info_t). TellsOf c.wakes.new.self c.args.words.now gs) (sym line) c.wakes.ensures.tells
