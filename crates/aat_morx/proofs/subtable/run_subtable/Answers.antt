use Rattle.std.proofs.Common.{◌≡◌, ◌∙◌, sym, ap, subst, false, List}
use Rattle.aat_glyph.specs.declared.glyph.hb_glyph_info_t.{hb_glyph_info_t}
use Rattle.aat_kinds.specs.Kinds.{sizes_of}
use Rattle.aat_run.specs.Outcome.{Outcome}
use Rattle.aat_run.specs.Ranges.{switch_for}
use Rattle.aat_morx.specs.Substitution.{is_skipped}
use Rattle.aat_morx.specs.LineWords.{TellsOf}
use Rattle.aat_morx.proofs.Asleep.{asleep_run, rest_line}
use Rattle.aat_morx.proofs.subtable.run_subtable.Goals as goal

pub returns-then-not-wakes-clause-run : goal.returns-then-not-wakes-clause-run
returns-then-not-wakes-clause-run g c =
    let s = c.args.subtable.now in
    let b = c.args.buffer.now in
    let switch = switch_for c.args.run.now.ranges.now in
    let runs : is_skipped switch s b.direction ≡ false = rw (← c.direction.ensures, ← c.is_skipped.ensures.skipped) c.if-is_skipped.false in
    rw (asleep_run (sizes_of g.row.SLOTS g.row.LONGEST c.args.run.now.face.now) switch s b (c.wakes.ensures.asleep s c.requires.wake c.if-not-wakes.true) runs) c.pass_over.ensures.rest

pub returns-then-not-wakes-clause-tells : goal.returns-then-not-wakes-clause-tells
returns-then-not-wakes-clause-tells g c =
    let line = ap (λ (o : Outcome). o.buffer.line) c.pass_over.ensures.rest ∙ rest_line c.args.subtable.now.kind c.args.buffer.now in
    subst (λ (gs : List hb_glyph_info_t). TellsOf c.wakes.new.self c.args.words.now gs) (sym line) c.wakes.ensures.tells
