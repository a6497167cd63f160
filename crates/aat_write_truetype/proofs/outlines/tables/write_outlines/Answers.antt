use Rattle.std.proofs.Common.{◌≡◌, ◌∙◌, ◌++◌, [], ◌∷◌, ap, arith, length, sym}
use Rattle.aat_write_machine.specs.Words.{long_bytes}
use Rattle.aat_write_truetype.proofs.outlines.Errors.{each_fine}
use Rattle.aat_write_truetype.proofs.outlines.Offsets.{data_more, offset_more}
use Rattle.aat_write_truetype.proofs.outlines.Written.{all_written, no_error, refuses, too_long}
use Rattle.aat_write_truetype.proofs.outlines.tables.write_outlines.Goals as goal

pub returns-in-Some : goal.returns-in-Some
returns-in-Some g c = refuses c.args.outlines.now c.in-Some.error (sym c.error_of.ensures ∙ c.in-Some.is)

pub append_glyph-requires-clause-contours : goal.append_glyph-requires-clause-contours
append_glyph-requires-clause-contours g c =
    let outlines = c.args.outlines.now in
    (each_fine outlines c.loop-outline.outline-index c.outline-item.result (no_error outlines (sym c.error_of.ensures ∙ c.in_default.is)) c.loop-outline-test.true c.outline-item.is).contours

pub append_glyph-requires-clause-near : goal.append_glyph-requires-clause-near
append_glyph-requires-clause-near g c =
    let outlines = c.args.outlines.now in
    (each_fine outlines c.loop-outline.outline-index c.outline-item.result (no_error outlines (sym c.error_of.ensures ∙ c.in_default.is)) c.loop-outline-test.true c.outline-item.is).near

pub append_glyph-requires-clause-steps : goal.append_glyph-requires-clause-steps
append_glyph-requires-clause-steps g c =
    let outlines = c.args.outlines.now in
    (each_fine outlines c.loop-outline.outline-index c.outline-item.result (no_error outlines (sym c.error_of.ensures ∙ c.in_default.is)) c.loop-outline-test.true c.outline-item.is).steps

pub returns-then-len-gt4294967295 : goal.returns-then-len-gt4294967295
returns-then-len-gt4294967295 g c =
    let l = c.loop-outline in
    too_long c.args.outlines.now (sym c.error_of.ensures ∙ c.in_default.is) l.outline-index c.outline-item.result l.glyf.items c.append_glyph.new.out.items c.loop-outline-test.true c.outline-item.is l.invariant.glyf c.in_ok-append_glyph.ensures (omega (arith, c.len-in-loop-outline.ensures, c.append_glyph.new.out.ok.0))

pub loop-outline-preserved : goal.loop-outline-preserved
loop-outline-preserved g c =
    let outlines = c.args.outlines.now in
    let l = c.loop-outline in
    let count : c.len.result ≡ length l.glyf.items = omega (arith, c.len.ensures, l.glyf.ok.0) in
    record {
      glyf = data_more outlines l.outline-index c.outline-item.result l.glyf.items c.append_glyph.new.out.items c.loop-outline-test.true c.outline-item.is l.invariant.glyf c.in_ok-append_glyph.ensures;
      loca = offset_more outlines l.outline-index l.glyf.items l.loca.items c.append_longs.new.out.items l.invariant.glyf l.invariant.loca (c.in_ok-append_longs.ensures ∙ ap (λ n. l.loca.items ++ long_bytes (n ∷ [])) count);
      short = omega (arith, c.len-in-loop-outline.ensures, c.append_glyph.new.out.ok.0);
    }

pub returns : goal.returns
returns g c =
    let l = c.loop-outline in
    let count : c.len-2.result ≡ length l.glyf.items = omega (arith, c.len-2.ensures, l.glyf.ok.0) in
    all_written c.args.outlines.now (sym c.error_of.ensures ∙ c.in_default.is) l.outline-index l.glyf.items l.loca.items c.append_longs-2.new.out.items c.loop-outline-test.false (omega arith) l.invariant.short l.invariant.glyf l.invariant.loca (c.in_ok-append_longs-2.ensures ∙ ap (λ n. l.loca.items ++ long_bytes (n ∷ [])) count)
