use Rattle.std.proofs.Common.{◌≡◌, ℕ, ◌*◌, ◌/◌, [], length, get_or, sym, ap, ◌∙◌, arith}
use Rattle.aat_bytes.specs.Numbers.{be16}
use Rattle.aat_read_sfnt.proofs.Chunks.{chunk_number, written}
use Rattle.aat_read_sfnt.proofs.metrics.write_long_advances.Goals as goal

pub loop-glyph-preserved : goal.loop-glyph-preserved
loop-glyph-preserved c =
    let bytes = c.args.bytes.now in
    let place = c.loop-glyph.glyph in
    let here : c.be16.result ≡ be16 bytes (4 * place) =
    c.be16.ensures
    ∙ ap (λ chunks. be16 (get_or chunks place []) 0) c.as_chunks.ensures.front
    ∙ chunk_number (length bytes / 4) place bytes [] (omega (arith, c.requires.metrics)) in
    λ k lt.
    written c.loop-glyph.advances place c.be16.result 0 (be16 bytes (4 * k)) k (omega (arith, c.requires.inside))
    (λ e. here ∙ ap (λ (p : ℕ). be16 bytes (4 * p)) (sym e)) (λ ne. c.loop-glyph.invariant k (omega arith))
