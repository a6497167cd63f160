use Rattle.std.proofs.Common.{sym, ap, subst, ◌∙◌, ◌≡◌, ◌+◌, true, false, length, arith}
use Rattle.aat_buffer.specs.Buffer.{Buffer, glyph_at}
use Rattle.aat_buffer.specs.inside.Pending.{IsPending, lowers}
use Rattle.aat_buffer.proofs.Steps.{skipping_pending, skipping_count, behind_stays, behind_lowers}
use Rattle.aat_buffer.proofs.buffer.hb_buffer_t.remove_behind.Goals as goal

pub lower-requires-clause-pending : goal.lower-requires-clause-pending
lower-requires-clause-pending g c = subst (λ (b : Buffer). IsPending b c.args.runs.count c.args.runs.last) (sym c.skip_glyph.ensures) (skipping_pending c.args.self.now c.args.runs.count c.args.runs.last c.requires.some c.requires.pending)

pub returns-then-lowers-clause-after : goal.returns-then-lowers-clause-after
returns-then-lowers-clause-after g c =
    let old : Buffer = c.args.self.now in
    let is : lowers old.line old.cursor ≡ true = cc in
    let read : c.glyph-glyph.result ≡ glyph_at old.line old.cursor = cc in
    behind_lowers old c.skip_glyph.new.self c.lower.new.self c.args.runs.count c.args.runs.last c.lower.result.count c.lower.result.last c.glyph-glyph.result c.requires.kept c.requires.some c.requires.pending is read c.skip_glyph.ensures c.lower.ensures.after

pub returns-then-lowers-clause-count : goal.returns-then-lowers-clause-count
returns-then-lowers-clause-count g c =
    let skip : length c.skip_glyph.new.self.line + 1 ≡ length c.args.self.now.line = ap (λ (b : Buffer). length b.line + 1) c.skip_glyph.ensures ∙ skipping_count c.args.self.now c.requires.some in
    omega (arith, skip, c.lower.ensures.count)

pub returns-else-lowers-clause-after : goal.returns-else-lowers-clause-after
returns-else-lowers-clause-after g c =
    let old : Buffer = c.args.self.now in
    let is : lowers old.line old.cursor ≡ false = cc in
    behind_stays old c.skip_glyph.new.self c.args.runs.count c.args.runs.last c.requires.kept c.requires.some c.requires.pending is c.skip_glyph.ensures

pub returns-else-lowers-clause-pending : goal.returns-else-lowers-clause-pending
returns-else-lowers-clause-pending g c = subst (λ (b : Buffer). IsPending b c.args.runs.count c.args.runs.last) (sym c.skip_glyph.ensures) (skipping_pending c.args.self.now c.args.runs.count c.args.runs.last c.requires.some c.requires.pending)

pub returns-else-lowers-clause-count : goal.returns-else-lowers-clause-count
returns-else-lowers-clause-count g c = ap (λ (b : Buffer). length b.line + 1) c.skip_glyph.ensures ∙ skipping_count c.args.self.now c.requires.some
