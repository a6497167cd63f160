use Rattle.std.proofs.Common.{◌≡◌, ◌∙◌, ◌-◌, ap, length, sym, arith}
use Rattle.std.specs.Prelude.{Ok}
use Rattle.std.proofs.lemmas.Result.{err_from_is_err_and}
use Rattle.aat_read_outlines.specs.Components.{components_from}
use Rattle.aat_read_outlines.specs.Composites.{drawn_at, plain_outline}
use Rattle.aat_read_outlines.proofs.Drawn.{begun, drawn, no_bytes, no_components, no_more, no_outline, not_drawn, one_drawn, plain, too_deep}
use Rattle.aat_read_outlines.proofs.Refusals.{refused_by}
use Rattle.aat_read_outlines.proofs.composites.+drawn_at.Goals as goal

pub returns-in_err-bytes : goal.returns-in_err-bytes
returns-in_err-bytes g t c =
    let a = c.args in
    let p = err_from_is_err_and c.from_residual.result c.from_residual.ensures.1 in
    rw (p.1, p.2) (no_bytes a.tables.now a.depth a.left a.glyph c.in_err-bytes.field-0.0 (sym c.in_err-bytes.ensures))

pub returns-in_err-outline : goal.returns-in_err-outline
returns-in_err-outline g t c =
    let a = c.args in
    let p = err_from_is_err_and c.from_residual-in_err-outline.result c.from_residual-in_err-outline.ensures.1 in
    let bytes = c.in_ok-bytes.bytes in
    rw (p.1, p.2)
    (refused_by (plain_outline bytes) (drawn_at a.tables.now a.depth a.left a.glyph) (no_outline a.tables.now a.depth a.left a.glyph bytes (sym c.in_ok-bytes.ensures)) c.in_err-outline.field-0.0 c.in_err-outline.ensures.read)

pub returns-in-Some : goal.returns-in-Some
returns-in-Some g t c =
    let a = c.args in
    plain a.tables.now a.depth a.left a.glyph c.in_ok-bytes.bytes (sym c.in_ok-bytes.ensures) c.in-Some.outline (c.in_ok-outline.ensures.read ∙ ap Ok c.in-Some.is)
    ∙ ap Ok (sym c.new.ensures)

pub returns-then-depth-eq0 : goal.returns-then-depth-eq0
returns-then-depth-eq0 g t c =
    let a = c.args in
    too_deep a.tables.now a.depth a.left a.glyph c.in_ok-bytes.bytes (sym c.in_ok-bytes.ensures) (c.in_ok-outline.ensures.read ∙ ap Ok c.in_default.is) c.if-depth-eq0.true
    ∙ ap Ok (ap (λ o. record { outline = o; left = a.left }) (sym c.empty.ensures) ∙ sym c.new-then-depth-eq0.ensures)

pub returns-in_err-components : goal.returns-in_err-components
returns-in_err-components g t c =
    let a = c.args in
    let p = err_from_is_err_and c.from_residual-in_err-components.result c.from_residual-in_err-components.ensures.1 in
    let bytes = c.in_ok-bytes.bytes in
    rw (p.1, p.2)
    (refused_by (components_from bytes 10 a.left) (drawn_at a.tables.now a.depth a.left a.glyph) (no_components a.tables.now a.depth a.left a.glyph bytes (sym c.in_ok-bytes.ensures) (c.in_ok-outline.ensures.read ∙ ap Ok c.in_default.is) c.if-depth-eq0.false) c.in_err-components.field-0.0 c.in_err-components.ensures.read)

pub loop-component-init : goal.loop-component-init
loop-component-init g t c =
    let a = c.args in
    let found = c.in_ok-components.ensures.read ∙ ap Ok (sym c.deref-component-items.ensures.value) in
    let is = drawn a.tables.now a.depth a.left a.glyph c.in_ok-bytes.bytes (sym c.in_ok-bytes.ensures) (c.in_ok-outline.ensures.read ∙ ap Ok c.in_default.is) c.if-depth-eq0.false c.deref-component-items.result.now found in
    let count : c.len.result ≡ length c.deref-component-items.result.now = omega (arith, c.len.ensures, c.in_ok-components.components.ok.0, ap length c.deref-component-items.ensures.value) in
    begun (drawn_at a.tables.now (a.depth - 1)) c.deref-component-items.result.now c.empty-outline.result (a.left - length c.deref-component-items.result.now) (a.left - c.len.result) (drawn_at a.tables.now a.depth a.left a.glyph) is c.empty-outline.ensures (ap (λ n. a.left - n) count)

pub returns-in_err-inner : goal.returns-in_err-inner
returns-in_err-inner g t c =
    let a = c.args in
    let p = err_from_is_err_and c.from_residual-in_err-inner.result c.from_residual-in_err-inner.ensures.1 in
    let l = c.loop-component in
    let all = drawn_at a.tables.now a.depth a.left a.glyph in
    let items = c.deref-component-items.result.now in
    rw (p.1, p.2)
    (refused_by (drawn_at a.tables.now (a.depth - 1) l.unused _) all (not_drawn (drawn_at a.tables.now (a.depth - 1)) items l.component-index (record { outline = l.outline; left = l.unused }) all l.invariant c.loop-component-test.true _) c.in_err-inner.field-0.0 c.in_err-inner.ensures)

pub loop-component-preserved : goal.loop-component-preserved
loop-component-preserved g t c =
    let a = c.args in
    let l = c.loop-component in
    let all = drawn_at a.tables.now a.depth a.left a.glyph in
    let items = c.deref-component-items.result.now in
    one_drawn (drawn_at a.tables.now (a.depth - 1)) items l.component-index (record { outline = l.outline; left = l.unused }) all l.invariant c.loop-component-test.true _ (record { outline = c.inner.inside.outline; left = c.inner.inside.left }) c.in_ok-outline-2.outline (c.in_ok-inner.ensures ∙ ap Ok (sym c.inner.view_is)) c.in_ok-outline-2.ensures

pub returns : goal.returns
returns g t c =
    let a = c.args in
    let l = c.loop-component in
    let all = drawn_at a.tables.now a.depth a.left a.glyph in
    let items = c.deref-component-items.result.now in
    no_more (drawn_at a.tables.now (a.depth - 1)) items l.component-index (record { outline = l.outline; left = l.unused }) all l.invariant c.loop-component-test.false ∙ ap Ok (sym c.new-2.ensures)
