use Rattle.std.proofs.Common.{◌≡◌, ◌∙◌, ℕ, ap}
use Rattle.std.specs.Prelude.{Result, Ok, Err, IfErr}
use Rattle.aat_buffer.specs.Buffer.{Buffer}
use Rattle.aat_run.specs.Context.{Moved}
use Rattle.aat_run.specs.Driven.{IsRefusal}
use Rattle.aat_run.specs.declared.error.AatError.{AatError}
use Rattle.aat_run.specs.declared.error.AatError.TheVariants.{AaltValue, TooLong, OutOfMemory, BufferFailed}
use Rattle.aat_closing.specs.Closing.{closed_from, closing}
use Rattle.aat_closing.specs.facts.ClosedLaws.{length_closed}
use Rattle.aat_closing.proofs.context.Closingdriver_context_t.transition.Goals as goal

-- why an act over the closed line is refused, the closing act is
refused_over : (i : ℕ) (b left : Buffer) (e : AatError) → IsRefusal (closed_from i b) left e → IsRefusal b left e
refused_over i b left (AaltValue value) r = r
refused_over i b left TooLong r = r
refused_over i b left OutOfMemory r = rw (length_closed i b) at r
refused_over i b left BufferFailed r = r

if_err : {T : Type 0} (answer : Result T AatError) (i : ℕ) (b left : Buffer) → IfErr answer (IsRefusal (closed_from i b) left) → IfErr answer (IsRefusal b left)
if_err (Ok x) i b left r = r
if_err (Err e) i b left r = refused_over i b left e r

if_closed : {T R E : Type 0} (answer : Result T AatError) (from : E → R → Buffer → ℕ) (act : E → R → Buffer → Moved R) (e : E) (r : R) (b closed : Buffer) (i : ℕ)
    → i ≡ from e r b → closed ≡ closed_from i b → IfErr answer (IsRefusal closed (act e r closed).buffer)
    → IfErr answer (IsRefusal b (closing from act e r b).buffer)
if_closed answer from act e r b closed i at_place is reason =
    let same : closed ≡ closed_from (from e r b) b = is ∙ ap (λ (j : ℕ). closed_from j b) at_place in
    if_err answer (from e r b) b (closing from act e r b).buffer (rw same at reason)

pub returns-clause-reason : goal.returns-clause-reason
returns-clause-reason g c =
    let w = c.self.inside in
    rw (← c.self.view_is) (if_closed c.transition.result (g.C.Closes.from w.subtable.now) g.C.driver_context_t.act c.args.entry.now w.inner c.args.buffer.now c.close_from.new.buffer c.closed_from-from.result
    c.closed_from-from.ensures.from c.close_from.ensures.closed c.transition.ensures.reason)
