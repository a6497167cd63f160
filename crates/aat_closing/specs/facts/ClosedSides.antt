-- What a closing act keeps of the sides of a cut, where the act itself keeps the length of the line and the cursor.
use Rattle.std.proofs.Common.{◌≡◌, ◌∙◌, ℕ, ◌+◌, length, Some, arith}
use Rattle.aat_buffer.specs.Buffer.{Buffer}
use Rattle.aat_buffer.specs.facts.Order.{Kept, kept_refl, kept_unsafe, same_unsafe}
use Rattle.aat_run.specs.Context.{Moved}
use Rattle.aat_run.specs.facts.InPlace.{KeepsAll}
use Rattle.aat_cut_kinds.specs.facts.OffSides.{KeepsSides}
use Rattle.aat_closing.specs.Closing.{closed_from, closing}
use Rattle.aat_closing.specs.facts.ClosedLaws.{length_closed}

module _ {R E : Type 0} (fits : R → ℕ → ℕ → Type 0) (act : E → R → Buffer → Moved R) (from : E → R → Buffer → ℕ) (Order : ℕ → ℕ → Type 0) (same : (x y : ℕ) → x ≡ y → Order x y) where
  pub closed_sides : ((e : E) (r : R) (b : Buffer) → fits r b.cursor (length b.line) → Kept Order same b (act e r b).buffer) → KeepsAll (closing from act) fits → KeepsSides (closing from act) fits Order
  closed_sides kept keeps = record {
    ordered = λ e r b fit level ordered.
        let i : ℕ = from e r b in
        (kept e r (closed_from i b) (rw (length_closed i b) fit)).ordered level ((kept_unsafe Order same b b (Some i) (Some (b.cursor + 1)) (kept_refl Order same b)).ordered level ordered);
    clusters = λ e r b fit k within.
        let i : ℕ = from e r b in
        let source = (kept e r (closed_from i b) (rw (length_closed i b) fit)).from k within in
        (source.0, rw (length_closed i b) at source.1, source.2 ∙ same_unsafe b (Some i) (Some (b.cursor + 1)) source.0);
    rest = λ e r b fit below. let all = keeps e r b fit in let long = all.length in let place = all.cursor in omega (arith, long, place);
  }
