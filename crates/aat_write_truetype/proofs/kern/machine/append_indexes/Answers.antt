use Rattle.std.proofs.Common.{◌≡◌, [], ◌∷◌, ◌++◌, List, ℕ, sym, ap, ◌∙◌, append_assoc}
use Rattle.std.specs.List.{range_with_len}
use Rattle.aat_bytes.specs.facts.Ranges.{range_more}
use Rattle.aat_write_truetype.proofs.kern.machine.append_indexes.Goals as goal

pub loop-cell-preserved : goal.loop-cell-preserved
loop-cell-preserved c =
    let cell = c.loop-cell.cell in
    let done : List ℕ = range_with_len 0 cell in
    let front : List ℕ = c.args.out.now.items in
    let pushed : c.push.new.self.items ≡ c.loop-cell.out.items ++ cell ∷ [] = c.in_ok-push.ensures.items in
    pushed
    ∙ ap (λ (b : List ℕ). b ++ cell ∷ []) c.loop-cell.invariant
    ∙ append_assoc front done (cell ∷ [])
    ∙ ap (λ (b : List ℕ). front ++ b) (sym (range_more cell))
