use Rattle.std.proofs.Common.{ℕ, ◌+◌, ◌-◌, ◌*◌, ◌∙◌, arith}
use Rattle.std.proofs.lemmas.List.FromFn.{fill_by_all}
use Rattle.aat_bytes.specs.Numbers.{be16}
use Rattle.aat_read_lookup.proofs.ValueRows.{word_within}
use Rattle.aat_read_lookup.proofs.kept.words_at.Goals as goal

pub returns : goal.returns
returns g c =
    let word : ℕ → ℕ = λ k. be16 c.args.bytes.now (c.args.at + 2 * k) in
    fill_by_all word c.loop-k.words.items c.args.count 0 c.loop-k.invariant.long
    (λ k lt. c.loop-k.invariant.each k (omega (arith, lt, c.loop-k-test.false)) ∙ word_within c.args.bytes.now c.args.at (c.args.at + 2 * c.args.count - c.args.at) (2 * k) (omega (arith, lt)))
