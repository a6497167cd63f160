use Rattle.std.proofs.Common.{◌≡◌, ◌∙◌, ap, sym, rules, ℕ, ◌-◌, true}
use Rattle.aat_buffer.specs.Marks.{cluster_at}
use Rattle.aat_drawn_text.specs.inside.Steady.{contains}
use Rattle.aat_drawn_text.proofs.SteadySpans.{rules_same}
use Rattle.aat_drawn_text.proofs.steady.SteadySpan.rules_at.Goals as goal

pub returns-then-contains-2 : goal.returns-then-contains-2
returns-then-contains-2 c =
    let span = c.args.self in
    let line = c.args.line.now in
    let i = c.args.i in
    let place : c.saturating_sub.result ≡ i - 1 = search rules in
    let before : contains span (cluster_at line (i - 1)) ≡ true =
    sym (c.contains.ensures ∙ ap (λ (j : ℕ). contains span (cluster_at line j)) place) ∙ c.if-contains.true in
    let here : contains span (cluster_at line i) ≡ true = sym c.contains-then-contains.ensures ∙ c.if-contains-2.true in
    rules_same c.args.rules.features.now span c.args.rules.is_even line i c.requires.steady before here
