use Rattle.std.proofs.Common.{◌≡◌, false, sym, ◌∙◌}
use Rattle.aat_lookup.specs.inside.Dense.{page_holds}
use Rattle.aat_lookup.proofs.PageAnswers.{page_absent}
use Rattle.aat_lookup.proofs.pages.append_page.Goals as goal

pub returns-then-not-holds_glyph-clause-values : goal.returns-then-not-holds_glyph-clause-values
returns-then-not-holds_glyph-clause-values g c =
    let absent : page_holds c.args.pairs.now c.args.lowest ≡ false = sym c.holds_glyph.ensures ∙ c.if-not-holds_glyph.true in
    page_absent c.args.pairs.now c.args.lowest absent
