use Rattle.std.proofs.Common.{ℕ, ◌+◌, ◌*◌, arith}
use Rattle.std.proofs.lemmas.Grind.{common_steps}
use Rattle.aat_lookup.specs.Keys.{first, value_in}
use Rattle.aat_lookup.proofs.PageAnswers.{kept_pages, pages_answer, values_more}
use Rattle.aat_lookup.specs.facts.Walks.{below_higher}
use Rattle.aat_lookup.proofs.pages.GlyphPages.over.Goals as goal

pub loop-page-preserved : goal.loop-page-preserved
loop-page-preserved g c =
    let starts = c.loop-page.starts.items in
    let more = c.push.new.self.items in
    let cells = c.loop-page.cells.items in
    let longer = c.append_page.new.cells.items in
    let page = c.in_ok-append_page.field-0 in
    let n = c.loop-page.page in
    let before = c.loop-page.invariant in
    let made = c.in_ok-append_page.ensures in
    let pairs = c.args.pairs.now in
    record {
      long = grind (arith, common_steps);
      room = omega (arith, before.room, made.long);
      passed = below_higher first pairs c.walk_to-at.result (n * 256) ((n + 1) * 256) c.walk_to-at.ensures.below (omega arith);
      kept = kept_pages starts more cells longer page n c.in_ok-push.ensures.items before.long made.kept before.kept made.within made.longer;
      values = values_more starts more cells longer page n c.in_ok-push.ensures.items before.long made.kept (λ (glyph : ℕ). value_in pairs glyph) before.kept before.values made.values;
    }

pub returns : goal.returns
returns g c =
    record {
      answers = pages_answer c.loop-page.starts.items c.loop-page.cells.items c.args.pairs.now (λ p k lt. c.loop-page.invariant.values p k (omega arith));
    }
