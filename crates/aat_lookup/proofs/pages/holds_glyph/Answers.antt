use Rattle.std.proofs.Common.{arith}
use Rattle.aat_lookup.proofs.PageAnswers.{page_empty, page_tested}
use Rattle.aat_lookup.proofs.pages.holds_glyph.Goals as goal

pub returns-then-place-pairs : goal.returns-then-place-pairs
returns-then-place-pairs c =
    page_empty c.args.pairs.now c.args.lowest c.args.place c.requires.below (λ i d le lt. absurd (omega arith))

pub overflow_sub-above_lowest : goal.overflow_sub-above_lowest
overflow_sub-above_lowest c = c.requires.above c.args.place (0, 0) (omega arith) (omega arith)

pub returns : goal.returns
returns c =
    page_tested c.args.pairs.now c.args.lowest c.args.place (0, 0) c.requires.rising c.requires.below c.requires.above (omega arith)
