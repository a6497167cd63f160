use Rattle.std.proofs.Common.{◌∙◌, rules, tests}
use Rattle.std.proofs.lemmas.Iterator.{YieldsList-from_slice}
use Rattle.std.proofs.lemmas.Iterator.Consumers.{fold_from_yields_List}
use Rattle.aat_layout.proofs.Decimals.{saturated, saturated_decimal}
use Rattle.aat_layout.proofs.features.numbers.decimal.Goals as goal

pub returns : goal.returns
returns c =
    fold_from_yields_List _ saturated 0 _ c.fold.ensures.ran
    (YieldsList-from_slice c.args.digits.now (cc)) (λ n digit m f called. search (rules, tests))
    ∙ saturated_decimal c.args.digits.now
