use Rattle.std.proofs.Common.{ap, ◌∙◌}
use Rattle.std.specs.Prelude.{unwrap_or}
use Rattle.aat_characters.specs.Exchanges.{vertical_form}
use Rattle.aat_characters.proofs.RowsRise.{vertical_rise}
use Rattle.aat_characters.proofs.exchanges.vertical_form.Goals as goal

pub partner-requires : goal.partner-requires
partner-requires c = vertical_rise

pub returns : goal.returns
unfolding vertical_form
returns c = c.unwrap_or.ensures ∙ ap (λ o. unwrap_or o c.args.character) c.partner.ensures
