use Rattle.std.proofs.Common.{ap, ◌∙◌}
use Rattle.std.specs.Prelude.{unwrap_or}
use Rattle.aat_characters.specs.Exchanges.{mirrored}
use Rattle.aat_characters.proofs.RowsRise.{mirrored_rise}
use Rattle.aat_characters.proofs.exchanges.mirrored.Goals as goal

pub partner-requires : goal.partner-requires
partner-requires c = mirrored_rise

pub returns : goal.returns
unfolding mirrored
returns c = c.unwrap_or.ensures ∙ ap (λ o. unwrap_or o c.args.character) c.partner.ensures
