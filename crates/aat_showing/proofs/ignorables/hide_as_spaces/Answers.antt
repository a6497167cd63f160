use Rattle.std.proofs.Common.{rules}
use Rattle.std.proofs.lemmas.List.{drop_all, take_all}
use Rattle.std.proofs.lemmas.List.Edits.{map_over_more}
use Rattle.aat_showing.specs.Ignorables.{space_for}
use Rattle.aat_showing.proofs.ignorables.hide_as_spaces.Goals as goal

pub loop-i-preserved : goal.loop-i-preserved
loop-i-preserved c = search (rules, map_over_more (space_for c.args.direction c.args.space))

pub returns : goal.returns
returns c = search (rules, take_all, drop_all)
