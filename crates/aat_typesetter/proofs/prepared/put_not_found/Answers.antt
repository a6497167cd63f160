use Rattle.std.proofs.Common.{rules}
use Rattle.std.proofs.lemmas.List.{drop_all, take_all}
use Rattle.std.proofs.lemmas.List.Edits.{map_over_more}
use Rattle.aat_typesetter.specs.Prepared.{told_glyph}
use Rattle.aat_typesetter.proofs.NotFound.{untold}
use Rattle.aat_typesetter.proofs.prepared.put_not_found.Goals as goal

pub returns-then-not_found-eq0 : goal.returns-then-not_found-eq0
returns-then-not_found-eq0 c = search (rules, untold)

pub loop-i-preserved : goal.loop-i-preserved
loop-i-preserved c = search (rules, map_over_more (told_glyph c.args.not_found))

pub returns : goal.returns
returns c = search (rules, take_all, drop_all)
