use Rattle.std.proofs.Common.{rules}
use Rattle.std.proofs.lemmas.List.{drop_all, take_all}
use Rattle.std.proofs.lemmas.List.Edits.{map_over_more}
use Rattle.aat_characters.specs.Decomposed.{has_glyph}
use Rattle.aat_text.specs.Prepared.{exchanged_at}
use Rattle.aat_text.proofs.clusters.exchange.Goals as goal

pub loop-i-preserved : goal.loop-i-preserved
loop-i-preserved c = search (rules, map_over_more (exchanged_at (has_glyph c.args.face.now) c.args.direction))

pub returns : goal.returns
returns c = search (rules, take_all, drop_all)
