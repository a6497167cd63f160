use Rattle.std.proofs.Common.{rules}
use Rattle.std.proofs.lemmas.List.{drop_all, take_all}
use Rattle.std.proofs.lemmas.List.Edits.{map_over_more}
use Rattle.aat_showing.specs.Marks.{zeroed_mark}
use Rattle.aat_showing.proofs.marks.zero_marks.Goals as goal

pub loop-i-preserved : goal.loop-i-preserved
loop-i-preserved c = search (rules, map_over_more (zeroed_mark c.args.moves))

pub returns : goal.returns
returns c = search (rules, take_all, drop_all)
