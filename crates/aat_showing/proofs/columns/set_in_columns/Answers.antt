use Rattle.std.proofs.Common.{rules}
use Rattle.std.proofs.lemmas.List.{drop_all, take_all}
use Rattle.std.proofs.lemmas.List.Edits.{map_over_more}
use Rattle.aat_showing.specs.Columns.{in_column}
use Rattle.aat_showing.specs.FaceMetrics.{column_metrics}
use Rattle.aat_showing.proofs.columns.set_in_columns.Goals as goal

pub loop-i-preserved : goal.loop-i-preserved
loop-i-preserved c = search (rules, map_over_more (in_column (column_metrics c.args.face.now)))

pub returns : goal.returns
returns c = search (rules, take_all, drop_all)
