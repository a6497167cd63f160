use Rattle.std.proofs.Common.{ap}
use Rattle.std.specs.Prelude.{option_map, unwrap_or}
use Rattle.aat_characters.specs.Marks.{shaping_class}
use Rattle.aat_characters.proofs.RowsRise.{classes_rise}
use Rattle.aat_characters.proofs.mark.shaping_class.Goals as goal

pub row_at-requires : goal.row_at-requires
row_at-requires c = classes_rise

pub returns-in-Some : goal.returns-in-Some
unfolding shaping_class
returns-in-Some c = ap (λ o. unwrap_or (option_map (λ p. p.1) o) c.args.class) c.in-Some.ensures

pub returns-in-None : goal.returns-in-None
unfolding shaping_class
returns-in-None c = ap (λ o. unwrap_or (option_map (λ p. p.1) o) c.args.class) c.in-None.ensures
