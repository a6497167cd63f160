use Rattle.std.proofs.Common.{arith, rules}
use Rattle.std.proofs.lemmas.List.{same_lists, places, get_or-set_same}
use Rattle.std.proofs.lemmas.Bool.{cases_eq}
use Rattle.aat_buffer.proofs.gap_line.copy_fields.Goals as goal

pub returns-clause-after : goal.returns-clause-after
returns-clause-after c = same_lists _ _ (search (rules, places)) (λ k d h. grind (arith, places, get_or-set_same, cases_eq k c.args.to, cases_eq c.args.from c.args.to))
