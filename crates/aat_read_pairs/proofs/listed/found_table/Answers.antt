use Rattle.std.proofs.Common.{◌≡◌, ℕ, ℤ, List, sym, ap, ◌∙◌}
use Rattle.aat_lookup.specs.Keys.{first_fall}
use Rattle.aat_kerning_tables.specs.Pairs.{key_of_pair}
use Rattle.aat_read_pairs.proofs.RisingPairs.{rising_pairs_are_all}
use Rattle.aat_read_pairs.proofs.listed.found_table.Goals as goal

pub returns-in-Ok : goal.returns-in-Ok
returns-in-Ok g c =
    let same = c.deref.ensures.value ∙ c.in_ok-pairs.ensures in
    let rise = ap (first_fall key_of_pair) (sym same) ∙ c.in-Ok.ensures.rising in
    let all = rising_pairs_are_all c.args.bytes.now c.args.tuples c.args.place c.args.count rise in
    c.in-Ok.ensures.ok ∙ same ∙ sym all
