use Rattle.std.proofs.Common.{ap, ◌∙◌}
use Rattle.aat_lookup.specs.Keys.{first_fall}
use Rattle.aat_kerning_tables.specs.Pairs.{key_of_pair}
use Rattle.aat_read_pairs.proofs.RisingPairs.{found_pairs_rise}
use Rattle.aat_read_pairs.proofs.listed.bisected_table.Goals as goal

pub table_of-requires : goal.table_of-requires
table_of-requires g c =
    ap (first_fall key_of_pair) (c.deref.ensures.value ∙ c.in_ok-pairs.ensures)
    ∙ found_pairs_rise c.args.bytes.now c.args.tuples c.args.place c.args.count
