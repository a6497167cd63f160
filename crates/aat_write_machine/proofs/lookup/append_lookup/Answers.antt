use Rattle.std.proofs.Common.{◌≡◌, None, rules}
use Rattle.aat_lookup.specs.Keys.{first, first_fall}
use Rattle.aat_write_machine.proofs.Units.{lookup_is_appended}
use Rattle.aat_write_machine.proofs.lookup.append_lookup.Goals as goal

pub returns : goal.returns
returns g c =
    let rises : first_fall first c.args.pairs.now ≡ None = search rules in
    lookup_is_appended c.args.pairs.now c.args.out.now.items c.append_words.new.out.items c.append_pairs.new.out.items c.append_words-2.new.out.items
    rises c.if-pairs-gt65534.false c.in_ok-append_words.ensures c.in_ok-append_pairs.ensures c.in_ok-append_words-2.ensures
