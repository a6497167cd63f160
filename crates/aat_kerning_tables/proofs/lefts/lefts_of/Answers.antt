use Rattle.std.proofs.Common.{◌-◌, ◌<◌, length, get_or, pos, arith}
use Rattle.std.proofs.lemmas.Bool.Decides.{nat_tests}
use Rattle.std.proofs.lemmas.List.{get_or_default}
use Rattle.aat_kerning_tables.proofs.LeftParts.{lefts_hold}
use Rattle.aat_kerning_tables.proofs.lefts.lefts_of.Goals as goal

pub overflow_sub-count : goal.overflow_sub-count
overflow_sub-count c =
    let pairs = c.args.pairs.now in
    let low = get_or pairs 0 (0, 0, pos 0) in
    let high = get_or pairs (length pairs - 1) (0, 0, pos 0) in
    let some : 0 < length pairs = grind (arith, nat_tests) in
    (lefts_hold pairs low high c.key-lowest.result c.key-highest.result c.requires some (get_or_default pairs 0 (0, 0, pos 0) low some) (get_or_default pairs (length pairs - 1) (0, 0, pos 0) high (omega arith)) c.key-lowest.ensures c.key-highest.ensures).0

pub returns-clause-within : goal.returns-clause-within
returns-clause-within c some_glyph =
    let pairs = c.args.pairs.now in
    let low = get_or pairs 0 (0, 0, pos 0) in
    let high = get_or pairs (length pairs - 1) (0, 0, pos 0) in
    let some : 0 < length pairs = grind (arith, nat_tests) in
    (lefts_hold pairs low high c.key-lowest.result c.key-highest.result c.requires some (get_or_default pairs 0 (0, 0, pos 0) low some) (get_or_default pairs (length pairs - 1) (0, 0, pos 0) high (omega arith)) c.key-lowest.ensures c.key-highest.ensures).1
