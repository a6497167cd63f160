use Rattle.std.proofs.Common.{◌-◌, ◌<◌, length, get_or, arith}
use Rattle.std.proofs.lemmas.Bool.Decides.{nat_tests}
use Rattle.std.proofs.lemmas.List.{get_or_default}
use Rattle.aat_lookup.proofs.DenseAnswers.{span_holds}
use Rattle.aat_lookup.proofs.dense.span_of.Goals as goal

pub overflow_sub-count : goal.overflow_sub-count
overflow_sub-count c =
    let pairs = c.args.pairs.now in
    let low = get_or pairs 0 (0, 0) in
    let high = get_or pairs (length pairs - 1) (0, 0) in
    let some : 0 < length pairs = grind (arith, nat_tests) in
    (span_holds pairs low high c.requires some (get_or_default pairs 0 (0, 0) low some) (get_or_default pairs (length pairs - 1) (0, 0) high (omega arith))).0

pub returns-clause-within : goal.returns-clause-within
returns-clause-within c some_glyph =
    let pairs = c.args.pairs.now in
    let low = get_or pairs 0 (0, 0) in
    let high = get_or pairs (length pairs - 1) (0, 0) in
    let some : 0 < length pairs = grind (arith, nat_tests) in
    (span_holds pairs low high c.requires some (get_or_default pairs 0 (0, 0) low some) (get_or_default pairs (length pairs - 1) (0, 0) high (omega arith))).1
