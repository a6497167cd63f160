use Rattle.std.proofs.Common.{inl, inr, ◌+◌, ◌-◌, ◌*◌, ◌<◌, length, get_or, pos, arith}
use Rattle.std.proofs.lemmas.Bool.Decides.{nat_tests}
use Rattle.aat_kerning_tables.specs.Pairs.{key_of_pair}
use Rattle.aat_kerning_tables.proofs.LeftParts.{of_left, of_none, part_rises, places_rise}
use Rattle.aat_kerning_tables.proofs.lefts.pairs_from.Goals as goal

pub returns-then-left-lowest-clause-same : goal.returns-then-left-lowest-clause-same
returns-then-left-lowest-clause-same c right small =
    let some : 0 < length c.args.starts.now = grind (arith, nat_tests) in
    of_none c.args.pairs.now c.args.left right small c.args.lowest (length c.args.starts.now) (c.requires.starts.1 some) (inl (omega arith))

pub returns-then-place-starts-clause-same : goal.returns-then-place-starts-clause-same
returns-then-place-starts-clause-same c right small =
    let some : 0 < length c.args.starts.now = grind (arith, nat_tests) in
    of_none c.args.pairs.now c.args.left right small c.args.lowest (length c.args.starts.now) (c.requires.starts.1 some) (inr (omega arith))

pub returns-then-place-starts-2-clause-rising : goal.returns-then-place-starts-2-clause-rising
returns-then-place-starts-2-clause-rising c =
    let pairs = c.args.pairs.now in
    let start = get_or c.args.starts.now (c.args.left - c.args.lowest) 0 in
    rw c.part_of.ensures (part_rises key_of_pair pairs start (length pairs - start) c.requires.rising)

pub returns-then-place-starts-2-clause-same : goal.returns-then-place-starts-2-clause-same
returns-then-place-starts-2-clause-same c right small =
    let pairs = c.args.pairs.now in
    let place = c.args.left - c.args.lowest in
    let start = get_or c.args.starts.now place 0 in
    let begins = c.requires.starts.0 place (omega arith) in
    let part = of_left pairs c.args.left right small start (length pairs) ((c.args.lowest + place) * 65536) ((c.args.left + 1) * 65536) begins.1 (omega arith) (λ i d le lt. absurd (omega arith)) (omega arith) in
    rw c.part_of.ensures part

pub part_of-requires-2-clause-order : goal.part_of-requires-2-clause-order
part_of-requires-2-clause-order c =
    let place = c.args.left - c.args.lowest in
    let begins = c.requires.starts.0 place (omega arith) in
    let ends = c.requires.starts.0 (place + 1) (omega arith) in
    places_rise key_of_pair c.args.pairs.now (get_or c.args.starts.now place 0) (get_or c.args.starts.now (place + 1) 0) ((c.args.lowest + place) * 65536) ((c.args.lowest + (place + 1)) * 65536) (0, 0, pos 0) begins ends (omega arith)

pub returns-clause-rising : goal.returns-clause-rising
returns-clause-rising c =
    let pairs = c.args.pairs.now in
    let place = c.args.left - c.args.lowest in
    let start = get_or c.args.starts.now place 0 in
    let end = get_or c.args.starts.now (place + 1) 0 in
    rw c.part_of-2.ensures (part_rises key_of_pair pairs start (end - start) c.requires.rising)

pub returns-clause-same : goal.returns-clause-same
returns-clause-same c right small =
    let pairs = c.args.pairs.now in
    let place = c.args.left - c.args.lowest in
    let start = get_or c.args.starts.now place 0 in
    let end = get_or c.args.starts.now (place + 1) 0 in
    let begins = c.requires.starts.0 place (omega arith) in
    let ends = c.requires.starts.0 (place + 1) (omega arith) in
    let part = of_left pairs c.args.left right small start end ((c.args.lowest + place) * 65536) ((c.args.lowest + (place + 1)) * 65536) begins.1 (omega arith) ends.2 (omega arith) in
    rw c.part_of-2.ensures part
