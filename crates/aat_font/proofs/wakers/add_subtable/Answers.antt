use Rattle.std.proofs.Common.{◌/◌, ◌<◌, length, refl, arith}
use Rattle.std.proofs.lemmas.Result.{on_ok_weaker}
use Rattle.aat_font.proofs.MoreWakers.{marked_keeps, marked_wakes, without_word}
use Rattle.aat_font.proofs.wakers.add_subtable.Goals as goal

pub returns-then-block-len-clause-kept : goal.returns-then-block-len-clause-kept
returns-then-block-len-clause-kept c = c.in_ok-begin_word.ensures.kept

pub returns-then-block-len-clause-awake : goal.returns-then-block-len-clause-awake
returns-then-block-len-clause-awake c =
    without_word c.begin_word.new.words.items c.args.number c.args.subtable.now (omega (arith, c.if-block-len.true, c.len.ensures, c.begin_word.new.words.ok))

pub returns-clause-kept : goal.returns-clause-kept
returns-clause-kept c =
    let words = c.begin_word.new.words in
    let place = c.args.number / 64 in
    let within : place < length words.items = omega (arith, c.if-block-len.false, c.len.ensures, words.ok) in
    on_ok_weaker c.mark_subtable.result
    (λ kept k s below wake.
    marked_keeps words.items place c.index_mut.result.now c.mark_subtable.new.self within c.index_mut.ensures.value kept c.args.number k s below
    (c.in_ok-begin_word.ensures.kept k s below wake))
    c.mark_subtable.ensures.kept

pub returns-clause-awake : goal.returns-clause-awake
returns-clause-awake c =
    let words = c.begin_word.new.words in
    let place = c.args.number / 64 in
    let within : place < length words.items = omega (arith, c.if-block-len.false, c.len.ensures, words.ok) in
    on_ok_weaker c.mark_subtable.result
    (λ awake. marked_wakes words.items place c.mark_subtable.new.self within c.args.number c.args.subtable.now refl awake)
    c.mark_subtable.ensures.awake
