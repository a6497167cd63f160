use Rattle.std.proofs.Common.{◌≡◌, ◌∙◌, ◌*◌, ◌%◌, ◌^◌, get_or}
use Rattle.std.proofs.lemmas.List.{get_or_default}
use Rattle.aat_font.specs.Wakers.{word_place}
use Rattle.aat_font.proofs.MoreBits.{mark_keeps, mark_sets}
use Rattle.aat_font.proofs.wakers.GlyphWords.mark.Goals as goal

pub returns-clause-kept : goal.returns-clause-kept
returns-clause-kept c = λ g k.
    let w = c.reach.new.self in
    let at = c.in_ok-reach.ensures in
    let place = word_place c.args.glyph in
    let was : c.index_mut.result.now ≡ get_or w.words.items place 0 = c.index_mut.ensures.value ∙ get_or_default w.words.items place _ 0 at.reached in
    mark_keeps c.args.self.now w place c.index_mut.result.now (1 * 2 ^ c.args.bit % 18446744073709551616) at.reached was at.same g k

pub returns-clause-set : goal.returns-clause-set
returns-clause-set c =
    mark_sets c.reach.new.self (word_place c.args.glyph) c.index_mut.result.now c.args.bit c.requires.bit c.in_ok-reach.ensures.reached
