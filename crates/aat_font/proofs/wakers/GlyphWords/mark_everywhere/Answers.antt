use Rattle.std.proofs.Common.{◌*◌, ◌%◌, ◌^◌, get_or, bit_or, arith, w64}
use Rattle.std.proofs.lemmas.Nat.Bits.{bit_at_or, bit_at_set_same, bit_at-lt}
use Rattle.aat_font.specs.Wakers.{word_place}
use Rattle.aat_font.proofs.MoreBits.{or_wider, wider}
use Rattle.aat_font.proofs.wakers.GlyphWords.mark_everywhere.Goals as goal

pub returns-clause-kept : goal.returns-clause-kept
returns-clause-kept c = λ g k.
    let w = c.args.self.now in
    let bits = get_or w.words.items (word_place g) 0 in
    let m = 1 * 2 ^ c.args.bit % 18446744073709551616 in
    or_wider w.everywhere bits (bit_or w.everywhere m) bits k (wider w.everywhere m k) (omega arith)

pub returns-clause-set : goal.returns-clause-set
returns-clause-set c = λ g.
    let w = c.args.self.now in
    let bits = get_or w.words.items (word_place g) 0 in
    let all = bit_or w.everywhere (1 * 2 ^ c.args.bit % 18446744073709551616) in
    omega (arith, bit_at_or all bits c.args.bit, bit_at_set_same w64 w.everywhere c.args.bit c.requires.bit, bit_at-lt bits c.args.bit)
