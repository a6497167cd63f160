use Rattle.std.proofs.Common.{◌≡◌, ◌/◌, length, arith}
use Rattle.aat_font.proofs.MoreWakers.{word_more}
use Rattle.aat_font.proofs.wakers.begin_word.Goals as goal

pub returns : goal.returns
returns c =
    let words = c.args.words.now in
    let long : length words.items ≡ c.args.number / 64 = omega (arith, c.if-len-number.false, c.len.ensures, words.ok) in
    record { kept = rw c.in_ok-push.ensures.items (word_more words.items _ c.args.number long c.if-number-ne0.false) }
