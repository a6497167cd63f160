use Rattle.std.proofs.Common.{◌<◌, ◌*◌, ◌%◌, ◌^◌, length, arith}
use Rattle.std.proofs.lemmas.Grind.{common_steps}
use Rattle.aat_font.proofs.MoreBits.{words_wider}
use Rattle.aat_font.proofs.SegmentBits.{set_more}
use Rattle.aat_font.proofs.wakers.mark_words.Goals as goal

pub loop-place-preserved : goal.loop-place-preserved
loop-place-preserved c =
    let was = c.loop-place.invariant in
    let xs = c.loop-place.words in
    let n = c.loop-place.place in
    let m = 1 * 2 ^ c.args.bit % 18446744073709551616 in
    let within : n < length xs = omega (arith, c.loop-place-test.true, was.long) in
    record {
      long = grind (arith, common_steps);
      kept = λ i k. omega (arith, was.kept i k, words_wider xs n m within i k);
      set = λ i low lt. set_more xs n c.args.bit c.requires within i (λ below. was.set i low below) lt;
    }
