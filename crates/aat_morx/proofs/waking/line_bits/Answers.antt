use Rattle.std.proofs.Common.{◌≡◌, ◌∙◌, ap, ℕ, ◌<◌, drop, length, arith}
use Rattle.std.proofs.lemmas.Bool.Decides.{nat_tests}
use Rattle.std.proofs.lemmas.Nat.Bits.{bit_at_ones}
use Rattle.aat_morx.proofs.LineBits.{told_of_all}
use Rattle.aat_morx.proofs.waking.line_bits.Goals as goal

pub returns-then-is_empty : goal.returns-then-is_empty
returns-then-is_empty g c = λ k low clear. absurd (omega (arith, bit_at_ones 64 k low, clear))

pub returns : goal.returns
returns g c =
    let b = c.args.buffer.now in
    let front : b.cursor ≡ 0 = omega (arith, c.backtrack_len.ensures.place, c.if-backtrack_len-gt0.false) in
    let some : 0 < length b.line = grind (arith, nat_tests, c.is_empty.ensures, c.if-is_empty.false) in
    told_of_all c.args.words.now b.line c.from_cursor.result.now c.everywhere.result c.bits_of.result c.listed.result.now
    c.everywhere.ensures c.listed.ensures (◌∙◌ {b = drop b.cursor b.line} c.from_cursor.ensures (ap (λ (p : ℕ). drop p b.line) front)) some c.bits_of.ensures
