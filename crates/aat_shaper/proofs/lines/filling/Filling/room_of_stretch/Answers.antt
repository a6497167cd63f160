use Rattle.std.proofs.Common.{◌≡◌, ◌∙◌, ◌-◌, ◌+ℤ◌, arith, length, of_z, to_z, w64}
use Rattle.std.proofs.lemmas.Int.{ints}
use Rattle.std.specs.Prelude.{slice_range}
use Rattle.aat_buffer.proofs.Pending.{length_range}
use Rattle.aat_shaper.proofs.Sums.{summed_within}
use Rattle.aat_shaper.proofs.lines.filling.Filling.room_of_stretch.Goals as goal

pub returns : goal.returns
returns c =
    let f = c.args.self.now in
    let xs = f.whole.now in
    let s = c.args.summed in
    let before = c.room_of_all-before.result in
    let behind = c.room_of_all-behind.result in
    let known = c.requires.summed in
    let front : length (slice_range xs c.args.from s.from) ≡ s.from - c.args.from =
    length_range c.args.from s.from xs (omega (arith, known.order, known.within))
    in
    let rest : length (slice_range xs s.to c.args.to) ≡ c.args.to - s.to =
    length_range s.to c.args.to xs c.requires.within
    in
    let total :
    to_z w64
    (of_z w64
    (to_z w64 (of_z w64 (to_z w64 (of_z w64 before) +ℤ to_z w64 (of_z w64 s.sum)))
    +ℤ to_z w64 (of_z w64 behind)))
    ≡ (before +ℤ s.sum) +ℤ behind =
    omega (arith, ints, front, rest)
    in
    total
    ∙ summed_within f s known c.args.hang c.args.from c.args.to before behind
    (c.counts_where.ensures c.if-not-counts_where.false) c.if-summed-from.false
    c.if-to-summed.false c.room_of_all-before.ensures.value c.room_of_all-behind.ensures.value
