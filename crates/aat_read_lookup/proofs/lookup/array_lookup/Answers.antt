use Rattle.std.proofs.Common.{rules, ℕ, ◌+◌, ◌++◌, [], List, map, length, ap, sym, ◌∙◌, arith}
use Rattle.std.specs.List.{range_with_len}
use Rattle.std.proofs.lemmas.List.{append-nil}
use Rattle.std.proofs.lemmas.List.FromFn.{length-map-range_with_len}
use Rattle.aat_read_lookup.specs.Kept.{kept_value}
use Rattle.aat_read_lookup.proofs.ValueRows.{pairs_of_values}
use Rattle.aat_read_lookup.proofs.lookup.array_lookup.Goals as goal

pub overflow_cast-segment : goal.overflow_cast-segment
overflow_cast-segment g c = omega (arith, c.requires.sound.glyphs, c.if-segment-eq0.false)

pub of_values_from-requires : goal.of_values_from-requires
of_values_from-requires g c =
    let v : ℕ → ℕ = kept_value c.args.bytes.now c.args.keep c.args.segment.values in
    omega (arith, c.requires.sound.glyphs, ap length c.in_ok-values.ensures, length-map-range_with_len v 0 c.args.segment.count)

pub returns : goal.returns
returns g c =
    let v : ℕ → ℕ = kept_value c.args.bytes.now c.args.keep c.args.segment.values in
    let same = pairs_of_values c.args.segment.first c.args.segment.count v c.in_ok-values.values.items c.in_ok-values.ensures in
    let end = append-nil (map {B = ℕ × ℕ} (λ k. (c.args.segment.first + k, v k)) (range_with_len 0 c.args.segment.count)) in
    search (rules, same, end)
