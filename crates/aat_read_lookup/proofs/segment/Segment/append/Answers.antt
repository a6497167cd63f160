use Rattle.std.proofs.Common.{ℕ, ◌+◌}
use Rattle.aat_read_lookup.specs.Kept.{kept_value}
use Rattle.aat_read_lookup.proofs.Appended.{one_more, same_glyph}
use Rattle.aat_read_lookup.proofs.segment.Segment.append.Goals as goal

pub loop-k-preserved : goal.loop-k-preserved
loop-k-preserved g c =
    let value : ℕ → ℕ = kept_value c.args.bytes.now c.args.keep c.args.self.values in
    let pair : ℕ → ℕ × ℕ = λ k. (c.args.self.first + k, kept_value c.args.bytes.now c.args.keep c.args.self.values k) in
    let pushed : ℕ × ℕ = (c.args.self.first + c.loop-k.k, c.kept.result) in
    one_more pair c.args.pairs.now.items c.loop-k.pairs.items c.push.new.self.items c.loop-k.k pushed (same_glyph (c.args.self.first + c.loop-k.k) c.kept.result (value c.loop-k.k) c.kept.ensures) c.loop-k.invariant c.in_ok-push.ensures.items
