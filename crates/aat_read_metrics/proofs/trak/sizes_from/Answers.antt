use Rattle.std.proofs.Common.{[], ◌+◌, ◌*◌, ◌∙◌, rules, SFits, w32}
use Rattle.std.proofs.lemmas.Int.{to_z-of_z}
use Rattle.aat_bytes.specs.Numbers.{be32}
use Rattle.aat_read_metrics.specs.Trak.{signed32}
use Rattle.aat_read_metrics.proofs.Appended.{one_more}
use Rattle.aat_read_metrics.proofs.trak.sizes_from.Goals as goal

pub loop-s-preserved : goal.loop-s-preserved
loop-s-preserved g c =
    let fits : SFits w32 c.fixed_at.result = search rules in
    one_more (λ s. signed32 (be32 c.args.bytes.now (c.args.place + 4 * s))) [] c.loop-s.sizes.items c.push.new.self.items c.loop-s.s _ (to_z-of_z w32 c.fixed_at.result fits ∙ c.fixed_at.ensures) c.loop-s.invariant c.in_ok-push.ensures.items
