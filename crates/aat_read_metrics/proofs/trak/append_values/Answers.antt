use Rattle.std.proofs.Common.{◌+◌, ◌*◌, ◌∙◌, rules, SFits, w16}
use Rattle.std.proofs.lemmas.Int.{to_z-of_z}
use Rattle.aat_bytes.specs.Numbers.{be16, signed16}
use Rattle.aat_read_metrics.proofs.Appended.{one_more}
use Rattle.aat_read_metrics.proofs.trak.append_values.Goals as goal

pub loop-s-preserved : goal.loop-s-preserved
loop-s-preserved g c =
    let fits : SFits w16 c.value_at.result = search rules in
    one_more (λ s. signed16 (be16 c.args.bytes.now (c.args.place + 2 * s))) c.args.values.now.items c.loop-s.values.items c.push.new.self.items c.loop-s.s _ (to_z-of_z w16 c.value_at.result fits ∙ c.value_at.ensures) c.loop-s.invariant c.in_ok-push.ensures.items
