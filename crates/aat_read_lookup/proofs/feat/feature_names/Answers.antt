use Rattle.std.proofs.Common.{sym, ◌∙◌}
use Rattle.aat_bytes.specs.Bisection.{is_found}
use Rattle.aat_read_lookup.specs.Features.{feature_name, kind_at}
use Rattle.aat_read_lookup.specs.facts.PassedRows.{passes_none, passes_one}
use Rattle.aat_read_lookup.proofs.feat.feature_names.Goals as goal
use Rattle.aat_read_lookup.proofs.feat.feature_names.Goals.{then-is_found+in_ok-push, else-is_found}

pub loop-i-preserved : goal.loop-i-preserved
loop-i-preserved g c =
    let name = feature_name c.args.bytes.now in
    let test = is_found (kind_at c.args.bytes.now) c.args.count in
    elim c.if-is_found.branch [
      | then-is_found+in_ok-push w ↦
          rw w.names-is
          (passes_one name test c.loop-i.names.items w.push.new.self.items c.loop-i.i w.feature_name.result c.loop-i.invariant
          (sym c.is_found.ensures ∙ w.if-is_found.true) w.feature_name.ensures w.in_ok-push.ensures.items)
      | else-is_found w ↦
          rw w.names-is
          (passes_none name test c.loop-i.names.items c.loop-i.i c.loop-i.invariant
          (sym c.is_found.ensures ∙ w.if-is_found.false))
    ]
