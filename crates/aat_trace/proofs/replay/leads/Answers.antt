use Rattle.std.proofs.Common.{◌∙◌, ap, sym, List, Some}
use Rattle.std.proofs.lemmas.Bool.Decides.{Decides-eqb}
use Rattle.std.proofs.lemmas.List.{take_all}
use Rattle.std.proofs.lemmas.Slice.Eq.{slice_eq-Decides}
use Rattle.aat_trace.specs.Replay.{replayed}
use Rattle.aat_trace.specs.declared.traced.TracedAct.{TracedAct}
use Rattle.aat_trace.proofs.replay.leads.Goals as goal

pub returns : goal.returns
returns c = λ same.
    let l = c.loop-act in
    let decided = slice_eq-Decides Decides-eqb c.as_slice.result.now c.args.last.now c.eq.result c.eq.ensures in
    sym (ap (λ (acts : List TracedAct). replayed acts c.args.first.items) (take_all l.act-index c.args.acts.now c.loop-act-test.false))
    ∙ (l.invariant ∙ ap Some (sym c.in_ok-into_ids.ensures ∙ sym c.as_slice.ensures.value ∙ decided.0 same))
