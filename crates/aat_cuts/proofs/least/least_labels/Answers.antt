use Rattle.std.proofs.Common.{◌≡◌, length, arith}
use Rattle.aat_cuts.specs.Labels.{AreLeast}
use Rattle.aat_cuts.proofs.Raised.{written_back}
use Rattle.aat_cuts.proofs.least.least_labels.Goals as goal

pub returns : goal.returns
returns c =
    let long : length c.settle.new.labels ≡ c.in_ok-labels.labels.len = omega arith in
    let here = c.in_ok-_looks.ensures in
    let found : AreLeast c.args.edges.now c.settle.new.labels = record {
      are = here.labels;
      met = here.met;
      least = λ label met. here.least label met (λ state. rw c.deref_mut.ensures.value (omega (arith, c.in_ok-labels.ensures.zero state)));
    } in
    written_back (λ l. AreLeast c.args.edges.now l) _ c.settle.new.labels _ long found
