use Rattle.std.proofs.Common.{◌≡◌, ◌<◌, true}
use Rattle.aat_findings.specs.Chained.{is_clash_at}
use Rattle.aat_findings.specs.Reached.{AreExactly}
use Rattle.aat_findings.proofs.exclusive.exclusive_settings.Given as goal

abbrev pub invariant-loop-place : goal.invariant-loop-place
invariant-loop-place l =
    AreExactly (λ i. (i < l.place) × (is_clash_at l.feat l.default_flags l.features i ≡ true)) l.places.items
