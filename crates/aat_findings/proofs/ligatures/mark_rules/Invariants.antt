use Rattle.aat_findings.specs.inside.Making.{AreMore, IsAmong, IsTold}
use Rattle.aat_findings.proofs.ligatures.mark_rules.Given as goal

abbrev pub invariant-loop-rule : goal.invariant-loop-rule
invariant-loop-rule l = record {
  classes :
      AreMore l.fn.classes (λ n. IsAmong l.rules l.rule-index (λ place. IsTold l.marks 0x8000 (λ r. r.1) n)) l.classes;
  starts :
      AreMore l.fn.starts (λ n. IsAmong l.rules l.rule-index (λ place. IsTold l.marks 0x2000 (λ r. r.2.extra) n))
      l.starts;
}
