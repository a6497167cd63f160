use Rattle.std.proofs.Common.{◌≡◌, ℕ, Bool, true, get_or, subst}
use Rattle.std.proofs.lemmas.List.{get_or_default}
use Rattle.aat_machine_tables.specs.Table.{Rule}
use Rattle.aat_machine_tables.specs.declared.state_table.GenericStateEntry.{GenericStateEntry}
use Rattle.aat_findings.specs.inside.Making.{AreMore, IsTold}
use Rattle.aat_findings.proofs.Making.{more_step}
use Rattle.aat_findings.proofs.ligatures.mark_rules.Goals as goal

pub loop-rule-preserved : goal.loop-rule-preserved
loop-rule-preserved c =
    let rules = c.args.rules.now in
    let marks = c.args.marks.now in
    let l = c.loop-rule in
    let i = l.rule-index in
    let within = c.loop-rule-test.true in
    let none : Rule (GenericStateEntry ℕ) = (0, 0, record { new_state = 0; flags = 0; extra = 0 }) in
    let rule = get_or rules i none in
    let at : get_or rules i rule ≡ rule = get_or_default rules i rule none within in
    let classes = c.mark_where.new.marks in
    let starts = c.mark_where-in-loop-rule.new.marks in
    let holds = subst (λ (b : Bool). AreMore l.classes (λ n. (b ≡ true) × (rule.1 ≡ n)) classes) c.is_told-holds.ensures c.mark_where.ensures in
    let performs = subst (λ (b : Bool). AreMore l.starts (λ n. (b ≡ true) × (rule.2.extra ≡ n)) starts) c.is_told-performs.ensures c.mark_where-in-loop-rule.ensures in
    record {
      classes = more_step rules i rule within at (λ n place. IsTold marks 0x8000 (λ r. r.1) n) c.args.classes.now l.classes classes l.invariant.classes holds;
      starts = more_step rules i rule within at (λ n place. IsTold marks 0x2000 (λ r. r.2.extra) n) c.args.starts.now l.starts starts l.invariant.starts performs;
    }
