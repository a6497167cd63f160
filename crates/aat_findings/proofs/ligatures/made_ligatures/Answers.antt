use Rattle.std.proofs.Common.{rules, ◌≡◌, List, ℕ, length, subst, sym, ap, arith}
use Rattle.aat_machine_tables.specs.Subtables.{LigatureTables}
use Rattle.aat_findings.specs.Ligatures.{IsHeld, IsNamed}
use Rattle.aat_findings.specs.Reached.{AreExactly}
use Rattle.aat_findings.specs.inside.Making.{AreMadeMarks}
use Rattle.aat_findings.proofs.Making.{marks_back, none_read, numbers_of}
use Rattle.aat_findings.proofs.Marking.{written_back}
use Rattle.aat_findings.proofs.ligatures.made_ligatures.Goals as goal

pub find_held-requires : goal.find_held-requires
find_held-requires c =
    let t = c.args.subtable.now in
    let starts = c.in_ok-starts.starts.items in
    let long : length starts ≡ length t.actions = omega (arith, c.in_ok-starts.ensures.long, c.len.ensures, ap (λ (u : LigatureTables). length u.actions) c.subtable.view_is) in
    none_read (length t.actions) starts c.deref_mut.result.now long c.in_ok-starts.ensures.zero c.deref_mut.ensures.value

pub mark_made-requires : goal.mark_made-requires
mark_made-requires c =
    let t = c.args.subtable.now in
    let of_actions = ap (λ (u : LigatureTables). length u.actions) c.subtable.view_is in
    let of_ligatures = ap (λ (u : LigatureTables). length u.ligatures) c.subtable.view_is in
    let starts = c.find_held.new.starts in
    let long : length starts ≡ c.in_ok-starts.starts.len = omega (arith, c.in_ok-held.ensures.long, c.deref_mut.ensures.len) in
    let sums_long : length c.in_ok-sums.sums.items ≡ length t.ligatures = omega (arith, c.in_ok-sums.ensures.long, c.len-ligatures.ensures, of_ligatures) in
    let made_long : length c.in_ok-made.made.items ≡ length t.ligatures = omega (arith, c.in_ok-made.ensures.long, c.len-ligatures.ensures, of_ligatures) in
    record {
      held = subst (λ (l : List ℕ). AreExactly (IsHeld t) l) (sym c.deref.ensures.value) c.in_ok-held.ensures.held;
      starts = marks_back (IsNamed t 0x2000 (λ r. r.2.extra)) c.in_ok-starts.starts.len starts _ c.deref-2.result.now long c.deref-2.ensures.value c.in_ok-held.ensures.starts;
      actions = omega (arith, c.deref-2.ensures.len, c.in_ok-starts.ensures.long, c.len.ensures, of_actions);
      sums = none_read (length t.ligatures) c.in_ok-sums.sums.items c.deref_mut-2.result.now sums_long c.in_ok-sums.ensures.zero c.deref_mut-2.ensures.value;
      made = none_read (length t.ligatures) c.in_ok-made.made.items c.deref_mut-3.result.now made_long c.in_ok-made.ensures.zero c.deref_mut-3.ensures.value;
    }

pub returns-clause-some : goal.returns-clause-some
returns-clause-some c =
    let t = c.args.subtable.now in
    let made = c.mark_made.new.made in
    let long : length made ≡ c.in_ok-made.made.len = omega (arith, c.in_ok-mark_made.ensures.long, c.in_ok-made.ensures.long, c.len-ligatures.ensures, ap (λ (u : LigatureTables). length u.ligatures) c.subtable.view_is) in
    let are = subst (λ (l : List ℕ). AreMadeMarks t l) (sym c.deref-3.ensures.value) (written_back (λ (l : List ℕ). AreMadeMarks t l) c.in_ok-made.made.len made _ long c.in_ok-mark_made.ensures) in
    (search rules, numbers_of t c.deref-3.result.now c.in_ok-numbers.numbers.items are c.in_ok-numbers.ensures)
