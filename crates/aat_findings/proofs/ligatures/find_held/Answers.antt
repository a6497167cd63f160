use Rattle.std.proofs.Common.{◌≡◌, ◌∙◌, ℕ, List, length, get_or, subst, sym, ap, arith}
use Rattle.aat_lookup.specs.declared.glyph_id.GlyphId.{GlyphId}
use Rattle.aat_machine_tables.specs.Subtables.{LigatureTables}
use Rattle.aat_findings.specs.Ligatures.{IsHeld, IsNamed}
use Rattle.aat_findings.specs.Reached.{AreExactly}
use Rattle.aat_findings.specs.inside.Making.{AreMarksOf, AreMore, IsAmong}
use Rattle.aat_findings.proofs.Making.{held_of, marks_after, marks_back}
use Rattle.aat_findings.proofs.ligatures.find_held.Goals as goal

pub mark_reached-requires-clause-classes : goal.mark_reached-requires-clause-classes
mark_reached-requires-clause-classes c =
    λ n. ap (λ (l : List ℕ). get_or l n 0) c.deref_mut.ensures.value ∙ c.in_ok-classes.ensures.zero n

pub returns-clause-held : goal.returns-clause-held
returns-clause-held c =
    let a = c.subtable.inside in
    let u : LigatureTables = record { state = a.state; actions = a.ligature_actions.items; components = a.components.items; ligatures = a.ligatures.items } in
    let new = c.mark_reached.new.classes in
    let named = subst (λ (t : LigatureTables). AreMarksOf (IsNamed t 0x8000 (λ r. r.1)) new) (sym c.subtable.view_is) c.in_ok-mark_reached.ensures.classes in
    let long : length new ≡ c.in_ok-classes.classes.len = omega (arith, c.deref_mut.ensures.len) in
    let of_classes = marks_back (IsNamed u 0x8000 (λ r. r.1)) c.in_ok-classes.classes.len new _ c.deref-2.result.now long c.deref-2.ensures.value named in
    let class_long : length c.deref-2.result.now ≡ 65536 = omega (arith, c.deref-2.ensures.len, c.in_ok-classes.ensures.long) in
    let joined = c.mark_glyphs.new.marks in
    let none : (n : ℕ) → get_or c.deref_mut-2.result.now n 0 ≡ 0 = λ n. ap (λ (l : List ℕ). get_or l n 0) c.deref_mut-2.ensures.value ∙ c.in_ok-ligatures.ensures.zero n in
    let glyphs = subst (λ (gs : List GlyphId). AreMore c.deref_mut-2.result.now (λ n. IsAmong gs (length gs) (λ place g. g.0 ≡ n)) joined) c.deref.ensures.value c.mark_glyphs.ensures in
    let marked = marks_after c.deref_mut-2.result.now joined (λ n. IsAmong u.ligatures (length u.ligatures) (λ place g. g.0 ≡ n)) none glyphs in
    let joined_long : length joined ≡ c.in_ok-ligatures.ligatures.len = omega (arith, c.mark_glyphs.ensures.long, c.deref_mut-2.ensures.len) in
    let of_ligatures = marks_back (λ n. IsAmong u.ligatures (length u.ligatures) (λ place g. g.0 ≡ n)) c.in_ok-ligatures.ligatures.len joined _ c.deref-3.result.now joined_long c.deref-3.ensures.value marked in
    let ligature_long : length c.deref-3.result.now ≡ 65536 = omega (arith, c.deref-3.ensures.len, c.in_ok-ligatures.ensures.long) in
    let found = held_of u c.deref-2.result.now c.deref-3.result.now c.in_ok-held.held.items class_long ligature_long of_classes of_ligatures c.in_ok-held.ensures.few c.in_ok-held.ensures.held in
    subst (λ (t : LigatureTables). AreExactly (IsHeld t) c.in_ok-held.held.items) c.subtable.view_is found
