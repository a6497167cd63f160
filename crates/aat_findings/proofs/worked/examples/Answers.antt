use Rattle.std.proofs.Common.{[], ◌∷◌, inr, refl, arith}
use Rattle.aat_findings.specs.Examples.{example_ligatures, to}
use Rattle.aat_findings.specs.Ligatures.{ComesTo, IsHeld, IsNamed}
use Rattle.aat_findings.specs.Reached.{IsReached}
use Rattle.aat_findings.proofs.Making.{begun_comes, carried_comes, last_ends}
use Rattle.aat_findings.proofs.worked.examples.Goals as goal

-- the states that the machine reaches: 0, and by class 4 also 2
start : IsReached example_ligatures.state 0
start = record { start = 0; line = []; begins = omega arith; leads = refl }

second : IsReached example_ligatures.state 2
second = record { start = 0; line = 4 ∷ []; begins = omega arith; leads = refl }

holds_first : IsHeld example_ligatures 1
holds_first = record {
  small = omega arith;
  way = inr (inr (record { rule = (0, 4, to 2 0x8000); listed = (0, omega arith, refl); reached = start; flagged = refl; named = refl }));
}

holds_second : IsHeld example_ligatures 2
holds_second = record {
  small = omega arith;
  way = inr (inr (record { rule = (2, 5, to 0 0xA000); listed = (1, omega arith, refl); reached = second; flagged = refl; named = refl }));
}

begins : IsNamed example_ligatures 0x2000 (λ r. r.2.extra) 0
begins = record { rule = (2, 5, to 0 0xA000); listed = (1, omega arith, refl); reached = second; flagged = refl; named = refl }

comes : ComesTo example_ligatures 1 2
comes = carried_comes example_ligatures 1 2 (
  0,
  refl,
  record {
    action = 0;
    before = 0;
    listed = refl;
    passes = refl;
    comes = begun_comes example_ligatures 0 0 (refl, begins);
    added = record { glyph = 2; value = 2; held = holds_second; read = refl; sum = refl };
  },
)

pub returns-clause-made : goal.returns-clause-made
returns-clause-made c = record {
  below = omega arith;
  place = 1;
  stored = record {
    action = 0x80000000;
    before = 2;
    listed = refl;
    passes = refl;
    comes = comes;
    added = record { glyph = 1; value = 1; held = holds_first; read = refl; sum = refl };
  };
}

pub returns-clause-last : goal.returns-clause-last
returns-clause-last c t place action sum listed last comes = last_ends t place action sum listed last comes
