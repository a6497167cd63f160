use Rattle.std.proofs.Common.{◌≡◌, ◌∙◌, true, false, ap, arith, refl}
use Rattle.std.proofs.lemmas.Bool.Decides.{nat_tests}
use Rattle.aat_machine_tables.specs.Subtables.{LigatureTables}
use Rattle.aat_kinds.specs.Ligature.{Registers, is_last, is_store}
use Rattle.aat_kinds.proofs.Ligating.{found_in, missing_in, taken_missing, taken_last, taken_further}
use Rattle.aat_kinds.proofs.ligature.Components.take_by.Goals as goal

pub returns-then-action-eq0-clause-goes_on : goal.returns-then-action-eq0-clause-goes_on
returns-then-action-eq0-clause-goes_on g c = rw c.if-action-eq0.true refl

pub returns-then-action-eq0-clause-slots : goal.returns-then-action-eq0-clause-slots
returns-then-action-eq0-clause-slots g c = refl

pub returns-then-action-eq0-clause-held : goal.returns-then-action-eq0-clause-held
returns-then-action-eq0-clause-held g c = c.requires.below

pub returns-then-action-eq0-clause-successful : goal.returns-then-action-eq0-clause-successful
returns-then-action-eq0-clause-successful g c = refl

pub returns-then-action-eq0-clause-ids : goal.returns-then-action-eq0-clause-ids
returns-then-action-eq0-clause-ids g c = c.requires.ids

pub returns-then-action-eq0-clause-count : goal.returns-then-action-eq0-clause-count
returns-then-action-eq0-clause-count g c = refl

pub returns-in_default-clause-slots : goal.returns-in_default-clause-slots
returns-in_default-clause-slots g c = refl

pub returns-in_default-clause-held : goal.returns-in_default-clause-held
returns-in_default-clause-held g c = c.requires.below

pub returns-in_default-clause-successful : goal.returns-in_default-clause-successful
returns-in_default-clause-successful g c = refl

pub returns-in_default-clause-ids : goal.returns-in_default-clause-ids
returns-in_default-clause-ids g c = c.requires.ids

pub returns-in_default-clause-count : goal.returns-in_default-clause-count
returns-in_default-clause-count g c = refl

pub returns-then-action-ne0-clause-slots : goal.returns-then-action-ne0-clause-slots
returns-then-action-ne0-clause-slots g c = ap (λ (r : Registers). r.slots) c.store.ensures.held

pub returns-then-action-ne0-clause-held : goal.returns-then-action-ne0-clause-held
returns-then-action-ne0-clause-held g c = rw c.store.ensures.held (omega arith)

pub returns-then-action-ne0-clause-fewer : goal.returns-then-action-ne0-clause-fewer
returns-then-action-ne0-clause-fewer g c = rw c.store.ensures.held (omega (arith, c.requires.below))

pub returns-then-action-ne0-clause-successful : goal.returns-then-action-ne0-clause-successful
returns-then-action-ne0-clause-successful g c = c.store.ensures.successful

pub returns-then-action-ne0-clause-ids : goal.returns-then-action-ne0-clause-ids
returns-then-action-ne0-clause-ids g c = c.store.ensures.ids

pub returns-then-action-ne0-clause-count : goal.returns-then-action-ne0-clause-count
returns-then-action-ne0-clause-count g c = c.store.ensures.count

pub returns-clause-slots : goal.returns-clause-slots
returns-clause-slots g c = ap (λ (r : Registers). r.slots) c.store.ensures.held

pub returns-clause-held : goal.returns-clause-held
returns-clause-held g c = rw c.store.ensures.held (omega arith)

pub returns-clause-fewer : goal.returns-clause-fewer
returns-clause-fewer g c = rw c.store.ensures.held (omega (arith, c.requires.below))

pub returns-clause-successful : goal.returns-clause-successful
returns-clause-successful g c = c.store.ensures.successful

pub returns-clause-ids : goal.returns-clause-ids
returns-clause-ids g c = c.store.ensures.ids

pub returns-clause-count : goal.returns-clause-count
returns-clause-count g c = c.store.ensures.count

pub returns-in_default-clause-stops : goal.returns-in_default-clause-stops
returns-in_default-clause-stops g c =
    let t = c.args.subtable.now in
    let stores : is_store c.args.action ≡ true = grind (arith, nat_tests, c.if-action-eq0.false) in
    let same = c.deref.ensures.value ∙ ap (λ (x : LigatureTables). x.ligatures) c.subtable.view_is in
    λ _. taken_missing t c.args.c c.args.self.now c.args.buffer.now c.args.action c.args.sum stores (missing_in c.deref.result.now t.ligatures c.args.sum same c.in_default.ensures.lookup.0)

pub returns-then-action-ne0-clause-stops : goal.returns-then-action-ne0-clause-stops
returns-then-action-ne0-clause-stops g c =
    let t = c.args.subtable.now in
    let stores : is_store c.args.action ≡ true = grind (arith, nat_tests, c.if-action-eq0.false) in
    let last : is_last c.args.action ≡ true = grind (arith, nat_tests, c.if-action-ne0.true) in
    let same = c.deref.ensures.value ∙ ap (λ (x : LigatureTables). x.ligatures) c.subtable.view_is in
    let found = found_in c.deref.result.now t.ligatures c.args.sum c.in-Some.ligature.now same c.in-Some.ensures.lookup.0 c.in-Some.ensures.lookup.1 in
    λ _. taken_last t c.args.c c.args.self.now c.args.buffer.now c.args.action c.args.sum stores c.in-Some.ligature.now found c.store.new.self c.store.new.buffer c.store.ensures.held c.store.ensures.stored last

pub returns-clause-goes_on : goal.returns-clause-goes_on
returns-clause-goes_on g c =
    let t = c.args.subtable.now in
    let stores : is_store c.args.action ≡ true = grind (arith, nat_tests, c.if-action-eq0.false) in
    let more : is_last c.args.action ≡ false = grind (arith, nat_tests, c.if-action-ne0.false) in
    let same = c.deref.ensures.value ∙ ap (λ (x : LigatureTables). x.ligatures) c.subtable.view_is in
    let found = found_in c.deref.result.now t.ligatures c.args.sum c.in-Some.ligature.now same c.in-Some.ensures.lookup.0 c.in-Some.ensures.lookup.1 in
    taken_further t c.args.c c.args.self.now c.args.buffer.now c.args.action c.args.sum stores c.in-Some.ligature.now found c.store.new.self c.store.new.buffer c.store.ensures.held c.store.ensures.stored more
