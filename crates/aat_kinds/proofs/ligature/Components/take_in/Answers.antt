use Rattle.std.proofs.Common.{◌∙◌, Some, None, ap, refl}
use Rattle.aat_machine_tables.specs.Subtables.{LigatureTables}
use Rattle.aat_kinds.proofs.Ligating.{found_in, missing_in, step_with_value, step_without_action, step_without_value, value_read}
use Rattle.aat_kinds.proofs.ligature.Components.take_in.Goals as goal

pub returns-in_err-action-clause-slots : goal.returns-in_err-action-clause-slots
returns-in_err-action-clause-slots g c = refl

pub returns-in_err-action-clause-held : goal.returns-in_err-action-clause-held
returns-in_err-action-clause-held g c = c.requires.below

pub returns-in_err-action-clause-successful : goal.returns-in_err-action-clause-successful
returns-in_err-action-clause-successful g c = refl

pub returns-in_err-action-clause-ids : goal.returns-in_err-action-clause-ids
returns-in_err-action-clause-ids g c = c.requires.ids

pub returns-in_err-action-clause-count : goal.returns-in_err-action-clause-count
returns-in_err-action-clause-count g c = refl

pub returns-in_err-value-clause-slots : goal.returns-in_err-value-clause-slots
returns-in_err-value-clause-slots g c = refl

pub returns-in_err-value-clause-held : goal.returns-in_err-value-clause-held
returns-in_err-value-clause-held g c = c.requires.below

pub returns-in_err-value-clause-successful : goal.returns-in_err-value-clause-successful
returns-in_err-value-clause-successful g c = refl

pub returns-in_err-value-clause-ids : goal.returns-in_err-value-clause-ids
returns-in_err-value-clause-ids g c = c.requires.ids

pub returns-in_err-value-clause-count : goal.returns-in_err-value-clause-count
returns-in_err-value-clause-count g c = refl

pub returns-clause-slots : goal.returns-clause-slots
returns-clause-slots g c = c.take_by.ensures.slots

pub returns-clause-held : goal.returns-clause-held
returns-clause-held g c = c.take_by.ensures.held

pub returns-clause-fewer : goal.returns-clause-fewer
returns-clause-fewer g c = c.take_by.ensures.fewer

pub returns-clause-successful : goal.returns-clause-successful
returns-clause-successful g c = c.take_by.ensures.successful

pub returns-clause-ids : goal.returns-clause-ids
returns-clause-ids g c = c.take_by.ensures.ids

pub returns-clause-count : goal.returns-clause-count
returns-clause-count g c = c.take_by.ensures.count

pub returns-in_err-action-clause-stops : goal.returns-in_err-action-clause-stops
returns-in_err-action-clause-stops g c =
    let actions = c.deref.ensures.value ∙ ap (λ (x : LigatureTables). x.actions) c.subtable.view_is in
    λ _. step_without_action c.args.subtable.now c.args.c c.args.self.now c.args.buffer.now c.args.place c.args.sum (missing_in c.deref.result.now c.args.subtable.now.actions c.args.place actions c.in_err-action.ensures.lookup.0)

pub returns-in_err-value-clause-stops : goal.returns-in_err-value-clause-stops
returns-in_err-value-clause-stops g c =
    let t = c.args.subtable.now in
    let a = c.in_ok-action.field-0.now in
    let actions = c.deref.ensures.value ∙ ap (λ (x : LigatureTables). x.actions) c.subtable.view_is in
    let components = c.deref-2.ensures.value ∙ ap (λ (x : LigatureTables). x.components) c.subtable.view_is in
    let found = found_in c.deref.result.now t.actions c.args.place a actions c.in_ok-action.ensures.lookup.0 c.in_ok-action.ensures.lookup.1 in
    let value = value_read t c.args.c c.args.self.now c.args.buffer.now c.deref-2.result.now c.place.result a c.info.result.now c.component_value.result None components c.place.ensures c.info.ensures.read c.component_value.ensures c.in_err-value.was in
    λ _. step_without_value t c.args.c c.args.self.now c.args.buffer.now c.args.place c.args.sum a found value

pub returns-clause-goes_on : goal.returns-clause-goes_on
returns-clause-goes_on g c =
    let t = c.args.subtable.now in
    let a = c.in_ok-action.field-0.now in
    let actions = c.deref.ensures.value ∙ ap (λ (x : LigatureTables). x.actions) c.subtable.view_is in
    let components = c.deref-2.ensures.value ∙ ap (λ (x : LigatureTables). x.components) c.subtable.view_is in
    let found = found_in c.deref.result.now t.actions c.args.place a actions c.in_ok-action.ensures.lookup.0 c.in_ok-action.ensures.lookup.1 in
    let value = value_read t c.args.c c.args.self.now c.args.buffer.now c.deref-2.result.now c.place.result a c.info.result.now c.component_value.result (Some c.in_ok-value.value) components c.place.ensures c.info.ensures.read c.component_value.ensures c.in_ok-value.was in
    rw (step_with_value t c.args.c c.args.self.now c.args.buffer.now c.args.place c.args.sum a c.in_ok-value.value c.from.result found value c.from.ensures) c.take_by.ensures.goes_on

pub returns-clause-stops : goal.returns-clause-stops
returns-clause-stops g c =
    let t = c.args.subtable.now in
    let a = c.in_ok-action.field-0.now in
    let actions = c.deref.ensures.value ∙ ap (λ (x : LigatureTables). x.actions) c.subtable.view_is in
    let components = c.deref-2.ensures.value ∙ ap (λ (x : LigatureTables). x.components) c.subtable.view_is in
    let found = found_in c.deref.result.now t.actions c.args.place a actions c.in_ok-action.ensures.lookup.0 c.in_ok-action.ensures.lookup.1 in
    let value = value_read t c.args.c c.args.self.now c.args.buffer.now c.deref-2.result.now c.place.result a c.info.result.now c.component_value.result (Some c.in_ok-value.value) components c.place.ensures c.info.ensures.read c.component_value.ensures c.in_ok-value.was in
    λ none. step_with_value t c.args.c c.args.self.now c.args.buffer.now c.args.place c.args.sum a c.in_ok-value.value c.from.result found value c.from.ensures ∙ c.take_by.ensures.stops none
