use Rattle.std.proofs.Common.{◌≡◌, true}
use Rattle.aat_run.specs.Driven.{context_from}
use Rattle.aat_cut_kinds.specs.facts.ContextCuts.{leaves_its_parts}
use Rattle.aat_cut_kinds.proofs.laws.unmarked_cut_leaves_parts.Goals as goal

pub returns : goal.returns
returns g c on table r labels q b fresh lawful cut =
    let context = g.C.driver_context_t in
    let laws = g.met.C.driver_context_t in
    let x = context_from context.stays_in_place context.advances context.actionable context.act r in
    leaves_its_parts on table x context.fits laws.keeps_fit laws.passes_fit laws.pays laws.keeps_settings laws.lengthens laws.makes_no_positions (laws.fits_fresh r fresh) laws.keeps_place
    (λ t. labels.is_reached t ≡ true) (λ gs t r s. labels.is_alike gs t r s ≡ true) (λ line. labels.is_marked line ≡ true) (λ line. labels.is_left line ≡ true) (λ line. labels.is_right line ≡ true)
    (λ level line. labels.is_sound level line ≡ true) lawful q b cut.front cut.back cut.sound cut.place
