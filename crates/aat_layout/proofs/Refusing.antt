-- A run that is refused, as a substitution that is.
use Rattle.std.proofs.Common.{◌≡◌, ◌∙◌, ap, inr, ℕ, ◌<◌, ◌&&◌, true, None, length, arith, nat_lt}
use Rattle.std.specs.Prelude.{is_none}
use Rattle.std.proofs.Math.Bool.{or-true}
use Rattle.std.proofs.lemmas.Bool.Decides.{nat_tests}
use Rattle.aat_buffer.specs.Buffer.{Buffer}
use Rattle.aat_font.specs.declared.face.hb_font_t.{hb_font_t}
use Rattle.aat_font.specs.declared.plan.hb_ot_shape_plan_t.{hb_ot_shape_plan_t}
use Rattle.aat_run.specs.Driven.{IsRefusal, IsRefused}
use Rattle.aat_run.specs.declared.error.AatError.{AatError}
use Rattle.aat_run.specs.declared.error.AatError.TheVariants.{AaltValue, TooLong, OutOfMemory, BufferFailed}
use Rattle.aat_kinds.specs.Kinds.{Sizes}
use Rattle.aat_layout.specs.Planned.{substitution_with}
use Rattle.aat_layout.specs.Refusals.{RefusesSubstitutionWith, LeavesBehindWith, first_too_large, grows_with, passes_with, wants_memory}

is_below : (n m : ℕ) → n < m → nat_lt n m ≡ true
is_below n m h = grind (arith, nat_tests, h)

-- a line with room that grows by a plan in which no value is too large
grown : (z : Sizes) (plan : hb_ot_shape_plan_t) (face : hb_font_t) (b : Buffer) → first_too_large plan face ≡ None → length b.line < length (substitution_with z plan face b).buffer.line → length b.line < b.max_len
    → grows_with z plan face b ≡ true
grown z plan face b fits h room =
    ap (λ o. is_none o && passes_with z plan face b (length b.line) && nat_lt (length b.line) b.max_len) fits
    ∙ (ap (λ t. t && nat_lt (length b.line) b.max_len) (is_below (length b.line) (length (substitution_with z plan face b).buffer.line) h) ∙ is_below (length b.line) b.max_len room)

-- why
pub reason_of_run : (z : Sizes) (plan : hb_ot_shape_plan_t) (face : hb_font_t) (b : Buffer) (e : AatError) → b.successful ≡ true → first_too_large plan face ≡ None
    → IsRefusal b (substitution_with z plan face b).buffer e → RefusesSubstitutionWith z plan face b e
reason_of_run z plan face b (AaltValue value) good fits h = absurd h
reason_of_run z plan face b TooLong good fits h = (good, fits, is_below b.max_len (length (substitution_with z plan face b).buffer.line) h)
reason_of_run z plan face b OutOfMemory good fits h = (good, rw (grown z plan face b fits h.0 h.1) (or-true (wants_memory plan face)))
reason_of_run z plan face b BufferFailed good fits h = absurd h

-- what is left
pub left_by_run : (z : Sizes) (plan : hb_ot_shape_plan_t) (face : hb_font_t) (b d : Buffer) (e : AatError) → first_too_large plan face ≡ None
    → IsRefusal b (substitution_with z plan face b).buffer e → IsRefused b d → LeavesBehindWith z plan face b d e
left_by_run z plan face b d (AaltValue value) fits h refused = absurd h
left_by_run z plan face b d TooLong fits h refused = refused
left_by_run z plan face b d OutOfMemory fits h refused = inr (refused, grown z plan face b fits h.0 h.1)
left_by_run z plan face b d BufferFailed fits h refused = absurd h
