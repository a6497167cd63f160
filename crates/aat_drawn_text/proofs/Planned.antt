-- What the layer does by a plan of features.
use Rattle.std.proofs.Common.{◌≡◌, ◌∙◌, ap, sym, inr, ℕ, ◌≤◌, Bool, List, length, None, if◌then◌else◌, arith}
use Rattle.std.specs.Prelude.{is_some}
use Rattle.aat_buffer.specs.Buffer.{Buffer}
use Rattle.aat_font.specs.Face.{advance_of, chains_in, kern_in, kerx_in, tables_of}
use Rattle.aat_font.specs.declared.face.hb_font_t.{hb_font_t}
use Rattle.aat_font.specs.declared.plan.Feature.{Feature}
use Rattle.aat_font.specs.declared.plan.hb_ot_shape_plan_t.{hb_ot_shape_plan_t}
use Rattle.aat_glyph.specs.declared.glyph.Direction.{Direction}
use Rattle.aat_kerning.specs.Positioning.{kern_positioning, kerx_positioning}
use Rattle.aat_kerning.specs.Zeroing.{zeroed}
use Rattle.aat_layout.specs.Refusals.{RefusesPlan, first_too_large}
use Rattle.aat_map.specs.Adding.{first_too_large_among}
use Rattle.aat_map.specs.Requests.{requests_of}
use Rattle.aat_map.specs.SwitchedChains.{SwitchedChain, by_requests, plan_requests, switched}
use Rattle.aat_run.specs.Driven.{IsRefusal}
use Rattle.aat_run.specs.Outcome.{Outcome}
use Rattle.aat_run.specs.declared.error.AatError.{AatError}
use Rattle.aat_run.specs.declared.error.AatError.TheVariants.{AaltValue, TooLong, OutOfMemory, BufferFailed}
use Rattle.aat_layout.specs.Shaping.{kerned_by_font, placed_by, placing, with_advances}
use Rattle.aat_shaped_text.specs.ShapedText.{RefusesText, most_text, text_buffer, text_kerning, text_substitution}
use Rattle.aat_shaped_text.specs.TextFeatures.{requests_kerning}
use Rattle.aat_shaped_text.specs.declared.text.TextGlyph.{TextGlyph}
use Rattle.aat_drawn_text.specs.TextPlan.{IsPlanOf}

-- kerning by what a plan has
abbrev pub kerning_by : hb_font_t → Bool → ℕ → Buffer → Outcome
kerning_by face requested mask b =
    if is_some (tables_of face).kerx
    then kerx_positioning requested mask (tables_of face).ankr (kerx_in (tables_of face).kerx) b
    else kern_positioning requested mask (kern_in (tables_of face).kern) b

module _ (face : hb_font_t) (features : List Feature) (plan : hb_ot_shape_plan_t) (planned : IsPlanOf features plan) where
  -- the chains, switched by what is compiled of the plan
  pub planned_chains : (lists : List SwitchedChain)
      → lists ≡ switched plan.apply_morx (plan_requests plan face) (chains_in (tables_of face).morx)
      → lists ≡ by_requests (requests_of (tables_of face).feat features) (chains_in (tables_of face).morx)
  planned_chains lists compiled =
      compiled
      ∙ (ap (λ (a : Bool). switched a (plan_requests plan face) (chains_in (tables_of face).morx)) planned.applied
      ∙ ap (λ (fs : List Feature). by_requests (requests_of (tables_of face).feat fs) (chains_in (tables_of face).morx)) planned.features)

  -- kerning
  pub planned_kerning : (b : Buffer) → kerned_by_font plan face b ≡ text_kerning face features b
  planned_kerning b =
      ap (λ (r : Bool). kerning_by face r plan.kern_mask b) planned.requested
      ∙ ap (λ (m : ℕ). kerning_by face (requests_kerning features) m b) planned.mask

  -- advances, kerning and zeroing
  pub planned_placing : (b : Buffer)
      → (placing plan face b).buffer ≡ zeroed (text_kerning face features (with_advances (advance_of face) b)).buffer
  unfolding placed_by
  planned_placing b = ap (λ (o : Outcome). zeroed o.buffer) (planned_kerning (with_advances (advance_of face) b))

  -- no value is too large
  pub planned_fits : first_too_large plan face ≡ None → first_too_large_among (tables_of face).feat features ≡ None
  planned_fits none =
      ap (λ (fs : List Feature). first_too_large_among (tables_of face).feat fs) (sym planned.features) ∙ none

  -- why the plan is refused, and substitution, which leaves so many glyphs
  pub planned_refusal : (d : Direction) (text : List TextGlyph) (error : AatError)
      → length text ≤ most_text → RefusesPlan plan face error → RefusesText face d features text error
  planned_refusal d text (AaltValue value) short refused =
      (short, ap (λ (fs : List Feature). first_too_large_among (tables_of face).feat fs) (sym planned.features) ∙ refused)
  planned_refusal d text TooLong short refused = absurd refused
  planned_refusal d text OutOfMemory short refused = tt
  planned_refusal d text BufferFailed short refused = absurd refused

  pub run_refusal : (d : Direction) (text : List TextGlyph) (b left : Buffer) (error : AatError)
      → first_too_large plan face ≡ None → b ≡ text_buffer face d features text
      → length left.line ≡ length (text_substitution face features (text_buffer face d features text)).buffer.line
      → IsRefusal b left error → RefusesText face d features text error
  run_refusal d text b left (AaltValue value) fits made long refused = absurd refused
  run_refusal d text b left TooLong fits made long refused =
      let most = ap (λ (c : Buffer). c.max_len) made in inr (planned_fits fits, omega (arith, refused, long, most))
  run_refusal d text b left OutOfMemory fits made long refused = tt
  run_refusal d text b left BufferFailed fits made long refused = absurd refused
