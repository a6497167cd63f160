-- Shaping, from what its parts leave, and why it is refused.
use Rattle.std.proofs.Common.{◌≡◌, ◌≢◌, ◌∙◌, ap, sym, refl, ℕ, ◌+◌, List, Option, Some, None, option_map, Bool, true, false, true≢false, inl, inr}
use Rattle.std.specs.Bool.{OnTrue}
use Rattle.std.specs.Prelude.{IsSome, is_some}
use Rattle.aat_glyph.specs.declared.glyph.hb_glyph_info_t.{hb_glyph_info_t}
use Rattle.aat_glyph.specs.declared.glyph.GlyphPosition.{GlyphPosition}
use Rattle.aat_font.specs.declared.face.hb_font_t.{hb_font_t}
use Rattle.aat_font.specs.declared.plan.hb_ot_shape_plan_t.{hb_ot_shape_plan_t}
use Rattle.aat_buffer.specs.Buffer.{Buffer, failed, with_scratch_flags, without_positions}
use Rattle.aat_buffer.specs.Removal.{is_deleted, removed}
use Rattle.aat_kerning.specs.Zeroing.{zeroed, zeroed_positions}
use Rattle.aat_kerning_machines.specs.KerningLaws.{IsKernedFrom}
use Rattle.aat_kerning_machines.specs.Positions.{IsPlaced}
use Rattle.aat_layout.specs.Refusals.{first_too_large}
use Rattle.aat_run.specs.Laws.{SameSettings}
use Rattle.aat_run.specs.Outcome.{Outcome, then_run}
use Rattle.aat_run.specs.declared.error.AatError.{AatError}
use Rattle.aat_run.specs.declared.error.AatError.TheVariants.{AaltValue, TooLong, OutOfMemory, BufferFailed}
use Rattle.aat_layout.proofs.ShapedLines.{kept_by_removal, stand_by_removal}
use Rattle.aat_layout.specs.RefusedShaping.{IsSubstitutionRefused, RefusesShaping}
use Rattle.aat_layout.specs.Shaping.{placed_by, shaped_by, shaped_with_deleted_by, substituted_by_plan, with_advances}

-- what the parts leave, one behind the other
pub placed_so : (advance : ℕ → ℕ) (kern : Buffer → Outcome) (c d e f : Buffer) (n : ℕ)
    → d ≡ with_advances advance c → record { buffer = e; turns = n } ≡ kern d → f ≡ zeroed e
    → record { buffer = f; turns = n } ≡ placed_by advance kern c
unfolding placed_by
placed_so advance kern c d e f n advanced kerned took =
    ap (λ (x : Buffer). record { buffer = x; turns = n }) took
    ∙ ap (λ (k : Outcome). record { buffer = zeroed k.buffer; turns = k.turns }) (kerned ∙ ap kern advanced)

pub shaped_so : (substitute : Buffer → Outcome) (advance : ℕ → ℕ) (kern : Buffer → Outcome) (b c f : Buffer) (m n : ℕ)
    → record { buffer = c; turns = m } ≡ substitute b → record { buffer = f; turns = n } ≡ placed_by advance kern c
    → record { buffer = f; turns = m + n } ≡ shaped_with_deleted_by substitute advance kern b
unfolding shaped_with_deleted_by
shaped_so substitute advance kern b c f m n substituted placed =
    ap (λ (k : Outcome). record { buffer = k.buffer; turns = m + k.turns }) placed
    ∙ ap (λ (o : Outcome). then_run o (placed_by advance kern)) substituted

-- and then the deleted glyphs go
pub removed_so : (substitute : Buffer → Outcome) (advance : ℕ → ℕ) (kern : Buffer → Outcome) (b f g : Buffer) (n : ℕ)
    → record { buffer = f; turns = n } ≡ shaped_with_deleted_by substitute advance kern b → g ≡ removed is_deleted f
    → record { buffer = g; turns = n } ≡ shaped_by substitute advance kern b
unfolding shaped_by
removed_so substitute advance kern b f g n shaped gone =
    ap (λ (x : Buffer). record { buffer = x; turns = n }) gone
    ∙ ap (λ (o : Outcome). record { buffer = removed is_deleted o.buffer; turns = o.turns }) shaped

-- substitution's own refusal
pub refused_in_substitution : (plan : hb_ot_shape_plan_t) (face : hb_font_t) (old new : Buffer) (error : AatError) → error ≢ BufferFailed
    → IsSubstitutionRefused plan face old new error → RefusesShaping plan face old new error
refused_in_substitution plan face old new (AaltValue value) other refused = refused
refused_in_substitution plan face old new TooLong other refused = refused
refused_in_substitution plan face old new OutOfMemory other refused = inl refused
refused_in_substitution plan face old new BufferFailed other refused = absurd (other refl)

-- positions got no memory
pub refused_at_positions : (plan : hb_ot_shape_plan_t) (face : hb_font_t) (b c d : Buffer) (m : ℕ) (error : AatError)
    → b.successful ≡ true → (plan.apply_morx ≡ true → first_too_large plan face ≡ None)
    → record { buffer = c; turns = m } ≡ substituted_by_plan plan face b → d ≡ failed (without_positions c) → error ≡ OutOfMemory
    → RefusesShaping plan face b d error
refused_at_positions plan face b c d m error good fits substituted left is =
    rw is (inr (record {
      successful = good;
      fits = fits;
      left = left ∙ ap (λ (o : Outcome). failed (without_positions o.buffer)) substituted;
    }))

-- the plain fields stay but for the scratch flags
module _ (advance : ℕ → ℕ) (b c d e f : Buffer) (substituted : SameSettings b c) (advanced : d ≡ with_advances advance c)
    (kerned : IsKernedFrom d e) (took : f ≡ zeroed e) where
  same : {A : Type 0} (h : Buffer → A)
      → ((x : Buffer) (line : List hb_glyph_info_t) (p : ℕ) (qs : Option (List GlyphPosition)) → h (record x { line = line; cursor = p; positions = qs }) ≡ h x)
      → h f ≡ h e
  same h keeps = ap h took ∙ keeps e e.line e.cursor (zeroed e).positions

  pub settings_of_shaped : SameSettings (with_scratch_flags b f.scratch_flags) f
  settings_of_shaped =
      let k = kerned.text.settings in
      record {
        direction = same (λ x. x.direction) (λ x line p qs. refl) ∙ (k.direction ∙ (ap (λ (x : Buffer). x.direction) advanced ∙ substituted.direction));
        cluster_level = same (λ x. x.cluster_level) (λ x line p qs. refl) ∙ (k.cluster_level ∙ (ap (λ (x : Buffer). x.cluster_level) advanced ∙ substituted.cluster_level));
        flags = same (λ x. x.flags) (λ x line p qs. refl) ∙ (k.flags ∙ (ap (λ (x : Buffer). x.flags) advanced ∙ substituted.flags));
        scratch_flags = refl;
        max_len = same (λ x. x.max_len) (λ x line p qs. refl) ∙ (k.max_len ∙ (ap (λ (x : Buffer). x.max_len) advanced ∙ substituted.max_len));
        successful = same (λ x. x.successful) (λ x line p qs. refl) ∙ (k.successful ∙ (ap (λ (x : Buffer). x.successful) advanced ∙ substituted.successful));
      }

-- and they stay where glyphs are removed
module _ (b f g : Buffer) (shaped : SameSettings (with_scratch_flags b f.scratch_flags) f) (gone : g ≡ removed is_deleted f) where
  kept : {A : Type 0} (h : Buffer → A)
      → ((x : Buffer) (line : List hb_glyph_info_t) (p : ℕ) (qs : Option (List GlyphPosition)) → h (record x { line = line; cursor = p; positions = qs }) ≡ h x)
      → h g ≡ h f
  kept h keeps = ap h gone ∙ kept_by_removal h keeps is_deleted f

  pub settings_of_removed : SameSettings (with_scratch_flags b g.scratch_flags) g
  settings_of_removed = record {
    direction = kept (λ x. x.direction) (λ x line p qs. refl) ∙ shaped.direction;
    cluster_level = kept (λ x. x.cluster_level) (λ x line p qs. refl) ∙ shaped.cluster_level;
    flags = kept (λ x. x.flags) (λ x line p qs. refl) ∙ shaped.flags;
    scratch_flags = refl;
    max_len = kept (λ x. x.max_len) (λ x line p qs. refl) ∙ shaped.max_len;
    successful = kept (λ x. x.successful) (λ x line p qs. refl) ∙ shaped.successful;
  }

-- positions that stand, as many as the glyphs
zeroed_stand : (e : Buffer) → is_some (zeroed e).positions ≡ is_some e.positions
zeroed_stand e = by_list e.positions
  where
    by_list : (o : Option (List GlyphPosition)) → is_some (option_map (zeroed_positions e.line) o) ≡ is_some o
    by_list None = refl
    by_list (Some qs) = refl

pub standing_of_shaped : (e f : Buffer) → IsSome e.positions → f ≡ zeroed e → IsSome f.positions
standing_of_shaped e f some took = ap (λ (x : Buffer). is_some x.positions) took ∙ (zeroed_stand e ∙ some)

pub standing_of_removed : (f g : Buffer) → IsSome f.positions → g ≡ removed is_deleted f → IsSome g.positions
standing_of_removed f g some gone = ap (λ (x : Buffer). is_some x.positions) gone ∙ (stand_by_removal is_deleted f ∙ some)

pub placed_by_test : (b : Buffer) (asked : Bool) → asked ≡ is_some b.positions → OnTrue asked (IsPlaced b) → IsSome b.positions → IsPlaced b
placed_by_test b true e placed some = placed
placed_by_test b false e placed some = absurd (true≢false (sym (e ∙ some)))

-- settings that stay behind settings that stay
pub settings_behind : (b c f : Buffer) → SameSettings b c → SameSettings (with_scratch_flags c f.scratch_flags) f → SameSettings (with_scratch_flags b f.scratch_flags) f
settings_behind b c f first second = record {
  direction = second.direction ∙ first.direction;
  cluster_level = second.cluster_level ∙ first.cluster_level;
  flags = second.flags ∙ first.flags;
  scratch_flags = refl;
  max_len = second.max_len ∙ first.max_len;
  successful = second.successful ∙ first.successful;
}
