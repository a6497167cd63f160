-- Where a font kerns pairs along the line, a text is kerned in parts; kerning changes little of any.
use Rattle.std.proofs.Common.{◌≡◌, ◌∙◌, sym, ap, refl, ◌&&◌, ◌||◌, Bool, true, false, not, cond, List, map, true≢false, is_some, get_or}
use Rattle.std.proofs.lemmas.List.Folds.{list_all_at}
use Rattle.aat_buffer.specs.Buffer.{Buffer}
use Rattle.aat_font.specs.Face.{kern_in, kerx_in, tables_of}
use Rattle.aat_font.specs.declared.face.hb_font_t.{hb_font_t}
use Rattle.aat_font.specs.declared.plan.Feature.{Feature}
use Rattle.aat_kerning_machines.specs.KerningLaws.{IsKernedFrom}
use Rattle.aat_run.specs.Outcome.{Outcome}
use Rattle.aat_kerning.specs.Cut.{CanBeCut, PairsAlone, PartsAreKernedApart}
use Rattle.aat_kerning.specs.KerningLawful.{KerningChangesLittle}
use Rattle.aat_kerning.specs.Pairs.{kern_skips, kerx_skips}
use Rattle.aat_kerning.specs.Positioning.{Kerning, kerning_of_kern_subtable, kern_positioning, kerning_of_kerx_subtable, kerx_positioning}
use Rattle.aat_shaped_text.specs.Breaks.{kernings_of, kerns_apart, kerns_pairs_along, skips_of}
use Rattle.aat_shaped_text.specs.TextFeatures.{requests_kerning}
use Rattle.aat_shaped_text.specs.ShapedText.{text_kerning}

module _ (face : hb_font_t) (features : List Feature) (b : Buffer) where
  abbrev by_kerx : Buffer → Outcome
  by_kerx c = kerx_positioning (requests_kerning features) 8 (tables_of face).ankr (kerx_in (tables_of face).kerx) c

  abbrev by_kern : Buffer → Outcome
  by_kern c = kern_positioning (requests_kerning features) 8 (kern_in (tables_of face).kern) c

  abbrev kerxs : List Kerning
  kerxs = map (kerning_of_kerx_subtable 8 (tables_of face).ankr) (kerx_in (tables_of face).kerx)

  abbrev kerns : List Kerning
  kerns = map (kerning_of_kern_subtable 8) (kern_in (tables_of face).kern)

  -- it can be cut
  pub text_can_be_cut : PartsAreKernedApart → CanBeCut (skips_of face) (kernings_of face) (text_kerning face features) b
  text_can_be_cut apart = by (is_some (tables_of face).kerx)
    where
      by : (t : Bool) → CanBeCut (cond t kerx_skips kern_skips) (cond t kerxs kerns) (λ c. cond t (by_kerx c) (by_kern c)) b
      by true = apart.kerx (requests_kerning features) 8 (tables_of face).ankr (kerx_in (tables_of face).kerx) b refl
      by false = apart.kern (requests_kerning features) 8 (kern_in (tables_of face).kern) b refl

  -- it changes little
  pub text_changes_little : KerningChangesLittle → IsKernedFrom b (text_kerning face features b).buffer
  text_changes_little little = by (is_some (tables_of face).kerx)
    where
      by : (t : Bool) → IsKernedFrom b (cond t (by_kerx b) (by_kern b)).buffer
      by true = little.kerx (requests_kerning features) 8 (tables_of face).ankr (kerx_in (tables_of face).kerx) b
      by false = little.kern (requests_kerning features) 8 (kern_in (tables_of face).kern) b

  -- pairs alone are for the text
  pub text_pairs_alone : kerns_apart face b.direction ≡ true → PairsAlone (kernings_of face) b
  text_pairs_alone all k d low for = by (get_or (kernings_of face) k d).is_pairs refl
    where
      by : (t : Bool) → (get_or (kernings_of face) k d).is_pairs ≡ t → t ≡ true
      by true is = refl
      by false is =
          absurd (true≢false (sym all ∙ list_all_at (kerns_pairs_along b.direction) (kernings_of face) k d low
          (ap (λ t. not t || ((get_or (kernings_of face) k d).is_pairs && not (get_or (kernings_of face) k d).has_cross_stream)) for
          ∙ ap (λ t. t && not (get_or (kernings_of face) k d).has_cross_stream) is)))
