-- Errors of outlines, one after the other.
use Rattle.std.proofs.Common.{◌≡◌, ◌∙◌, ap, refl, sym, ℕ, zero, suc, ◌+◌, ◌<◌, ◌≤◌, Bool, true, false, cond, List, [], ◌∷◌, length, get_or, drop, drop-cons, Option, Some, None, arith}
use Rattle.std.specs.Prelude.{not}
use Rattle.std.specs.List.{list_all}
use Rattle.std.specs.Option.{option_or}
use Rattle.std.proofs.lemmas.Bool.{ltb-false}
use Rattle.aat_read_outlines.specs.Outlines.{PointLists}
use Rattle.aat_write_truetype.specs.outlines.GlyphData.{are_short_steps, is_near, origin}
use Rattle.aat_write_truetype.specs.outlines.Tables.{error_in, first_error, has_many_contours}
use Rattle.aat_write_truetype.specs.declared.outlines.error.OutlineWriteError.{OutlineWriteError}
use Rattle.aat_write_truetype.specs.declared.outlines.error.OutlineWriteError.TheVariants.{TooManyContours, FarPoint, FarStep}

-- where no outline has an error, none of them does
none_of : (o p : Option OutlineWriteError) → option_or o p ≡ None → (o ≡ None) × (p ≡ None)
none_of None p is = (refl, is)
none_of (Some error) p is = cc

none_from :
    (index : ℕ) (outlines : List PointLists) (k : ℕ) (d : PointLists)
    → first_error index outlines ≡ None
    → k < length outlines
    → error_in (index + k) (get_or outlines k d) ≡ None
none_from index [] k d none below = absurd (omega arith)
none_from index (outline ∷ outlines) zero d none below =
    let same : index + 0 ≡ index = omega arith in
    ap (λ i. error_in i outline) same ∙ (none_of (error_in index outline) (first_error (index + 1) outlines) none).0
none_from index (outline ∷ outlines) (suc k) d none below =
    let same : index + suc k ≡ index + 1 + k = omega arith in
    ap (λ i. error_in i (get_or outlines k d)) same
    ∙ none_from (index + 1) outlines k d (none_of (error_in index outline) (first_error (index + 1) outlines) none).1 (omega arith)

passes :
    {X : Type 0} (many far wide : Bool) (a b c : X)
    → ◌≡◌ {A = Option X} (cond many (Some a) (cond (not far) (Some b) (cond (not wide) (Some c) None))) None
    → (many ≡ false) × (far ≡ true) × (wide ≡ true)
passes true far wide a b c is = cc
passes false false wide a b c is = cc
passes false true false a b c is = cc
passes false true true a b c is = (refl, refl, refl)

-- what holds of an outline without errors
pub record IsFine (outline : PointLists) : Type 0 where
  pub contours : length outline.ends ≤ 32767
  pub near : list_all is_near outline.points ≡ true
  pub steps : are_short_steps origin outline.points ≡ true

pub each_fine :
    (outlines : List PointLists) (k : ℕ) (outline : PointLists)
    → first_error 0 outlines ≡ None
    → k < length outlines
    → outline ≡ get_or outlines k outline
    → IsFine outline
each_fine outlines k outline none below is =
    let here = none_from 0 outlines k outline none below in
    let there : error_in (0 + k) outline ≡ None = ap (error_in (0 + k)) is ∙ here in
    let parts = passes (has_many_contours outline) (list_all is_near outline.points) (are_short_steps origin outline.points) (TooManyContours (0 + k)) (FarPoint (0 + k)) (FarStep (0 + k)) there in
    record { contours = ltb-false 32767 (length outline.ends) parts.0; near = parts.1; steps = parts.2 }

-- the error of an outline, or that of those behind it
pub error_at :
    (outlines : List PointLists) (k : ℕ) (outline : PointLists)
    → k < length outlines
    → outline ≡ get_or outlines k outline
    → first_error k (drop k outlines) ≡ option_or (error_in k outline) (first_error (k + 1) (drop (k + 1) outlines))
error_at outlines k outline below is =
    let place : suc k ≡ k + 1 = omega arith in
    ap (first_error k) (drop-cons outlines k outline below ∙ ap (λ o. o ∷ drop (suc k) outlines) (sym is))
    ∙ ap (λ n. option_or (error_in k outline) (first_error (k + 1) (drop n outlines))) place
