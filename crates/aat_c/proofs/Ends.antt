-- How calls end.
use Rattle.std.proofs.Common.{◌≡◌, ◌≢◌, ◌∙◌, ℕ, List, Option, None, Some, Result, Ok, Err, IfErr, IfOk, arith, refl, subst, sym}
use Rattle.aat_face.specs.Faces.{FaceValue}
use Rattle.aat_font.specs.declared.plan.Feature.{Feature}
use Rattle.aat_text.specs.declared.unit.ClusterUnit.{ClusterUnit}
use Rattle.aat_typesetter.specs.Typeset.{TypesetterValue}
use Rattle.aat_typesetter.specs.declared.error.TypesetError.{TypesetError}
use Rattle.aat_typesetter.specs.declared.options.TextOptions.{TextOptions}
use Rattle.aat_records.specs.Failures.{count_of_outcome, number_of_failure, number_of_outcome}
use Rattle.aat_records.specs.declared.failure.Failure.{Failure}
use Rattle.aat_records.specs.declared.failure.Failure.TheVariants.{NoFont, OutOfMemory, BadFont, BadText, TextTooLong, AlternateTooLarge, LineTooLong, BadFeature, BadOption, NotThere}
use Rattle.aat_records.specs.declared.records.OptionsRecord.{OptionsRecord}
use Rattle.aat_records.specs.Refused.{IsOfFailure, WhyNotShaped, WhyRefused}
use Rattle.aat_records.specs.declared.held.Held.{Held}

module _ (refuses : TypesetterValue → TextOptions → TypesetError → Type 0) (face : FaceValue) (told : OptionsRecord)
    (unit : ClusterUnit) (features : List Feature) where
  pub ends_with_font : {X : Type 0} (bad : Type 0) (outcome : Result X Failure)
      → IfErr outcome (WhyNotShaped bad refuses face told unit features) → number_of_outcome outcome ≢ 1
  ends_with_font bad (Ok answer) given = λ h. omega arith
  ends_with_font bad (Err NoFont) given = absurd given
  ends_with_font bad (Err OutOfMemory) given = λ h. omega arith
  ends_with_font bad (Err BadFont) given = absurd given
  ends_with_font bad (Err BadText) given = λ h. omega arith
  ends_with_font bad (Err TextTooLong) given = λ h. omega arith
  ends_with_font bad (Err AlternateTooLarge) given = λ h. omega arith
  ends_with_font bad (Err LineTooLong) given = λ h. omega arith
  ends_with_font bad (Err BadFeature) given = absurd given
  ends_with_font bad (Err BadOption) given = λ h. omega arith
  ends_with_font bad (Err NotThere) given = absurd given

-- no failure has the number of an answer
no_zero : (failure : Failure) → number_of_failure failure ≢ 0
no_zero NoFont = λ h. omega arith
no_zero OutOfMemory = λ h. omega arith
no_zero BadFont = λ h. omega arith
no_zero BadText = λ h. omega arith
no_zero TextTooLong = λ h. omega arith
no_zero AlternateTooLarge = λ h. omega arith
no_zero LineTooLong = λ h. omega arith
no_zero BadFeature = λ h. omega arith
no_zero BadOption = λ h. omega arith
no_zero NotThere = λ h. omega arith

-- a call that is refused tells why
pub told_why : {X : Type 0} (why : Failure → Type 0) (outcome : Result X Failure) → IfErr outcome why
    → number_of_outcome outcome ≢ 0 → IsOfFailure why (number_of_outcome outcome)
told_why why (Ok answer) given refused = absurd (refused refl)
told_why why (Err error) given refused = record { failure = error; numbered = refl; reason = given }

-- the same of the font of a handle
pub refused_by : {X : Type 0} (why : FaceValue → Failure → Type 0) (outcome : Result X Failure)
    (before : Option Held) (held : Held) (number : ℕ) → before ≡ Some held → number ≡ number_of_outcome outcome
    → IfErr outcome (why held.face) → number ≢ 0 → IsOfFailure (WhyRefused before why) number
refused_by why outcome before held number is numbered given refused =
    let told : IsOfFailure (why held.face) (number_of_outcome outcome) =
    told_why (why held.face) outcome given (λ h. refused (numbered ∙ h))
    in
    subst (λ (n : ℕ). IsOfFailure (WhyRefused before why) n) (sym numbered)
    (subst (λ (o : Option Held). IsOfFailure (WhyRefused o why) (number_of_outcome outcome)) (sym is) told)

-- a handle without a font is why a call is refused as 1
pub without_font : (why : FaceValue → Failure → Type 0) (before : Option Held) (number : ℕ) → before ≡ None → number ≡ 1
    → number ≢ 0 → IsOfFailure (WhyRefused before why) number
without_font why before number is numbered refused =
    subst (λ (o : Option Held). IsOfFailure (WhyRefused o why) number) (sym is)
    (record { failure = NoFont; numbered = numbered; reason = refl })

-- a call that answers puts what is given
pub answered_by : (P : Option Held → ℕ → Type 0) (outcome : Result ℕ Failure) (before : Option Held) (held : Held)
    (number count : ℕ) → before ≡ Some held → number ≡ number_of_outcome outcome → count ≡ count_of_outcome outcome
    → IfOk outcome (P (Some held)) → number ≡ 0 → P before count
answered_by P (Ok answer) before held number count is numbered counted given answered =
    subst (λ (o : Option Held). P o count) (sym is) (subst (P (Some held)) (sym counted) given)
answered_by P (Err failure) before held number count is numbered counted given answered =
    absurd (no_zero failure (sym numbered ∙ answered))
