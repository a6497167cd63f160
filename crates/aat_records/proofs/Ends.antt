-- How texts are refused.
use Rattle.std.proofs.Common.{◌≡◌, ◌≢◌, Result, Ok, Err, IfErr, arith, inl, inr, refl, subst, sym, List}
use Rattle.aat_run.specs.declared.error.AatError.TheVariants as shaper
use Rattle.aat_face.specs.Faces.{FaceValue}
use Rattle.aat_font.specs.declared.plan.Feature.{Feature}
use Rattle.aat_text.specs.declared.unit.ClusterUnit.{ClusterUnit}
use Rattle.aat_typesetter.specs.Typeset.{TypesetterValue}
use Rattle.aat_typesetter.specs.declared.error.TypesetError.{TypesetError}
use Rattle.aat_typesetter.specs.declared.error.TypesetError.TheVariants as typesetter
use Rattle.aat_typesetter.specs.declared.options.TextOptions.{TextOptions}
use Rattle.aat_records.specs.Decoded.{RefusesText}
use Rattle.aat_records.specs.Failures.{failure_of_typeset, number_of_failure, number_of_outcome}
use Rattle.aat_records.specs.declared.failure.Failure.{Failure}
use Rattle.aat_records.specs.declared.failure.Failure.TheVariants.{NoFont, OutOfMemory, BadFont, BadText, TextTooLong, AlternateTooLarge, LineTooLong, BadFeature, BadOption, NotThere}
use Rattle.aat_records.specs.declared.records.OptionsRecord.{OptionsRecord}
use Rattle.aat_records.specs.Refused.{IsOrNoMemory, RefusesAs, WhyNotShaped}
use Rattle.aat_records.specs.Shaped.{IsSetUp}

module _ (refuses : TypesetterValue → TextOptions → TypesetError → Type 0) (face : FaceValue) (told : OptionsRecord)
    (unit : ClusterUnit) (features : List Feature) where
  -- what is refused for another reason is not refused for its encoding
  pub is_not_bad_text : (failure : Failure) → WhyNotShaped ⊥ refuses face told unit features failure
      → number_of_failure failure ≢ 4
  is_not_bad_text NoFont why = absurd why
  is_not_bad_text OutOfMemory why = λ h. omega arith
  is_not_bad_text BadFont why = absurd why
  is_not_bad_text BadText why = absurd why
  is_not_bad_text TextTooLong why = λ h. omega arith
  is_not_bad_text AlternateTooLarge why = λ h. omega arith
  is_not_bad_text LineTooLong why = λ h. omega arith
  is_not_bad_text BadFeature why = absurd why
  is_not_bad_text BadOption why = λ h. omega arith
  is_not_bad_text NotThere why = absurd why

  -- what is refused for another reason is refused
  pub bad_text_more : (bad : Type 0) (failure : Failure) → WhyNotShaped ⊥ refuses face told unit features failure
      → WhyNotShaped bad refuses face told unit features failure
  bad_text_more bad NoFont why = why
  bad_text_more bad OutOfMemory why = why
  bad_text_more bad BadFont why = why
  bad_text_more bad BadText why = absurd why
  bad_text_more bad TextTooLong why = why
  bad_text_more bad AlternateTooLarge why = why
  bad_text_more bad LineTooLong why = why
  bad_text_more bad BadFeature why = why
  bad_text_more bad BadOption why = why
  bad_text_more bad NotThere why = why

  -- what a typesetter refuses is refused for that
  typeset_why : (bad : Type 0) (setter : TypesetterValue) (options : TextOptions) (error : TypesetError)
      → IsSetUp face told unit features setter options → refuses setter options error
      → WhyNotShaped bad refuses face told unit features (failure_of_typeset error)
  typeset_why bad setter options typesetter.TextTooLong set_up why = record {
    setter = setter;
    options = options;
    set_up = set_up;
    refused = record { error = typesetter.TextTooLong; why = why; known = refl };
  }
  typeset_why bad setter options (typesetter.Refused (shaper.AaltValue value)) set_up why = record {
    setter = setter;
    options = options;
    set_up = set_up;
    refused = record { error = typesetter.Refused (shaper.AaltValue value); why = why; known = refl };
  }
  typeset_why bad setter options (typesetter.Refused shaper.TooLong) set_up why = record {
    setter = setter;
    options = options;
    set_up = set_up;
    refused = record { error = typesetter.Refused shaper.TooLong; why = why; known = refl };
  }
  typeset_why bad setter options (typesetter.Refused shaper.OutOfMemory) set_up why = tt
  typeset_why bad setter options (typesetter.Refused shaper.BufferFailed) set_up why = record {
    setter = setter;
    options = options;
    set_up = set_up;
    refused = record { error = typesetter.Refused shaper.BufferFailed; why = why; known = refl };
  }
  typeset_why bad setter options typesetter.OutOfMemory set_up why = tt

  -- the same of how a call ends
  pub ends_typeset : {X : Type 0} (bad : Type 0) (outcome : Result X Failure) (setter : TypesetterValue)
      (options : TextOptions) → IsSetUp face told unit features setter options
      → IfErr outcome (RefusesAs (refuses setter options))
      → IfErr outcome (WhyNotShaped bad refuses face told unit features)
  ends_typeset bad (Ok answer) setter options set_up given = tt
  ends_typeset bad (Err failure) setter options set_up given =
      subst (WhyNotShaped bad refuses face told unit features) (sym given.known)
      (typeset_why bad setter options given.error set_up given.why)

  -- how a call ends that reads its text
  pub ends_not_bad : {X : Type 0} (outcome : Result X Failure)
      → IfErr outcome (WhyNotShaped ⊥ refuses face told unit features) → number_of_outcome outcome ≢ 4
  ends_not_bad (Ok answer) given = λ h. omega arith
  ends_not_bad (Err error) given = is_not_bad_text error given

  pub ends_more : {X : Type 0} (bad : Type 0) (outcome : Result X Failure)
      → IfErr outcome (WhyNotShaped ⊥ refuses face told unit features)
      → IfErr outcome (WhyNotShaped bad refuses face told unit features)
  ends_more bad (Ok answer) given = tt
  ends_more bad (Err error) given = bad_text_more bad error given

  -- a text that is not read is refused for that
  pub text_refused : (bad : Type 0) (failure : Failure) → RefusesText bad failure
      → WhyNotShaped bad refuses face told unit features failure
  text_refused bad NoFont why = absurd why
  text_refused bad OutOfMemory why = why
  text_refused bad BadFont why = absurd why
  text_refused bad BadText why = why
  text_refused bad TextTooLong why = absurd why
  text_refused bad AlternateTooLarge why = absurd why
  text_refused bad LineTooLong why = absurd why
  text_refused bad BadFeature why = absurd why
  text_refused bad BadOption why = absurd why
  text_refused bad NotThere why = absurd why

-- a text that is not read ends as 4, or for want of memory
pub text_ends : (bad : Type 0) (failure : Failure) → RefusesText bad failure
    → IsOrNoMemory 4 (number_of_failure failure)
text_ends bad NoFont why = absurd why
text_ends bad OutOfMemory why = inr refl
text_ends bad BadFont why = absurd why
text_ends bad BadText why = inl refl
text_ends bad TextTooLong why = absurd why
text_ends bad AlternateTooLarge why = absurd why
text_ends bad LineTooLong why = absurd why
text_ends bad BadFeature why = absurd why
text_ends bad BadOption why = absurd why
text_ends bad NotThere why = absurd why

-- a text of its encoding that is not read lacks memory
pub text_lacks : (bad : Type 0) (failure : Failure) → RefusesText bad failure → ¬ bad
    → number_of_failure failure ≡ 2
text_lacks bad NoFont why good = absurd why
text_lacks bad OutOfMemory why good = refl
text_lacks bad BadFont why good = absurd why
text_lacks bad BadText why good = absurd (good why)
text_lacks bad TextTooLong why good = absurd why
text_lacks bad AlternateTooLarge why good = absurd why
text_lacks bad LineTooLong why good = absurd why
text_lacks bad BadFeature why good = absurd why
text_lacks bad BadOption why good = absurd why
text_lacks bad NotThere why good = absurd why
