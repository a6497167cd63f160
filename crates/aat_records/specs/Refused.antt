-- Why calls are refused.
use Rattle.std.specs.Prelude.{◌≡◌, ◌≤◌, ◌^◌, ◌⊎◌, ℕ, true, List, Option, None, Some, length}
use Rattle.aat_face.specs.Faces.{FaceValue}
use Rattle.aat_face.specs.English.{Text}
use Rattle.aat_font.specs.declared.plan.Feature.{Feature}
use Rattle.aat_shaped_text.specs.declared.text.TextGlyph.{TextGlyph}
use Rattle.aat_text.specs.declared.unit.ClusterUnit.{ClusterUnit}
use Rattle.aat_typesetter.specs.Typeset.{RefusesSetting, TypesetterValue, setting, setting_for_lines, setting_of_glyphs}
use Rattle.aat_typesetter.specs.TypesetErrors.{RefusesTypesetting}
use Rattle.aat_typesetter.specs.TypesetLines.{RefusesParts}
use Rattle.aat_typesetter.specs.declared.error.TypesetError.{TypesetError}
use Rattle.aat_typesetter.specs.declared.options.TextOptions.{TextOptions}
use Rattle.aat_records.specs.Failures.{failure_of_typeset, number_of_failure}
use Rattle.aat_records.specs.Options.{has_bad_option}
use Rattle.aat_records.specs.declared.failure.Failure.{Failure}
use Rattle.aat_records.specs.declared.failure.Failure.TheVariants.{NoFont, OutOfMemory, BadText, TextTooLong, AlternateTooLarge, LineTooLong, BadOption}
use Rattle.aat_records.specs.declared.records.OptionsRecord.{OptionsRecord}
use Rattle.aat_records.specs.Shaped.{IsSetUp}
use Rattle.aat_records.specs.declared.held.Held.{Held}

-- why a typesetter refuses a text in one line, glyphs in one line, and a text in lines
unfoldable pub refuses_text : List ℕ → TypesetterValue → TextOptions → TypesetError → Type 0
refuses_text text setter options =
    RefusesTypesetting (2 ^ 32 ≤ length text) (RefusesSetting (setting setter options text))

unfoldable pub refuses_glyphs : List TextGlyph → TypesetterValue → TextOptions → TypesetError → Type 0
refuses_glyphs text setter options = RefusesTypesetting ⊥ (RefusesSetting (setting_of_glyphs setter options text))

unfoldable pub refuses_lines : List ℕ → TypesetterValue → TextOptions → TypesetError → Type 0
refuses_lines text setter options =
    RefusesTypesetting (2 ^ 32 ≤ length text) (RefusesParts (setting_for_lines setter options text))

-- it is refused for an error that is this failure
pub record RefusesAs (refuses : TypesetError → Type 0) (failure : Failure) : Type 0 where
  pub error : TypesetError
  pub why : refuses error
  pub known : failure ≡ failure_of_typeset error

-- a typesetter of the face refuses it
pub record IsRefused (refuses : TypesetterValue → TextOptions → TypesetError → Type 0) (face : FaceValue)
    (told : OptionsRecord) (unit : ClusterUnit) (features : List Feature) (failure : Failure) : Type 0 where
  pub setter : TypesetterValue
  pub options : TextOptions
  pub set_up : IsSetUp face told unit features setter options
  pub refused : RefusesAs (refuses setter options) failure

-- why a face does not shape a text: it is none of its encoding (`bad`), a number of the options stands for nothing,
-- memory is wanting, or a typesetter refuses it
abbrev pub WhyNotShaped : Type 0 → (TypesetterValue → TextOptions → TypesetError → Type 0) → FaceValue
    → OptionsRecord → ClusterUnit → List Feature → Failure → Type 0
WhyNotShaped bad refuses face told unit features BadText = bad
WhyNotShaped bad refuses face told unit features BadOption = has_bad_option told ≡ true
WhyNotShaped bad refuses face told unit features OutOfMemory = Unit {0}
WhyNotShaped bad refuses face told unit features TextTooLong = IsRefused refuses face told unit features TextTooLong
WhyNotShaped bad refuses face told unit features AlternateTooLarge =
    IsRefused refuses face told unit features AlternateTooLarge
WhyNotShaped bad refuses face told unit features LineTooLong = IsRefused refuses face told unit features LineTooLong
WhyNotShaped bad refuses face told unit features _ = ⊥

-- why what is held does not: nothing is held, or it is its face that does not
abbrev pub WhyRefused : Option Held → (FaceValue → Failure → Type 0) → Failure → Type 0
WhyRefused None why failure = failure ≡ NoFont
WhyRefused (Some held) why failure = why held.face failure

-- a number is that of a failure for which there is a reason
pub record IsOfFailure (why : Failure → Type 0) (number : ℕ) : Type 0 where
  pub failure : Failure
  pub numbered : number ≡ number_of_failure failure
  pub reason : why failure

-- a call with a font ends with a number, or memory is wanting
abbrev pub IsOrNoMemory : ℕ → ℕ → Type 0
IsOrNoMemory number result = (result ≡ number) ⊎ (result ≡ 2)

-- how a call for a name ends: without a font as 1, without such a name as 10, and else as 0 or for want of memory
abbrev pub EndsName : Option Held → Option Text → ℕ → Type 0
EndsName None name number = number ≡ 1
EndsName (Some held) None number = number ≡ 10
EndsName (Some held) (Some name) number = IsOrNoMemory 0 number
