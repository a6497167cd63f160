-- What is asked of a font that is held.
use Rattle.std.specs.Prelude.{◌≡◌, ◌⊎◌, ℕ, Bool, false, List, Option, None, Some, Result, Ok, Err, IsOk, IsErr, slice_get, if◌then◌else◌}
use Rattle.aat_bytes.specs.declared.error.Fault.{Fault}
use Rattle.aat_face.specs.Faces.{FaceValue, face_of, font_value, glyph_of_character}
use Rattle.aat_font.specs.declared.face.hb_font_t.{hb_font_t}
use Rattle.aat_read_sfnt.specs.Directory.{Directory}
use Rattle.aat_lookup.specs.declared.glyph_id.GlyphId.{GlyphId}
use Rattle.aat_shaper.specs.Named.{has_feature}
use Rattle.aat_records.specs.Decoded.{is_character}
use Rattle.aat_records.specs.Records.{fault_record}
use Rattle.aat_records.specs.declared.failure.Failure.{Failure}
use Rattle.aat_records.specs.declared.failure.Failure.TheVariants.{NoFont, OutOfMemory, BadFont, BadText, TextTooLong, AlternateTooLarge, LineTooLong, BadFeature, BadOption, NotThere}
use Rattle.aat_records.specs.declared.records.FaultRecord.{FaultRecord}
use Rattle.aat_records.specs.declared.held.Held.{Held}

-- what a query finds in a font that is held, and what it answers where there is none
abbrev pub asked : {X : Type 0} → X → (FaceValue → X) → Option Held → X
asked none ask None = none
asked none ask (Some held) = ask held.face

-- the number of a glyph, 0 where there is none
abbrev pub number_or_zero : Option GlyphId → ℕ
number_or_zero None = 0
number_or_zero (Some glyph) = glyph.0

-- the number of the glyph of a character, 0 where there is none, and of what is no character
abbrev pub glyph_in : ℕ → FaceValue → ℕ
glyph_in character face = if is_character character then number_or_zero (glyph_of_character face character) else 0

-- `has` says whether the font of a face has a feature, as `has_feature` of the shaper does
pub record TellsFeature (face : FaceValue) (tag : ℕ) (has : Bool) : Type 0 where
  pub font : hb_font_t
  pub of_face : font_value font ≡ face.font
  pub told : has ≡ has_feature font (record { 0 = tag })

-- the same of what is held; without a font there is no feature
abbrev pub TellsFeatureOf : Option Held → ℕ → Bool → Type 0
TellsFeatureOf None tag has = has ≡ false
TellsFeatureOf (Some held) tag has = TellsFeature held.face tag has

-- a fault as C is told of it, where there is one
abbrev pub told_fault : Option Fault → Result FaultRecord Failure
told_fault None = Err NotThere
told_fault (Some fault) = Ok (fault_record fault)

-- the fault of a file's directory, where it has one
abbrev pub directory_fault : Result Directory Fault → Result FaultRecord Failure
directory_fault (Ok directory) = Err NotThere
directory_fault (Err fault) = Ok (fault_record fault)

-- the fault with a number of a font that is held
abbrev pub fault_told : ℕ → Option Held → Result FaultRecord Failure
fault_told number = asked (Err NoFont) (λ face. told_fault (slice_get face.faults number))

-- what is held is the font of a file
abbrev pub HoldsFile : List ℕ → ℕ → Option Held → Type 0
HoldsFile bytes index None = ⊥
HoldsFile bytes index (Some held) = face_of bytes index ≡ Ok held.face

-- why a file is not held: its directory has a fault, or it has none and memory is wanting
abbrev pub RefusesFile : Result FaceValue Fault → Failure → Type 0
RefusesFile read BadFont = IsErr read
RefusesFile read OutOfMemory = IsOk read
RefusesFile read NoFont = ⊥
RefusesFile read BadText = ⊥
RefusesFile read TextTooLong = ⊥
RefusesFile read AlternateTooLarge = ⊥
RefusesFile read LineTooLong = ⊥
RefusesFile read BadFeature = ⊥
RefusesFile read BadOption = ⊥
RefusesFile read NotThere = ⊥

-- how reading a file ends: as 3 where its directory has a fault, and else as 0, or as 2 where memory is wanting
abbrev pub EndsReading : Result FaceValue Fault → ℕ → Type 0
EndsReading (Ok face) number = (number ≡ 0) ⊎ (number ≡ 2)
EndsReading (Err fault) number = number ≡ 3
