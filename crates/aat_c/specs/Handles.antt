-- What handles hold.
use Rattle.std.specs.Prelude.{Option, Result, Ok, Err, option_map}
use Rattle.aat_face.specs.Faces.{FaceValue}
use Rattle.aat_font.specs.declared.plan.Feature.{Feature}
use Rattle.aat_layout.specs.declared.features.error.FeatureError.{FeatureError}
use Rattle.aat_records.specs.Records.{feature_record}
use Rattle.aat_records.specs.declared.failure.Failure.{Failure}
use Rattle.aat_records.specs.declared.failure.Failure.TheVariants.{BadFeature}
use Rattle.aat_records.specs.declared.records.FeatureRecord.{FeatureRecord}
use Rattle.aat_c.specs.declared.handle.Handle.{Handle}
use Rattle.aat_records.specs.declared.held.Held.{Held}

-- the font of a handle, if it holds one
abbrev pub held_in : Handle → Option Held
held_in handle = handle.slot.value

-- the face of the font of a handle, if it holds one
abbrev pub face_in : Handle → Option FaceValue
face_in handle = option_map (λ held. held.face) handle.slot.value

-- a feature as C is told of it, where a text is one
abbrev pub feature_told : Result Feature FeatureError → Result FeatureRecord Failure
feature_told (Ok feature) = Ok (feature_record feature)
feature_told (Err error) = Err BadFeature

-- a place after a call: what is told, else what it had
abbrev pub told_or : {X : Type 0} → X → Result X Failure → X
told_or before (Ok told) = told
told_or before (Err failure) = before
