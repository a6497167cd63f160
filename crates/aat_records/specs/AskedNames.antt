-- Names that are asked of a font that is held.
use Rattle.std.specs.Prelude.{ℕ, List, Option, None, Some}
use Rattle.aat_face.specs.English.{Text}
use Rattle.aat_face.specs.Faces.{FaceValue, feature_text, name_of, setting_text}
use Rattle.aat_records.specs.Names.{by_short, name_in_utf8}
use Rattle.aat_records.specs.Records.{IsPut}
use Rattle.aat_records.specs.Asked.{asked}
use Rattle.aat_records.specs.declared.held.Held.{Held}

-- the text of a name, of a feature type and of a setting, which have numbers of 16 bits
abbrev pub name_told : ℕ → Option Held → Option Text
name_told name = asked None (λ face. by_short name (name_of face))

abbrev pub feature_name_told : ℕ → Option Held → Option Text
feature_name_told kind = asked None (λ face. by_short kind (feature_text face))

abbrev pub setting_by_shorts : FaceValue → ℕ → ℕ → Option Text
setting_by_shorts face kind setting = by_short kind (λ k. by_short setting (setting_text face k))

abbrev pub setting_name_told : ℕ → ℕ → Option Held → Option Text
setting_name_told kind setting = asked None (λ face. setting_by_shorts face kind setting)

-- room has as much of the UTF-8 of a name as it has places, and the count is that of all its bytes
abbrev pub IsNamePut : Option Text → List ℕ → List ℕ → ℕ → Type 0
IsNamePut None room put count = ⊥
IsNamePut (Some name) room put count = IsPut (name_in_utf8 name) room put count
