-- The names of a font's features as a total function. Apple's TrueType Reference Manual, "The 'feat' table".
use Rattle.std.specs.Prelude.{ℕ, List, Option}
use Rattle.aat_lookup.specs.Keys.{at_key}
use Rattle.aat_lookup.specs.declared.feat.FeatureName.{FeatureName}

-- a name's feature type
abbrev pub kind_of : FeatureName → ℕ
kind_of n = n.kind

-- the name of a feature type, if there is one
abbrev pub name_of : List FeatureName → ℕ → Option FeatureName
name_of names kind = at_key kind_of names kind
