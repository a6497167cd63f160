-- A feature name table that is written is read again.
use Rattle.std.specs.Prelude.{◌≡◌, ℕ, ◌<◌, List, All, Ok}
use Rattle.aat_lookup.specs.declared.feat.FeatureName.{FeatureName}
use Rattle.aat_read_lookup.specs.Features.{feat_of}
use Rattle.aat_write_machine.specs.Features.{feat_written}

-- a type and a number of settings have 16 bits each
abbrev pub IsName : FeatureName → Type 0
IsName name = (name.kind < 65536) × (name.settings < 65536)

-- the reader gives the names that were written
abbrev pub WrittenFeatsAreRead : Type 0
WrittenFeatsAreRead =
    (names : List FeatureName) (bytes : List ℕ)
    → All IsName names
    → feat_written names ≡ Ok bytes
    → feat_of bytes ≡ Ok names
