-- The flags of a chain. Apple's TrueType Reference Manual, "The 'morx' table", chain header and feature subtables.
use Rattle.std.specs.Prelude.{ℕ, ◌==◌, ◌&&◌, ◌||◌, Bool, false, List, fold, bit_and, bit_or, if◌then◌else◌}
use Rattle.aat_machine_tables.specs.declared.morx.ChainFeature.{ChainFeature}

-- nothing is requested
abbrev pub nothing_requested : ℕ → ℕ → Bool
nothing_requested kind setting = false

-- a chain feature is asked for, or it is the older small capitals (3, 3) and the newer ones (37, 1) are
abbrev pub is_asked : (ℕ → ℕ → Bool) → ChainFeature → Bool
is_asked requested f = requested f.kind f.setting || ((f.kind == 3) && (f.setting == 3) && requested 37 1)

-- flags after a chain feature
abbrev pub after_feature : (ℕ → ℕ → Bool) → ℕ → ChainFeature → ℕ
after_feature requested flags f =
    if is_asked requested f then bit_or (bit_and flags f.disable_flags) f.enable_flags else flags

-- the flags of a chain: the default ones, changed by its features in their order
abbrev pub flags_by : (ℕ → ℕ → Bool) → ℕ → List ChainFeature → ℕ
flags_by requested default_flags features = fold (after_feature requested) default_flags features
