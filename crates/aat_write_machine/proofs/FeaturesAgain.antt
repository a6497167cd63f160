-- Features that are written are read again.
use Rattle.std.proofs.Common.{◌≡◌, ℕ, zero, suc, ◌+◌, ◌*◌, ◌<◌, ◌≤◌, List, [], ◌∷◌, ◌++◌, length, get_or, All, Ok, refl, sym, ap, ◌∙◌, append_assoc, arith}
use Rattle.std.specs.List.{flat_map}
use Rattle.std.proofs.lemmas.Bool.{le-ltb}
use Rattle.std.proofs.lemmas.List.{length-append}
use Rattle.std.proofs.lemmas.List.FromFn.{fill_by_all}
use Rattle.aat_bytes.specs.Numbers.{be16, be32}
use Rattle.aat_machine_tables.specs.declared.morx.ChainFeature.{ChainFeature}
use Rattle.aat_read_extended.specs.morx.ChainFeatures.{feature_at, features_at, whole_features}
use Rattle.aat_write_machine.specs.Words.{long_bytes, word_bytes}
use Rattle.aat_write_machine.specs.facts.WordPlaces.{AreWords, length_words, word_at}
use Rattle.aat_write_machine.specs.ChainBytes.{feature_bytes}
use Rattle.aat_write_machine.specs.MachineLaws.{IsLong}
use Rattle.aat_write_machine.specs.ChainLaws.{IsFeature}
use Rattle.aat_write_machine.specs.facts.LongPlaces.{length_longs, long_at}

-- a feature, where there is none
abbrev no_feature : ChainFeature
no_feature = record { kind = 0; setting = 0; enable_flags = 0; disable_flags = 0 }

pub two_longs : (a b : ℕ) → IsLong a → IsLong b → All IsLong (a ∷ b ∷ [])
two_longs a b small smaller zero d below = small
two_longs a b small smaller (suc zero) d below = smaller
two_longs a b small smaller (suc (suc k)) d below = absurd (omega arith)

-- a feature has 12 bytes
pub feature_long : (f : ChainFeature) → length (feature_bytes f) ≡ 12
feature_long f =
    let words = f.kind ∷ f.setting ∷ [] in
    let longs = f.enable_flags ∷ f.disable_flags ∷ [] in
    omega (arith, length-append (word_bytes words) (long_bytes longs), length_words words, length_longs longs)

pub features_long : (fs : List ChainFeature) → length (flat_map feature_bytes fs) ≡ 12 * length fs
features_long [] = refl
features_long (f ∷ fs) =
    omega (arith, length-append (feature_bytes f) (flat_map feature_bytes fs), feature_long f, features_long fs)

-- a feature at the end of a front
feature_here :
    (f : ChainFeature) (front rest : List ℕ) (place : ℕ)
    → IsFeature f → length front ≡ place → feature_at (front ++ (feature_bytes f ++ rest)) place ≡ f
feature_here f front rest place small long =
    let words = f.kind ∷ f.setting ∷ [] in
    let longs = f.enable_flags ∷ f.disable_flags ∷ [] in
    let bytes : List ℕ = front ++ (feature_bytes f ++ rest) in
    let are_words : AreWords words = (small.0, (small.1, tt)) in
    let are_longs : All IsLong longs = two_longs f.enable_flags f.disable_flags small.2 small.3 in
    let first : bytes ≡ front ++ (word_bytes words ++ (long_bytes longs ++ rest)) =
    ap (λ (xs : List ℕ). front ++ xs) (append_assoc (word_bytes words) (long_bytes longs) rest) in
    let second : bytes ≡ (front ++ word_bytes words) ++ (long_bytes longs ++ rest) =
    first ∙ sym (append_assoc front (word_bytes words) (long_bytes longs ++ rest)) in
    let longer : length (front ++ word_bytes words) ≡ place + 4 =
    omega (arith, length-append front (word_bytes words), length_words words, long) in
    let kind : be16 bytes place ≡ f.kind =
    ap (λ b. be16 b place) first ∙ word_at words front (long_bytes longs ++ rest) place 0 (omega arith) are_words (omega arith) in
    let setting : be16 bytes (place + 2) ≡ f.setting =
    ap (λ b. be16 b (place + 2)) first ∙ word_at words front (long_bytes longs ++ rest) (place + 2) 1 (omega arith) are_words (omega arith) in
    let enable : be32 bytes (place + 4) ≡ f.enable_flags =
    ap (λ b. be32 b (place + 4)) second ∙ long_at longs (front ++ word_bytes words) rest (place + 4) 0 (omega arith) are_longs (omega arith) in
    let disable : be32 bytes (place + 8) ≡ f.disable_flags =
    ap (λ b. be32 b (place + 8)) second ∙ long_at longs (front ++ word_bytes words) rest (place + 8) 1 (omega arith) are_longs (omega arith) in
    let of_kind : ℕ → ChainFeature = λ k. record { kind = k; setting = be16 bytes (place + 2); enable_flags = be32 bytes (place + 4); disable_flags = be32 bytes (place + 8) } in
    let of_setting : ℕ → ChainFeature = λ s. record { kind = f.kind; setting = s; enable_flags = be32 bytes (place + 4); disable_flags = be32 bytes (place + 8) } in
    let of_enable : ℕ → ChainFeature = λ e. record { kind = f.kind; setting = f.setting; enable_flags = e; disable_flags = be32 bytes (place + 8) } in
    let of_disable : ℕ → ChainFeature = λ d. record { kind = f.kind; setting = f.setting; enable_flags = f.enable_flags; disable_flags = d } in
    ap of_kind kind ∙ ap of_setting setting ∙ ap of_enable enable ∙ ap of_disable disable

-- each feature stands at its place
feature_there :
    (fs : List ChainFeature) (front rest : List ℕ) (place i : ℕ) (d : ChainFeature)
    → i < length fs → All IsFeature fs → length front + 12 * i ≡ place
    → feature_at (front ++ (flat_map feature_bytes fs ++ rest)) place ≡ get_or fs i d
feature_there [] front rest place i d below small at = absurd (omega arith)
feature_there (f ∷ fs) front rest place zero d below small at =
    ap (λ (xs : List ℕ). feature_at (front ++ xs) place) (append_assoc (feature_bytes f) (flat_map feature_bytes fs) rest)
    ∙ feature_here f front (flat_map feature_bytes fs ++ rest) place (small 0 f (omega arith)) (omega arith)
feature_there (f ∷ fs) front rest place (suc i) d below small at =
    let bytes = feature_bytes f in
    let longer : length (front ++ bytes) ≡ length front + 12 = length-append front bytes ∙ ap (λ n. length front + n) (feature_long f) in
    ap (λ (xs : List ℕ). feature_at (front ++ xs) place) (append_assoc bytes (flat_map feature_bytes fs) rest)
    ∙ ap (λ (xs : List ℕ). feature_at xs place) (sym (append_assoc front bytes (flat_map feature_bytes fs ++ rest)))
    ∙ feature_there fs (front ++ bytes) rest place i d (omega arith) (λ k e lt. small (suc k) e (omega arith)) (omega arith)

-- features are read where they stand
pub features_are_read :
    (fs : List ChainFeature) (bytes front rest : List ℕ) (place : ℕ)
    → bytes ≡ front ++ (flat_map feature_bytes fs ++ rest) → length front ≡ place → All IsFeature fs
    → whole_features bytes place (length fs) ≡ Ok fs
unfolding whole_features
features_are_read fs bytes front rest place split long small =
    let long_split : length bytes ≡ place + (12 * length fs + length rest) =
    ap length split ∙ omega (arith, length-append front (flat_map feature_bytes fs ++ rest), length-append (flat_map feature_bytes fs) rest, features_long fs, long) in
    let inside : place + 12 * length fs ≤ length bytes = omega (arith, long_split) in
    let at : ℕ → ChainFeature = λ i. feature_at bytes (place + 12 * i) in
    let each : (i : ℕ) → i < length fs → at i ≡ get_or fs i no_feature =
    λ i below. ap (λ (b : List ℕ). feature_at b (place + 12 * i)) split
    ∙ feature_there fs front rest (place + 12 * i) i no_feature below small (omega arith) in
    let all : features_at bytes place (length fs) ≡ fs =
    sym (fill_by_all at fs (length fs) no_feature refl (λ k lt. sym (each k lt))) in
    rw (le-ltb (length bytes) (place + 12 * length fs) inside) (ap Ok all)
