-- What a face weighs that is read.
use Rattle.std.proofs.Common.{◌≡◌, ◌∙◌, sym, ap, refl, subst, cond, ℕ, zero, suc, ◌+◌, ◌*◌, ◌-◌, ◌/◌, ◌≤◌, Bool, true, false, List, [], ◌∷◌, length, get_or, take, drop, Option, None, Some, Result, Ok, Err, arith}
use Rattle.std.specs.Prelude.{nat_le, nat_lt, ◌==◌, option_map, unwrap_or}
use Rattle.std.specs.List.{filter_map, range_with_len}
use Rattle.std.specs.Option.{option_map_or}
use Rattle.std.proofs.lemmas.Bool.{ltb-false}
use Rattle.std.proofs.lemmas.Bool.Decides.{nat_tests}
use Rattle.std.proofs.lemmas.List.{length-drop, length-map, length-take}
use Rattle.std.proofs.lemmas.List.FromFn.{get_or-map-range_with_len, length-map-range_with_len, length-range_with_len}
use Rattle.aat_bytes.specs.Bisection.{found_rows, is_found}
use Rattle.aat_bytes.specs.Faults.{after}
use Rattle.aat_bytes.specs.Numbers.{be16, be32, slice_from}
use Rattle.aat_bytes.specs.declared.error.Fault.{Fault}
use Rattle.aat_bytes.specs.declared.error.FaultKind.{FaultKind}
use Rattle.aat_bytes.specs.declared.error.FaultKind.TheVariants.{PastEnd, UnknownFormat, ShortLength, Missing, NotRising}
use Rattle.aat_bytes.specs.declared.tag.Tag.{Tag}
use Rattle.aat_bytes.specs.facts.Parts.{ok_parts, parts, passes}
use Rattle.aat_bytes.specs.declared.tags.TheConstants.{ANKR, FEAT, KERN, KERX, MORX, TRAK}
use Rattle.aat_lookup.specs.Keys.{first}
use Rattle.aat_lookup.specs.declared.feat.FeatureName.{FeatureName}
use Rattle.aat_lookup.specs.GlyphSpans.{glyph_span}
use Rattle.aat_read_kern.specs.Kern.{KernValue, kern_of}
use Rattle.aat_read_kern.specs.Weights.{kern_weight}
use Rattle.aat_read_kern.proofs.TableBounded.{kern_bounded}
use Rattle.aat_read_extended.specs.kerx.AnchorLaws.{points_weight}
use Rattle.aat_read_extended.specs.kerx.KerxTables.{KerxValue}
use Rattle.aat_read_extended.specs.kerx.Weights.{kerx_weight}
use Rattle.aat_read_extended.proofs.kerx.AnchorRows.{points_bounded}
use Rattle.aat_read_extended.proofs.kerx.TableBounded.{kerx_bounded}
use Rattle.aat_read_lookup.specs.Features.{feat_of, feature_count, feature_name, feature_names, kind_at}
use Rattle.aat_read_lookup.specs.Sizes.{cells_beside, pairs_size}
use Rattle.aat_read_lookup.specs.facts.FoundRows.{keeps_few}
use Rattle.aat_read_extended.specs.morx.Weights.{morx_weight}
use Rattle.aat_read_extended.proofs.morx.Bounded.{memory_bounded}
use Rattle.aat_read_sfnt.specs.Metrics.{advance_of}
use Rattle.aat_read_sfnt.specs.declared.gdef.GlyphClasses.{GlyphClasses}
use Rattle.aat_read_sfnt.specs.Directory.{Directory, cut_table_of, directory_at, directory_of, directory_place, is_font_version, part_of_record, record_of}
use Rattle.aat_read_metrics.specs.Trak.{trak_of}
use Rattle.aat_read_metrics.specs.TrakLaws.{table_size}
use Rattle.aat_read_metrics.proofs.Bounded.{traks_are_bounded}
use Rattle.aat_face.specs.Chains.{chain_values_of}
use Rattle.aat_face.specs.FaceLaws.{FaceMemoryIsBounded, IsBounded}
use Rattle.aat_face.specs.Faces.{face_of_tables, faults_of, tables_in}
use Rattle.aat_face.specs.Features.{FeatureTable, feature_table_of, features_in}
use Rattle.aat_face.specs.Kerning.{ankr_values_of, kerx_values_of}
use Rattle.aat_face.specs.Lists.{mark_property, pairs_over, property_pairs}
use Rattle.aat_read_metrics.specs.Tables.{found_in, none_if_missing, number_in, glyph_count_in, read_if_found, table_in, unless_missing}
use Rattle.aat_face.specs.Tables.{classes_fault, fault_in}
use Rattle.aat_face.specs.declared.tables.Tables.{Tables}
use Rattle.aat_face.specs.Weights.{bytes_of_table, features_weight, plain_weight}

-- a version that is known
version_passes : {X : Type 0} (b : Bool) (fault : Fault) (r : Result X Fault) (x : X)
    → cond b r (Err fault) ≡ Ok x → r ≡ Ok x
version_passes true fault r x is = is
version_passes false fault r x is = cc

-- what there is weighs as much as it may, and nothing where there is none
light :
    {X Y : Type 0} (f : X → Y) (weight : Y → ℕ) (bound : ℕ) (o : Option X)
    → ((x : X) → o ≡ Some x → weight (f x) ≤ bound)
    → option_map_or weight (option_map f o) 0 ≤ bound
light f weight bound None each = omega arith
light f weight bound (Some x) each = each x refl

found_light :
    {X : Type 0} (weight : X → ℕ) (bound : ℕ) (o : Option X)
    → ((x : X) → o ≡ Some x → weight x ≤ bound)
    → option_map_or weight o 0 ≤ bound
found_light weight bound None each = omega arith
found_light weight bound (Some x) each = each x refl

-- values of so many glyphs: four bytes for each, and four for its cell
cells_light : (n : ℕ) → cells_beside n n ≤ n
cells_light n =
    elim (n == 0) as (λ b. cond b 0 (cond (nat_le (n / 32) n) n (cond (nat_lt n 8) 0 (256 + 256 * (n / 8)))) ≤ n) [
      | true ↦ omega arith
      | false ↦ let below : nat_le (n / 32) n ≡ true = grind (arith, nat_tests) in rw below (omega arith)
    ]

values_long : (value : ℕ → ℕ) (n : ℕ) → length (pairs_over n value) ≡ n
values_long value n = length-map-range_with_len (λ glyph. (glyph, value glyph)) 0 n

span_is : (value : ℕ → ℕ) (n : ℕ) → glyph_span first (0, 0) (pairs_over (suc n) value) ≡ suc n
span_is value n =
    let of : ℕ → ℕ × ℕ = λ glyph. (glyph, value glyph) in
    let long = values_long value (suc n) in
    let last : get_or (pairs_over (suc n) value) (length (pairs_over (suc n) value) - 1) (0, 0) ≡ of n =
    ap (λ (m : ℕ). get_or (pairs_over (suc n) value) (m - 1) (0, 0)) long
    ∙ get_or-map-range_with_len of 0 (suc n) (suc n - 1) n (0, 0) (omega arith) (omega arith) in
    let head : get_or (pairs_over (suc n) value) 0 (0, 0) ≡ of 0 =
    get_or-map-range_with_len of 0 (suc n) 0 0 (0, 0) (omega arith) (omega arith) in
    let high = ap first last in
    let low = ap first head in
    omega (arith, high, low)

values_light : (value : ℕ → ℕ) (n : ℕ) → pairs_size (pairs_over n value) ≤ 8 * n
values_light value zero = omega arith
values_light value (suc n) =
    let long = values_long value (suc n) in
    let cells : cells_beside (length (pairs_over (suc n) value)) (glyph_span first (0, 0) (pairs_over (suc n) value)) ≡ cells_beside (suc n) (suc n) =
    ap (λ (m : ℕ). cells_beside m (glyph_span first (0, 0) (pairs_over (suc n) value))) long
    ∙ ap (cells_beside (suc n)) (span_is value n) in
    omega (arith, long, cells, cells_light (suc n))

-- faults of twelve tables
join_light : {X : Type 0} (o : Option X) (xs : List (Option X)) (n : ℕ)
    → length (filter_map (λ x. x) xs) ≤ n → length (filter_map (λ x. x) (o ∷ xs)) ≤ suc n
join_light None xs n few = omega (arith, few)
join_light (Some x) xs n few = omega (arith, few)

few_of : {X : Type 0} (xs : List (Option X)) → length (filter_map (λ x. x) xs) ≤ length xs
few_of [] = omega arith
few_of (o ∷ xs) = join_light o xs (length xs) (few_of xs)

abbrev all_faults : Tables → List (Option Fault)
all_faults tables =
    fault_in tables.maxp ∷ fault_in tables.head ∷ fault_in tables.hhea ∷ fault_in tables.cmap
    ∷ classes_fault tables.gdef ∷ fault_in tables.name ∷ fault_in tables.feat ∷ fault_in tables.morx
    ∷ fault_in tables.kerx ∷ fault_in tables.kern ∷ fault_in tables.ankr ∷ fault_in tables.trak ∷ []

-- a table that is found has bytes, and what is read of them
found_ok : {X : Type 0} (r : Result X Fault) (x : X)
    → found_in (after r (λ y. Ok (Some y))) ≡ Some x → r ≡ Ok x
found_ok (Ok y) x is = let same : y ≡ x = cc in ap Ok same
found_ok (Err fault) x is = absurd (let wrong : ⊥ = cc in wrong)

none_found_in : {X : Type 0} (kind : FaultKind) (fault : Fault) (read : List ℕ → Result X Fault) (x : X)
    → found_in (after (none_if_missing kind fault) (read_if_found read)) ≡ Some x → ⊥
none_found_in Missing fault read x is = cc
none_found_in PastEnd fault read x is = cc
none_found_in UnknownFormat fault read x is = cc
none_found_in ShortLength fault read x is = cc
none_found_in NotRising fault read x is = cc

found_parts : {X : Type 0} (r : Result (List ℕ) Fault) (read : List ℕ → Result X Fault) (x : X)
    → found_in (after (unless_missing r) (read_if_found read)) ≡ Some x
    → (bytes : List ℕ) × (r ≡ Ok bytes) × (read bytes ≡ Ok x)
found_parts (Ok bytes) read x is = (bytes, refl, found_ok (read bytes) x is)
found_parts (Err fault) read x is = absurd (none_found_in fault.kind fault read x is)

-- the bytes of a table are no more than those of the file
some_parts : {X : Type 0} (b : Bool) (x y : X) → cond b (Some x) None ≡ Some y → x ≡ y
some_parts true x y is = cc
some_parts false x y is = absurd (let wrong : ⊥ = cc in wrong)

part_within : (o : Option (List ℕ)) (n most : ℕ)
    → ((rest : List ℕ) → o ≡ Some rest → length rest ≤ most)
    → (let part : List ℕ = elim o [ None ↦ [] | Some rest ↦ take n rest ] in length part ≤ most)
part_within None n most each = omega arith
part_within (Some rest) n most each = omega (arith, each rest refl, length-take n rest)

rest_within : (file : List ℕ) (offset : ℕ) (rest : List ℕ) → slice_from file offset ≡ Some rest → length rest ≤ length file
unfolding slice_from
rest_within file offset rest is =
    let same : drop offset file ≡ rest = some_parts (nat_le (offset + 0) (length file)) _ rest is in
    omega (arith, ap length same, length-drop offset file)

record_parts : (o : Option ℕ) (of : ℕ → List ℕ) (missing : Fault) (bytes : List ℕ)
    → (let r : Result (List ℕ) Fault = elim o [ None ↦ Err missing | Some i ↦ Ok (of i) ] in r ≡ Ok bytes)
    → (i : ℕ) × (of i ≡ bytes)
record_parts None of missing bytes is = absurd (let wrong : ⊥ = cc in wrong)
record_parts (Some i) of missing bytes is = let same : of i ≡ bytes = cc in (i, same)

table_within : (directory : Directory) (tag : Tag) (bytes : List ℕ)
    → cut_table_of directory tag ≡ Ok bytes → length bytes ≤ length directory.file
table_within directory tag bytes is =
    let here = record_parts (record_of directory tag.0) (part_of_record directory) _ bytes is in
    let offset : ℕ = be32 directory.file (directory.place + 12 + 16 * here.0 + 8) in
    let size : ℕ = be32 directory.file (directory.place + 12 + 16 * here.0 + 12) in
    let few : length (part_of_record directory here.0) ≤ length directory.file =
    part_within (slice_from directory.file offset) size (length directory.file) (rest_within directory.file offset) in
    omega (arith, few, ap length here.1)

directory_whole : (file : List ℕ) (place : ℕ) (directory : Directory) → directory_at file place ≡ Ok directory → directory.file ≡ file
unfolding directory_at
directory_whole file place directory is =
    let header = passes (nat_lt (length file) (place + 12)) _ _ directory is in
    let version = version_passes (is_font_version (be32 file place)) _ _ directory header.1 in
    let records = passes (nat_lt (length file) (place + 12 + 16 * be16 file (place + 4))) _ _ directory version in
    ap (λ (d : Directory). d.file) (sym (ok_parts _ directory records.1))

-- features have twelve bytes each
features_counted : (bytes : List ℕ) (count : ℕ) → feature_count bytes ≡ Ok count → 12 + 12 * count ≤ length bytes
unfolding feature_count
features_counted bytes count is =
    let header = passes (nat_lt (length bytes) 12) _ _ count is in
    let version = version_passes (be16 bytes 0 == 1) _ _ count header.1 in
    let records = passes (nat_lt (length bytes) (12 + 12 * be16 bytes 4)) _ _ count version in
    let same : be16 bytes 4 ≡ count = ok_parts _ count records.1 in
    omega (arith, same, ltb-false (length bytes) (12 + 12 * be16 bytes 4) records.0)

features_light : (bytes : List ℕ) (names : List FeatureName) → feat_of bytes ≡ Ok names → 12 + 12 * length names ≤ length bytes
features_light bytes names is =
    let read = parts (feature_count bytes) (λ count. Ok (feature_names bytes count)) names is in
    let count = read.0 in
    let same = ok_parts (feature_names bytes count) names read.2 in
    let found : List ℕ = found_rows (kind_at bytes) count in
    let long : length (feature_names bytes count) ≡ length found = length-map found (feature_name bytes) in
    let few : length found ≤ length (range_with_len 0 count) = keeps_few (is_found (kind_at bytes) count) (range_with_len 0 count) in
    let all : length (range_with_len 0 count) ≡ count = length-range_with_len 0 count in
    omega (arith, ap length same, long, few, all, features_counted bytes count read.1)

-- what is read of a table weighs so much, whatever a font keeps of it
mapped_weight : {X Y : Type 0} (f : X → Y) (weight : ℕ) (o : Option X)
    → option_map_or (λ _. weight) (option_map f o) 0 ≡ option_map_or (λ _. weight) o 0
mapped_weight f weight None = refl
mapped_weight f weight (Some x) = refl

-- so is kerning, with its subtables that are left out
kern_mapped : (o : Option KernValue)
    → plain_weight (option_map (λ (read : KernValue). read.subtables) o)
    (option_map_or (λ (read : KernValue). read.left_out) o [])
    ≡ option_map_or kern_weight o 0
kern_mapped None = refl
kern_mapped (Some read) = refl

-- the face of a directory
module _ (file : List ℕ) (index : ℕ) (directory : Directory) (is : directory_of file index ≡ Ok directory) where
  whole : directory.file ≡ file
  whole =
      let place = parts (directory_place file index) (directory_at file) directory is in
      directory_whole file place.0 directory place.2

  within : (tag : Tag) (bytes : List ℕ) → cut_table_of directory tag ≡ Ok bytes → length bytes ≤ length file
  within tag bytes here = omega (arith, table_within directory tag bytes here, ap length whole)

  bytes_are : (tag : Tag) (bytes : List ℕ) → cut_table_of directory tag ≡ Ok bytes → bytes_of_table file index tag ≡ bytes
  bytes_are tag bytes here =
      let of : Result (List ℕ) Fault → List ℕ = λ r. elim r [ Ok content ↦ content | Err fault ↦ [] ] in
      ap (λ (d : Result Directory Fault). of (after d (λ found. cut_table_of found tag))) is ∙ ap of here

  none_is : (tag : Tag) (fault : Fault) → cut_table_of directory tag ≡ Err fault → bytes_of_table file index tag ≡ []
  none_is tag fault here =
      let of : Result (List ℕ) Fault → List ℕ = λ r. elim r [ Ok content ↦ content | Err fault ↦ [] ] in
      ap (λ (d : Result Directory Fault). of (after d (λ found. cut_table_of found tag))) is ∙ ap of here

  features_fit : 12 * option_map_or length (option_map (λ (t : FeatureTable). t.names) (found_in (features_in directory))) 0 ≤ length file
  features_fit = few_names (found_in (features_in directory)) (λ table found.
      let there = found_parts (cut_table_of directory FEAT) feature_table_of table found in
      let read = parts (feat_of there.0) _ table there.2 in
      let names = ap (λ (t : FeatureTable). t.names) (ok_parts _ table read.2) in
      let few = features_light there.0 read.0 read.1 in
      let inside = within FEAT there.0 there.1 in
      omega (arith, ap length names, few, inside)) where
        few_names : (o : Option FeatureTable)
            → ((table : FeatureTable) → o ≡ Some table → 12 * length table.names ≤ length file)
            → 12 * option_map_or length (option_map (λ (t : FeatureTable). t.names) o) 0 ≤ length file
        few_names None each = omega arith
        few_names (Some table) each = each table refl

  features_weigh : (o : Option (List FeatureName)) → features_weight o ≡ 6 * option_map_or length o 0
  features_weigh None = refl
  features_weigh (Some names) = refl

  -- a table that is read weighs no more than its bytes let it
  table_light :
      {X : Type 0} (tag : Tag) (read : List ℕ → Result X Fault) (weight : List ℕ → X → ℕ) (each : ℕ)
      → ((bytes : List ℕ) (x : X) → read bytes ≡ Ok x → weight bytes x ≤ each * length bytes)
      → option_map_or (weight (bytes_of_table file index tag)) (found_in (table_in directory tag read)) 0
      ≤ each * length (bytes_of_table file index tag)
  table_light tag read weight each light =
      found_light (weight (bytes_of_table file index tag)) (each * length (bytes_of_table file index tag))
      (found_in (table_in directory tag read)) (λ x found.
      let there = found_parts (cut_table_of directory tag) read x found in
      subst (λ (bytes : List ℕ). weight bytes x ≤ each * length bytes) (sym (bytes_are tag there.0 there.1))
      (light there.0 x there.2))

  -- a table has no more bytes than the file
  table_fits : (tag : Tag) → length (bytes_of_table file index tag) ≤ length file
  table_fits tag = fits (cut_table_of directory tag) refl where
    fits : (r : Result (List ℕ) Fault) → cut_table_of directory tag ≡ r
        → length (bytes_of_table file index tag) ≤ length file
    fits (Ok bytes) here = omega (arith, ap length (bytes_are tag bytes here), within tag bytes here)
    fits (Err fault) here = omega (arith, ap length (none_is tag fault here))

  face_light : IsBounded file index (face_of_tables directory (tables_in directory))
  face_light =
      let tables = tables_in directory in
      let n = number_in (glyph_count_in directory) in
      let advances = values_light (λ glyph. unwrap_or (advance_of tables.hmtx glyph) (tables.units_per_em / 2)) n in
      let properties = light (λ (classes : GlyphClasses). property_pairs classes n) pairs_size (8 * n) (found_in tables.gdef)
      (λ classes found. values_light (mark_property classes) n) in
      let faults : length (faults_of tables) ≤ 12 = few_of (all_faults tables) in
      let features = features_weigh (face_of_tables directory tables).font.feat in
      let morx = table_light MORX (chain_values_of n) (λ bytes chains. morx_weight bytes n) 24
      (λ bytes chains. memory_bounded bytes n chains) in
      let kerx = table_light KERX (kerx_values_of n) (λ bytes read. kerx_weight bytes n) 32
      (λ bytes read. kerx_bounded bytes n read) in
      let kern = table_light KERN kern_of (λ bytes read. kern_weight read) 32 kern_bounded in
      let ankr = table_light ANKR (ankr_values_of n) (λ bytes points. points_weight points) 24
      (λ bytes points. points_bounded bytes n points) in
      let trak = table_light TRAK trak_of (λ bytes tracking. table_size tracking) 4 traks_are_bounded in
      let kerx_same = mapped_weight (λ (read : KerxValue). read.subtables) (kerx_weight (bytes_of_table file index KERX) n) (found_in tables.kerx) in
      let kern_same = kern_mapped (found_in tables.kern) in
      let of_morx = table_fits MORX in
      let of_kerx = table_fits KERX in
      let of_kern = table_fits KERN in
      let of_ankr = table_fits ANKR in
      let of_trak = table_fits TRAK in
      record {
        memory = omega (arith, advances, properties, faults, features, morx, kerx, kern, ankr, trak, kerx_same, kern_same);
        tables = omega (arith, of_morx, of_kerx, of_kern, of_ankr, of_trak);
        tables_apart = λ apart. omega (arith, apart);
        features = features_fit;
      }

-- the law
pub face_memory_bounded : FaceMemoryIsBounded
face_memory_bounded file index face is =
    let read = parts (directory_of file index) _ face is in
    let same : face_of_tables read.0 (tables_in read.0) ≡ face = ok_parts _ face read.2 in
    subst (IsBounded file index) same (face_light file index read.0 read.1)
