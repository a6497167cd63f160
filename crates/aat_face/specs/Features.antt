-- The features of a font file. Apple's TrueType Reference Manual, "The 'feat' table".
use Rattle.std.specs.Prelude.{ℕ, List, Option, None, Result, Ok, option_map}
use Rattle.aat_bytes.specs.Faults.{after}
use Rattle.aat_bytes.specs.declared.error.Fault.{Fault}
use Rattle.aat_bytes.specs.declared.tags.TheConstants.{FEAT}
use Rattle.aat_font.specs.declared.face.FaceTables.{FaceTables}
use Rattle.aat_lookup.specs.declared.feat.FeatureName.{FeatureName}
use Rattle.aat_read_lookup.specs.Features.{feat_of}
use Rattle.aat_read_sfnt.specs.Directory.{Directory}
use Rattle.aat_read_metrics.specs.Tables.{found_in, table_in}

-- the table of features, and its bytes, where the numbers of names stand
pub record FeatureTable : Type 0 where
  pub names : List FeatureName
  pub bytes : List ℕ

-- the table of these bytes
abbrev pub feature_table_of : List ℕ → Result FeatureTable Fault
feature_table_of bytes = after (feat_of bytes) (λ names. Ok (record { names = names; bytes = bytes }))

-- the features of a file
abbrev pub features_in : Directory → Result (Option FeatureTable) Fault
features_in file = table_in file FEAT feature_table_of

-- the bytes of the features that are read
abbrev pub feature_bytes : Result (Option FeatureTable) Fault → Option (List ℕ)
feature_bytes reading = option_map (λ table. table.bytes) (found_in reading)

-- tables with these features, and no other table
abbrev pub tables_with : Option (List FeatureName) → FaceTables
tables_with feat = record { morx = None; kerx = None; kern = None; feat = feat; ankr = None }

-- the tables for the layer with the features alone
abbrev pub feature_tables : Result (Option FeatureTable) Fault → FaceTables
feature_tables reading = tables_with (option_map (λ table. table.names) (found_in reading))
