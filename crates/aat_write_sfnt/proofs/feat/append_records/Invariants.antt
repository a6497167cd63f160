use Rattle.std.proofs.Common.{◌≡◌, ◌+◌, ◌*◌, ◌++◌, drop}
use Rattle.std.specs.Prelude.{sum_by}
use Rattle.aat_write_sfnt.specs.NamedFeatures.{feature_record_words, setting_bytes, setting_count}
use Rattle.aat_write_sfnt.specs.Records.{records}
use Rattle.aat_write_machine.specs.Words.{word_bytes}
use Rattle.aat_write_sfnt.proofs.feat.append_records.Given as goal

abbrev pub invariant-loop-feature : goal.invariant-loop-feature
invariant-loop-feature g l =
    (l.out.items ++ word_bytes (records setting_bytes feature_record_words l.place (drop l.feature-index l.features))
    ≡ l.fn.out.items ++ word_bytes (records setting_bytes feature_record_words l.start l.features))
    × (l.place + 4 * sum_by setting_count (drop l.feature-index l.features)
    ≡ l.start + 4 * sum_by setting_count l.features)
