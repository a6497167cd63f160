use Rattle.std.proofs.Common.{◌∙◌, sym, ap, ℕ, ◌+◌, ◌++◌, drop, arith}
use Rattle.aat_write_sfnt.specs.NamedFeatures.{feature_record_words, setting_bytes}
use Rattle.aat_write_sfnt.specs.Records.{records}
use Rattle.aat_write_machine.specs.Words.{word_bytes}
use Rattle.aat_write_sfnt.proofs.Appending.{record_appended}
use Rattle.aat_write_sfnt.proofs.SettingCounts.{count_few, count_remains, four_each}
use Rattle.aat_write_sfnt.proofs.feat.append_records.Goals as goal

pub append_record-requires : goal.append_record-requires
append_record-requires g c =
    count_few c.args.features.now c.loop-feature.feature-index c.feature-item.result c.loop-feature-test.true
    (sym c.feature-item.is) c.requires.few

pub settings_size-place-requires : goal.settings_size-place-requires
settings_size-place-requires g c =
    count_few c.args.features.now c.loop-feature.feature-index c.feature-item.result c.loop-feature-test.true
    (sym c.feature-item.is) c.requires.few

pub overflow_add-place : goal.overflow_add-place
overflow_add-place g c =
    let remains =
    count_remains c.args.features.now c.loop-feature.feature-index c.feature-item.result c.loop-feature-test.true
    (sym c.feature-item.is) in
    omega (arith, remains, c.loop-feature.invariant.1, c.settings_size-place.ensures, c.requires.few, c.requires.low)

pub loop-feature-preserved : goal.loop-feature-preserved
loop-feature-preserved g c =
    let features = c.args.features.now in
    let loop = c.loop-feature in
    let i = loop.feature-index in
    let feature = c.feature-item.result in
    let new = c.append_record.new.out.items in
    let below = c.loop-feature-test.true in
    let at = sym c.feature-item.is in
    let size = c.settings_size-place.ensures in
    let appended = record_appended setting_bytes feature_record_words features i loop.place feature loop.out.items new below at c.in_ok-append_record.ensures in
    let remains = count_remains features i feature below at in
    let next = ap (λ (n : ℕ). new ++ word_bytes (records setting_bytes feature_record_words (loop.place + n) (drop (i + 1) features))) (size ∙ sym (four_each feature)) in
    (next ∙ appended ∙ loop.invariant.0, omega (arith, size, remains, loop.invariant.1))
