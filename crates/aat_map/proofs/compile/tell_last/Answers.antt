use Rattle.std.proofs.Common.{◌≡◌, ◌<◌, ◌-◌, ap, arith, length, ℕ, List}
use Rattle.std.proofs.lemmas.List.Sorted.{IsPermutation-trans}
use Rattle.std.proofs.lemmas.Option.{slice_get-get_or}
use Rattle.aat_run.specs.Ranges.{last_cluster}
use Rattle.aat_map.specs.declared.feature.feature_info_t.{feature_info_t}
use Rattle.aat_map.specs.Builder.{Builder}
use Rattle.aat_map.specs.Live.{live}
use Rattle.aat_map.specs.inside.CompiledSpans.{last_of}
use Rattle.aat_map.proofs.SpanLemmas.{some_start}
use Rattle.aat_map.proofs.compile.tell_last.Goals as goal

-- what the builder is told
record IsTold (new : Builder) (settings : List feature_info_t) (first last : ℕ) : Type 0 where
  first_is : new.range_first ≡ first
  last_is : new.range_last ≡ last
  settings_are : new.current_features ≡ settings

told : (b new : Builder) (settings : List feature_info_t) (first last : ℕ) → new ≡ (record b { current_features = settings; range_first = first; range_last = last }) → IsTold new settings first last
told b new settings first last is = record {
  first_is = ap (λ (t : Builder). t.range_first) is;
  last_is = ap (λ (t : Builder). t.range_last) is;
  settings_are = ap (λ (t : Builder). t.current_features) is;
}

pub set_range-requires-clause-rising : goal.set_range-requires-clause-rising
set_range-requires-clause-rising g c =
    c.in_ok-kept.ensures.rising (live (last_of c.args.starts.now) c.args.builder.now.features) c.requires.kept

pub returns-clause-range : goal.returns-clause-range
returns-clause-range g c =
    let starts = c.args.starts.now in
    let some : 0 < length starts = some_start starts c.requires.starts.zero in
    let is : IsTold c.set_range.new.self c.in_ok-kept.kept.items (last_of starts) last_cluster = told c.args.builder.now c.set_range.new.self c.in_ok-kept.kept.items (last_of starts) last_cluster c.set_range.ensures in
    record {
      first = rw is.first_is (slice_get-get_or starts (length starts - 1) 0 (omega (arith, some)));
      last = is.last_is;
    }

pub returns-clause-current : goal.returns-clause-current
returns-clause-current g c =
    let x = last_of c.args.starts.now in
    let requests = c.args.builder.now.features in
    let is : IsTold c.set_range.new.self c.in_ok-kept.kept.items x last_cluster = told c.args.builder.now c.set_range.new.self c.in_ok-kept.kept.items x last_cluster c.set_range.ensures in
    record {
      kept = rw (is.first_is, is.settings_are) (IsPermutation-trans _ _ _ c.requires.kept c.in_ok-kept.ensures.kept);
      rising = rw is.settings_are (c.in_ok-kept.ensures.rising (live x requests) c.requires.kept);
    }

pub returns-clause-requests : goal.returns-clause-requests
returns-clause-requests g c = ap (λ (t : Builder). t.features) c.set_range.ensures
