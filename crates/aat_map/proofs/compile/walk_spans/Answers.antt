use Rattle.std.proofs.Common.{◌≡◌, ◌∙◌, ◌<◌, ◌≤◌, ◌-◌, ◌+◌, ap, sym, arith, length, take, slice_index_or, IsPermutation, List, Option}
use Rattle.std.proofs.lemmas.List.{take_all, with_items_is, length-map}
use Rattle.std.proofs.lemmas.List.Folds.{length-prefix_len}
use Rattle.aat_run.specs.Ranges.{next_start}
use Rattle.aat_map.specs.Live.{has_begun, infos, kept_at, live as live_at}
use Rattle.aat_map.specs.Map.{list_at, with_ranges}
use Rattle.aat_map.specs.Spans.{spans}
use Rattle.aat_map.specs.inside.CompiledSpans.{all_flags_for, compiled_lists, ranges_with}
use Rattle.aat_map.specs.inside.Firsts.{AreGroupsOf, present}
use Rattle.aat_map.specs.inside.Walked.{ends_by}
use Rattle.aat_map.specs.declared.feature.feature_info_t.{feature_info_t}
use Rattle.aat_map.proofs.KeptFirsts.{live_present}
use Rattle.aat_map.proofs.SpanLemmas.{length-spans, take_read, next_of_spans, next_of_lists, compiled_more, some_start, live_of, ranges_over, ranges_of_settings}
use Rattle.aat_map.proofs.Truth.{true_not_false}
use Rattle.aat_map.proofs.WalkLemmas.{walked_later, nothing_ended}
use Rattle.aat_map.proofs.compile.walk_spans.Goals as goal

pub loop-i-init : goal.loop-i-init
loop-i-init g c = record {
  lists = c.requires.lists;
  kept = λ h. absurd (omega (arith, h));
  begun = c.count_up_to.ensures.within;
  ended = c.count_ending.ensures.within;
  each = sym c.in_ok-flags.flags.ok.0 ∙ c.in_ok-flags.ensures.len;
  valid = λ off. absurd (true_not_false (sym c.requires.changed ∙ off));
  groups = c.requires.groups;
  firsts = c.requires.firsts;
  placed = rw c.deref.ensures.value at c.in_ok-placed.ensures.ok;
  walked = λ some. record {
    at = 0;
    up_to = omega arith;
    begun_is = c.count_up_to.ensures.count ∙ length-prefix_len (has_begun 0) c.args.ordered.now;
    ended_is = c.count_ending.ensures.count ∙ length-prefix_len (ends_by 0) c.args.ending.now;
    live_is = c.requires.active ∙ nothing_ended c.args.ordered.now c.requires.walked.admits;
  };
}

pub go_on-requires-clause-apart : goal.go_on-requires-clause-apart
go_on-requires-clause-apart g c = c.loop-i.invariant.groups.apart

pub go_on-requires-clause-up_to : goal.go_on-requires-clause-up_to
go_on-requires-clause-up_to g c = rw c.span_at-span.ensures.first (c.loop-i.invariant.walked c.loop-i-test.true)

pub push_flags-requires-clause-follows : goal.push_flags-requires-clause-follows
push_flags-requires-clause-follows g c k lt =
    let chains = c.args.chains.now in
    let requests = c.args.builder.now.features in
    let done = take c.loop-i.i (spans c.args.starts.now) in
    let written =
    with_items_is c.loop-i.flags c.renew.new.flags
    (ap length c.renew.ensures ∙ length-map chains _ ∙ sym c.loop-i.invariant.each ∙ sym c.loop-i.flags.ok.0) in
    let many : length c.deref-in-loop-i.result.now ≡ length chains =
    ap length (c.deref-in-loop-i.ensures.value ∙ written ∙ c.renew.ensures) ∙ length-map chains _ in
    let below : k < length chains = omega (arith, many, lt) in
    ap (λ m. next_start (list_at m k)) c.loop-i.invariant.lists
    ∙ next_of_lists requests chains done k below
    ∙ next_of_spans c.args.starts.now c.loop-i.i c.requires.starts c.loop-i-test.true
    ∙ sym c.span_at-span.ensures.first

pub loop-i-preserved : goal.loop-i-preserved
loop-i-preserved g c =
    let requests = c.args.builder.now.features in
    let chains = c.args.chains.now in
    let ordered = c.args.ordered.now in
    let ss = spans c.args.starts.now in
    let i = c.loop-i.i in
    let span = c.span_at-span.result in
    let live = c.go_on.new.live in
    let n : length ss ≡ length c.args.starts.now = length-spans c.args.starts.now in
    let below : i < length ss = omega (arith, n, c.loop-i-test.true) in
    let back : i + 1 - 1 ≡ i = omega arith in
    let groups : AreGroupsOf (infos ordered) live.groups.items = rw c.in_ok-passed.ensures.groups c.loop-i.invariant.groups in
    let is : live.active.items ≡ live_at span.0 requests =
    c.in_ok-passed.ensures.live ∙ live_of span.0 requests ordered c.requires.ordered in
    let kept_now : IsPermutation (kept_at span.0 requests) (present live.firsts.items) =
    rw (c.in_ok-passed.ensures.firsts, ← is) (live_present span.0 ordered live.groups.items live.active.items groups c.in_ok-passed.ensures.live) in
    let written =
    with_items_is c.loop-i.flags c.renew.new.flags
    (ap length c.renew.ensures ∙ length-map chains _ ∙ sym c.loop-i.invariant.each ∙ sym c.loop-i.flags.ok.0) in
    let ranges = ap (ranges_with span) (c.deref-in-loop-i.ensures.value ∙ written ∙ c.renew.ensures) ∙ ranges_of_settings requests chains (present live.firsts.items) span kept_now in
    record {
      lists =
          c.in_ok-push_flags.ensures.ok
          ∙ ap (λ rs. with_ranges rs c.loop-i.map) ranges
          ∙ ap (λ m. with_ranges (ranges_over requests chains span) m) c.loop-i.invariant.lists
          ∙ compiled_more requests chains (take i ss) span
          ∙ ap (λ xs. compiled_lists requests chains xs) (sym (take_read ss i span below c.span_at-span.ensures.span));
      kept = λ _. rw (back, ← c.span_at-span.ensures.first) kept_now;
      begun = c.in_ok-passed.ensures.begun;
      ended = c.in_ok-passed.ensures.ended;
      each = ap length (written ∙ c.renew.ensures) ∙ length-map chains _;
      valid = λ _. written ∙ c.renew.ensures;
      groups = groups;
      firsts = c.in_ok-passed.ensures.firsts;
      placed = rw c.in_ok-passed.ensures.groups c.loop-i.invariant.placed;
      walked = λ more.
          let up = c.requires.starts.rising i (omega arith) in
          walked_later c.span_at-span.result.0 (slice_index_or c.args.starts.now (i + 1) 0) c.args.ordered.now c.args.ending.now c.go_on.new.live.active.items c.in_ok-passed.passed.0 c.in_ok-passed.passed.1
          (rw c.span_at-span.ensures.first (omega (arith, up))) c.in_ok-passed.ensures.up_to;
    }

pub returns-clause-lists : goal.returns-clause-lists
returns-clause-lists g c =
    let ss = spans c.args.starts.now in
    let n : length ss ≡ length c.args.starts.now = length-spans c.args.starts.now in
    let all : length ss ≤ c.loop-i.i = omega (arith, n, c.loop-i-test.false) in
    rw (take_all c.loop-i.i ss all) at c.loop-i.invariant.lists

pub returns-clause-kept : goal.returns-clause-kept
returns-clause-kept g c =
    let starts = c.args.starts.now in
    let some : 0 < length starts = some_start starts c.requires.starts.zero in
    let here : c.loop-i.i ≡ length starts = omega (arith, c.loop-i-test.false, c.loop-i.auto.i-end) in
    rw here at (c.loop-i.invariant.kept (omega (arith, some, here)))

pub placed_in-requires : goal.placed_in-requires
placed_in-requires g c = rw c.deref.ensures.value c.requires.rising

pub go_on-requires-clause-firsts : goal.go_on-requires-clause-firsts
go_on-requires-clause-firsts g c = c.loop-i.invariant.firsts

pub go_on-requires-clause-walked : goal.go_on-requires-clause-walked
go_on-requires-clause-walked g c = c.requires.walked

pub go_on-requires-clause-begun : goal.go_on-requires-clause-begun
go_on-requires-clause-begun g c = c.loop-i.invariant.begun

pub go_on-requires-clause-ended : goal.go_on-requires-clause-ended
go_on-requires-clause-ended g c = c.loop-i.invariant.ended

pub renew-requires-clause-each : goal.renew-requires-clause-each
renew-requires-clause-each g c = ap length c.deref_mut.ensures.value ∙ c.loop-i.invariant.each

pub renew-requires-clause-valid : goal.renew-requires-clause-valid
renew-requires-clause-valid g c = λ off.
    let same = c.in_ok-passed.ensures.changed off in
    c.deref_mut.ensures.value
    ∙ c.loop-i.invariant.valid same.0
    ∙ ap (λ (firsts : List (Option feature_info_t)). all_flags_for (present firsts) c.args.chains.now) (sym same.1)

pub renew-requires-clause-apart : goal.renew-requires-clause-apart
renew-requires-clause-apart g c = rw c.in_ok-passed.ensures.groups c.loop-i.invariant.groups.apart

pub renew-requires-clause-firsts : goal.renew-requires-clause-firsts
renew-requires-clause-firsts g c = c.in_ok-passed.ensures.firsts

pub renew-requires-clause-placed : goal.renew-requires-clause-placed
renew-requires-clause-placed g c = rw c.in_ok-passed.ensures.groups c.loop-i.invariant.placed

pub push_flags-requires-clause-span : goal.push_flags-requires-clause-span
push_flags-requires-clause-span g c = c.span_at-span.ensures.ordered

pub push_flags-requires-clause-lists : goal.push_flags-requires-clause-lists
push_flags-requires-clause-lists g c =
    let chains = c.args.chains.now in
    let written =
    with_items_is c.loop-i.flags c.renew.new.flags
    (ap length c.renew.ensures ∙ length-map chains _ ∙ sym c.loop-i.invariant.each ∙ sym c.loop-i.flags.ok.0) in
    let many : length c.deref-in-loop-i.result.now ≡ length chains =
    ap length (c.deref-in-loop-i.ensures.value ∙ written ∙ c.renew.ensures) ∙ length-map chains _ in
    ap length c.loop-i.invariant.lists ∙ length-map chains _ ∙ sym many
