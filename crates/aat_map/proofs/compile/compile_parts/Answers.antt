use Rattle.std.proofs.Common.{◌≡◌, ◌∙◌, refl, length, [], Result, Ok, Err, OnOk}
use Rattle.std.proofs.lemmas.Result.{on_ok_weaker}
use Rattle.aat_map.specs.Map.{AreStarts, resized}
use Rattle.aat_map.proofs.CompiledLemmas.{rise_from_zero}
use Rattle.aat_map.proofs.SpanLemmas.{resized_empty}
use Rattle.aat_map.proofs.StartLemmas.{starts_of_requests}
use Rattle.aat_map.proofs.WalkLemmas.{are_walked}
use Rattle.aat_map.proofs.compile.compile_parts.Goals as goal

-- what holds of success
both_ok : {T E : Type 0} (P Q : Type 0) (r : Result T E) → OnOk r P → OnOk r Q → OnOk r (P × Q)
both_ok P Q (Ok t) p q = (p, q)
both_ok P Q (Err e) p q = tt

pub compile_spans-requires-clause-starts : goal.compile_spans-requires-clause-starts
compile_spans-requires-clause-starts g c =
    let requests = c.args.builder.now.features in
    let is : AreStarts requests c.in_ok-starts.starts.items =
    starts_of_requests requests c.args.ordered.now c.deref.result.now c.in_ok-starts.starts.items c.requires.ordered
    (rw c.deref.ensures.value c.in_ok-ending.ensures.same) c.in_ok-starts.ensures.ok in
    rw c.deref-3.ensures.value (rise_from_zero requests c.in_ok-starts.starts.items is c.requires.bounded)

pub compile_spans-requires-clause-lists : goal.compile_spans-requires-clause-lists
compile_spans-requires-clause-lists g c =
    let chains = c.args.chains.now in
    let same : resized (length c.args.chains.now) c.args.map.now ≡ resized (length chains) [] = rw c.requires.empty refl in
    c.in_ok-resize.ensures.ok ∙ same ∙ resized_empty c.args.builder.now.features chains

pub compile_spans-requires-clause-walked : goal.compile_spans-requires-clause-walked
compile_spans-requires-clause-walked g c =
    are_walked c.args.builder.now.features c.args.ordered.now c.deref-2.result.now c.requires.ordered
    (rw c.deref-2.ensures.value c.in_ok-ending.ensures.same) (rw c.deref-2.ensures.value c.in_ok-ending.ensures.rising)

pub tell_last-requires-clause-starts : goal.tell_last-requires-clause-starts
tell_last-requires-clause-starts g c =
    let requests = c.args.builder.now.features in
    let is : AreStarts requests c.in_ok-starts.starts.items =
    starts_of_requests requests c.args.ordered.now c.deref.result.now c.in_ok-starts.starts.items c.requires.ordered
    (rw c.deref.ensures.value c.in_ok-ending.ensures.same) c.in_ok-starts.ensures.ok in
    rw c.deref-4.ensures.value (rise_from_zero requests c.in_ok-starts.starts.items is c.requires.bounded)

pub returns-clause-ok : goal.returns-clause-ok
returns-clause-ok g c =
    let requests = c.args.builder.now.features in
    let is : AreStarts requests c.in_ok-starts.starts.items =
    starts_of_requests requests c.args.ordered.now c.deref.result.now c.in_ok-starts.starts.items c.requires.ordered
    (rw c.deref.ensures.value c.in_ok-ending.ensures.same) c.in_ok-starts.ensures.ok in
    let told = both_ok _ _ c.tell_last.result c.tell_last.ensures.range c.tell_last.ensures.current in
    on_ok_weaker
    c.tell_last.result
    (λ t. record {
      starts = c.in_ok-starts.starts.items;
      are_starts = is;
      bounded = c.requires.bounded;
      lists_are = rw c.deref-3.ensures.value at c.in_ok-live.ensures.lists;
      range = rw c.deref-4.ensures.value at t.0;
      current = t.1;
    })
    told

pub compile_spans-requires-clause-ordered : goal.compile_spans-requires-clause-ordered
compile_spans-requires-clause-ordered g c = c.requires.ordered

pub tell_last-requires-clause-kept : goal.tell_last-requires-clause-kept
tell_last-requires-clause-kept g c =
    rw (c.deref-4.ensures.value, c.deref-5.ensures.value) (rw c.deref-3.ensures.value at c.in_ok-live.ensures.kept)
