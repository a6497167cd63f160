use Rattle.std.proofs.Common.{◌≡◌, ◌∙◌, ◌<◌, ◌+◌, ◌++◌, ap, arith, length, sym, subst, List, map, slice_get, Some}
use Rattle.std.specs.Prelude.{All, IsTrue}
use Rattle.aat_layout.specs.Face.{chains_in, tables_of}
use Rattle.aat_layout.specs.Map.{list_at}
use Rattle.aat_layout.specs.Ranges.{IsGapless, is_whole_list}
use Rattle.aat_layout.specs.Requests.{requests_of}
use Rattle.aat_layout.specs.range_flags_t.{range_flags_t}
use Rattle.aat_inspection.specs.Inspected.{IsAsked, Lead, TableLine, table_line}
use Rattle.aat_inspection.specs.inside.Lines.{line_over}
use Rattle.aat_inspection.proofs.Lines.{asked_more, lead_more, read_at}
use Rattle.aat_inspection.proofs.ranges.inspect.Goals as goal

pub loop-place-preserved : goal.loop-place-preserved
loop-place-preserved c =
    let requests = requests_of (tables_of c.args.face.now).feat c.args.features.now in
    let chains = chains_in (tables_of c.args.face.now).morx in
    let m = c.in_ok-map.map in
    let i = c.loop-place.place in
    let chain = c.chain-item.result in
    let before : List TableLine = map table_line c.loop-place.ranges.items in
    let read = c.ranges-in-loop-place.ensures in
    let below : i < length chains = rw c.chains-chain-items.ensures.listed at c.loop-place-test.true in
    let there : slice_get chains i ≡ Some chain =
    read_at chains i chain below (rw c.chains-chain-items.ensures.listed at c.chain-item.is)
    in
    let whole : IsTrue (is_whole_list (list_at m i)) = rw read.list at (read.whole c.in_ok-map.ensures.whole) in
    let gapless : IsGapless (list_at m i) = rw read.list at read.gapless in
    let added : map table_line c.add_chain.new.inspected.items ≡ before ++ map (line_over i chain) (list_at m i) =
    c.in_ok-add_chain.ensures.ok ∙ ap (λ (rs : List range_flags_t). before ++ map (line_over i chain) rs) read.list
    in
    record {
      asked =
          subst (λ (ls : List TableLine). All (IsAsked requests chains) ls) (sym added)
          (asked_more requests chains i chain there m c.in_ok-map.ensures.flags whole gapless before c.loop-place.invariant.asked);
      lead =
          subst (λ (ls : List TableLine). Lead (0, 0) (i + 1, 0) ls) (sym added)
          (lead_more requests chains i chain there m c.in_ok-map.ensures.flags whole gapless before c.loop-place.invariant.lead);
      within = omega (arith, below);
    }
