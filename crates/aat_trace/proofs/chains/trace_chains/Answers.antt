use Rattle.std.proofs.Common.{◌∙◌, ap, length, subst, take}
use Rattle.std.specs.Option.{option_copied}
use Rattle.std.proofs.lemmas.Result.{err_from_is_err_and}
use Rattle.aat_kinds.specs.Kinds.{sizes_of}
use Rattle.aat_map.specs.Map.{list_or, lists_for}
use Rattle.aat_map.proofs.DefaultLists.{list_for}
use Rattle.aat_map.specs.SwitchedChains.{switched_by}
use Rattle.aat_morx.proofs.Chained.{all_chains_ran, chain_ran, chain_refused, stays_with_more}
use Rattle.aat_run.specs.Ranges.{switch_for}
use Rattle.aat_trace.proofs.ToldMore.{all_chains_told, chains_more, tells_then}
use Rattle.aat_trace.specs.Told.{told_of_chains, told_of_subtables}
use Rattle.aat_trace.specs.inside.Telling.{TellsMore}
use Rattle.aat_trace.proofs.chains.trace_chains.Goals as goal

pub returns-in_err-turns-clause-reason : goal.returns-in_err-turns-clause-reason
returns-in_err-turns-clause-reason g c =
    let p = err_from_is_err_and c.from_residual.result c.from_residual.ensures.1 in
    let l = c.loop-i in
    let listed = list_for (option_copied c.args.map) c.args.chains.now l.i c.index-chains-i.result c.ranges_of-ranges.result.now c.loop-i-test.true c.index-chains-i.is (c.ranges_of-ranges.ensures.list ∙ ap (list_or (option_copied c.args.map) l.i) c.default_range.ensures) in
    rw (p.1, p.2) (chain_refused (sizes_of g.row.SLOTS g.row.LONGEST c.args.face.now) c.args.chains.now (lists_for (option_copied c.args.map) c.args.chains.now) c.args.buffer.now l.i c.index-chains-i.result c.ranges_of-ranges.result.now c.deref.result.now
    c.loop-i-test.true c.index-chains-i.is listed c.deref.ensures.value l.buffer l.turns l.invariant.same
    c.in_err-turns.field-0.0 c.requires.slots l.invariant.within.settings.max_len c.in_err-turns.ensures.reason)

pub loop-i-preserved : goal.loop-i-preserved
loop-i-preserved g c =
    let z = sizes_of g.row.SLOTS g.row.LONGEST c.args.face.now in
    let l = c.loop-i in
    let chains = c.args.chains.now in
    let listed = list_for (option_copied c.args.map) c.args.chains.now l.i c.index-chains-i.result c.ranges_of-ranges.result.now c.loop-i-test.true c.index-chains-i.is (c.ranges_of-ranges.ensures.list ∙ ap (list_or (option_copied c.args.map) l.i) c.default_range.ensures) in
    record {
      same = chain_ran z chains (lists_for (option_copied c.args.map) c.args.chains.now) c.args.buffer.now l.i c.index-chains-i.result c.ranges_of-ranges.result.now c.deref.result.now
          c.loop-i-test.true c.index-chains-i.is listed c.deref.ensures.value l.buffer l.turns l.invariant.same
          c.trace_chain.new.buffer c.in_ok-turns.field-0 c.in_ok-turns.ensures.run;
      within = stays_with_more chains l.i c.index-chains-i.result (length c.deref.result.now) c.args.buffer.now l.buffer c.trace_chain.new.buffer l.turns c.in_ok-turns.field-0
          c.loop-i-test.true c.index-chains-i.is c.deref.ensures.len l.invariant.within c.in_ok-turns.ensures.within;
      told = subst (TellsMore c.args.trace.now c.trace_chain.new.trace)
          (chains_more z chains (lists_for (option_copied c.args.map) c.args.chains.now) c.args.buffer.now l.i c.index-chains-i.result c.ranges_of-ranges.result.now c.deref.result.now
          c.loop-i-test.true c.index-chains-i.is listed c.deref.ensures.value l.buffer l.turns l.invariant.same)
          (tells_then c.args.trace.now l.trace c.trace_chain.new.trace (told_of_chains z 0 (take l.i (switched_by chains (lists_for (option_copied c.args.map) c.args.chains.now))) c.args.buffer.now)
          (told_of_subtables z (switch_for c.ranges_of-ranges.result.now) l.i 0 c.deref.result.now l.buffer) l.invariant.told c.in_ok-turns.ensures.told);
    }

pub returns-clause-run : goal.returns-clause-run
returns-clause-run g c =
    let l = c.loop-i in
    all_chains_ran (sizes_of g.row.SLOTS g.row.LONGEST c.args.face.now) c.args.chains.now (lists_for (option_copied c.args.map) c.args.chains.now) c.args.buffer.now l.i l.buffer l.turns c.loop-i-test.false l.invariant.same

pub returns-clause-told : goal.returns-clause-told
returns-clause-told g c =
    let l = c.loop-i in
    subst (TellsMore c.args.trace.now l.trace) (all_chains_told (sizes_of g.row.SLOTS g.row.LONGEST c.args.face.now) c.args.chains.now (lists_for (option_copied c.args.map) c.args.chains.now) c.args.buffer.now l.i c.loop-i-test.false) l.invariant.told
