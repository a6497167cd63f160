use Rattle.std.proofs.Common.{arith, length, refl}
use Rattle.std.specs.Option.{option_copied}
use Rattle.std.proofs.lemmas.Result.{err_from_is_err_and}
use Rattle.aat_font.proofs.Numbered.{number_behind, number_is_few, wakers_of_chain}
use Rattle.aat_font.specs.Morx.{chains_of}
use Rattle.aat_kinds.specs.Kinds.{sizes_of}
use Rattle.aat_map.specs.Map.{lists_for}
use Rattle.aat_map.proofs.DefaultLists.{list_for}
use Rattle.aat_morx.proofs.Chained.{all_chains_ran, chain_ran, chain_refused, stays_with_more}
use Rattle.aat_morx.proofs.LineBits.{nothing_tells}
use Rattle.aat_run.specs.facts.Settings.{settings_stay}
use Rattle.aat_morx.proofs.chains.run_chains.Goals as goal

pub loop-i-init : goal.loop-i-init
loop-i-init g c = record {
  same = refl;
  first = refl;
  tells = nothing_tells c.unknown-known.result c.wakers-words.result.now c.args.buffer.now.line c.unknown-known.ensures;
  within = record { ids = c.requires.ids; counted = omega arith; extent = omega arith; settings = settings_stay c.args.buffer.now };
}

pub run_chain-requires-clause-wakers : goal.run_chain-requires-clause-wakers
run_chain-requires-clause-wakers g c =
    let l = c.loop-i in
    wakers_of_chain (chains_of c.args.morx.now) c.args.chains.now c.wakers-words.result.now.blocks.items l.i c.index-chains-i.result c.deref.result.now l.first
    c.wakers-words.ensures c.requires.chains c.loop-i-test.true c.index-chains-i.is c.deref.ensures.value l.invariant.first

pub run_chain-requires-clause-start : goal.run_chain-requires-clause-start
run_chain-requires-clause-start g c =
    number_is_few c.args.chains.now c.loop-i.i c.loop-i.first c.loop-i.invariant.first c.requires.few

pub returns-in_err-turns-clause-reason : goal.returns-in_err-turns-clause-reason
returns-in_err-turns-clause-reason g c =
    let p = err_from_is_err_and c.from_residual.result c.from_residual.ensures.1 in
    let l = c.loop-i in
    let listed = list_for (option_copied c.args.map) c.args.chains.now l.i c.index-chains-i.result c.ranges_of-ranges.result.now c.loop-i-test.true c.index-chains-i.is (rw (← c.default_range.ensures) c.ranges_of-ranges.ensures.list) in
    rw (p.1, p.2) (chain_refused (sizes_of g.row.SLOTS g.row.LONGEST c.args.face.now) c.args.chains.now (lists_for (option_copied c.args.map) c.args.chains.now) c.args.buffer.now l.i c.index-chains-i.result c.ranges_of-ranges.result.now c.deref.result.now
    c.loop-i-test.true c.index-chains-i.is listed c.deref.ensures.value l.buffer l.turns l.invariant.same
    c.in_err-turns.field-0.0 c.requires.slots l.invariant.within.settings.max_len c.in_err-turns.ensures.reason)

pub loop-i-preserved : goal.loop-i-preserved
loop-i-preserved g c =
    let l = c.loop-i in
    let listed = list_for (option_copied c.args.map) c.args.chains.now l.i c.index-chains-i.result c.ranges_of-ranges.result.now c.loop-i-test.true c.index-chains-i.is (rw (← c.default_range.ensures) c.ranges_of-ranges.ensures.list) in
    record {
      same = chain_ran (sizes_of g.row.SLOTS g.row.LONGEST c.args.face.now) c.args.chains.now (lists_for (option_copied c.args.map) c.args.chains.now) c.args.buffer.now l.i c.index-chains-i.result c.ranges_of-ranges.result.now c.deref.result.now
          c.loop-i-test.true c.index-chains-i.is listed c.deref.ensures.value l.buffer l.turns l.invariant.same
          c.run_chain.new.buffer c.in_ok-turns.field-0 c.in_ok-turns.ensures.run;
      first = number_behind c.args.chains.now l.i c.index-chains-i.result c.len.result l.first c.loop-i-test.true c.index-chains-i.is c.len.ensures l.invariant.first;
      tells = c.in_ok-turns.ensures.tells;
      within = stays_with_more c.args.chains.now l.i c.index-chains-i.result (length c.deref.result.now) c.args.buffer.now l.buffer c.run_chain.new.buffer l.turns c.in_ok-turns.field-0
          c.loop-i-test.true c.index-chains-i.is c.deref.ensures.len l.invariant.within c.in_ok-turns.ensures.within;
    }

pub returns-clause-run : goal.returns-clause-run
returns-clause-run g c =
    let l = c.loop-i in
    all_chains_ran (sizes_of g.row.SLOTS g.row.LONGEST c.args.face.now) c.args.chains.now (lists_for (option_copied c.args.map) c.args.chains.now) c.args.buffer.now l.i l.buffer l.turns c.loop-i-test.false l.invariant.same
