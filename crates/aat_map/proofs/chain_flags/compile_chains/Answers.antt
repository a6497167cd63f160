use Rattle.std.proofs.Common.{◌∙◌, ap, length}
use Rattle.std.proofs.lemmas.Result.{on_ok_weaker}
use Rattle.aat_run.specs.Ranges.{next_start}
use Rattle.aat_map.specs.Compiled.{compiled_ranges}
use Rattle.aat_map.specs.Map.{with_ranges, list_at}
use Rattle.aat_map.proofs.CompileLemmas.{length-resized, list_at-resized}
use Rattle.aat_map.proofs.chain_flags.compile_chains.Goals as goal

pub push_ranges-requires-clause-lists : goal.push_ranges-requires-clause-lists
push_ranges-requires-clause-lists g c = rw c.in_ok-resize.ensures.ok (length-resized (length c.args.chains.now) c.args.map.now)

pub push_ranges-requires-clause-follows : goal.push_ranges-requires-clause-follows
push_ranges-requires-clause-follows g c k lt =
    ap (λ m. next_start (list_at m k)) c.in_ok-resize.ensures.ok
    ∙ ap next_start (list_at-resized (length c.args.chains.now) c.args.map.now k lt)
    ∙ c.requires k lt

pub returns-clause-ok : goal.returns-clause-ok
returns-clause-ok g c =
    let ranges = compiled_ranges c.args.builder.now c.args.chains.now in
    on_ok_weaker c.push_ranges.result (λ made. made ∙ ap (with_ranges ranges) c.in_ok-resize.ensures.ok) c.push_ranges.ensures.ok
