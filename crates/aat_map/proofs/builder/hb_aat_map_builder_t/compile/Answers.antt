use Rattle.std.specs.Result.{OnOk}
use Rattle.std.proofs.lemmas.Result.{on_ok_weaker}
use Rattle.aat_font.specs.Face.{tables_of, chains_in}
use Rattle.aat_map.specs.inside.CompiledSpans.{IsCompiled}
use Rattle.aat_map.proofs.CompileLemmas.{compiled_kept}
use Rattle.aat_map.proofs.CompiledLemmas.{compiled_flags, compiled_starts, compiled_whole, compiled_switches, compiled_last}
use Rattle.aat_map.proofs.builder.hb_aat_map_builder_t.compile.Given.{Over}
use Rattle.aat_map.proofs.builder.hb_aat_map_builder_t.compile.Goals as goal

-- what compiling made of the map, which the answer hands on
compiled_map :
    (g : Over) (c : goal.After-empty_on_err g)
    → OnOk
    c.empty_on_err.result
    (IsCompiled c.args.self.now.features (chains_in (tables_of c.args.face.now).morx) c.empty_on_err.new.self c.compile_ranges-answer.new.builder)
compiled_map g c =
    let made = rw c.chains.ensures.listed at c.compile_ranges-answer.ensures.ok in
    compiled_kept _ _ _ _ _ _ _ c.empty_on_err.ensures.same c.empty_on_err.ensures.ok made

pub returns-clause-flags : goal.returns-clause-flags
returns-clause-flags g c =
    let requests = c.args.self.now.features in
    let chains = chains_in (tables_of c.args.face.now).morx in
    on_ok_weaker
    c.empty_on_err.result
    (λ p. λ k x ch read most. rw p.lists_are (compiled_flags requests p.starts p.are_starts p.bounded chains k x ch read most))
    (compiled_map g c)

pub returns-clause-starts : goal.returns-clause-starts
returns-clause-starts g c =
    let requests = c.args.self.now.features in
    let chains = chains_in (tables_of c.args.face.now).morx in
    on_ok_weaker
    c.empty_on_err.result
    (λ p. rw p.lists_are (compiled_starts requests p.starts p.are_starts p.bounded chains))
    (compiled_map g c)

pub returns-clause-whole : goal.returns-clause-whole
returns-clause-whole g c =
    let requests = c.args.self.now.features in
    let chains = chains_in (tables_of c.args.face.now).morx in
    on_ok_weaker
    c.empty_on_err.result
    (λ p. rw p.lists_are (compiled_whole requests p.starts p.are_starts p.bounded chains))
    (compiled_map g c)

pub returns-clause-switches : goal.returns-clause-switches
returns-clause-switches g c =
    let requests = c.args.self.now.features in
    let chains = chains_in (tables_of c.args.face.now).morx in
    on_ok_weaker
    c.empty_on_err.result
    (λ p. rw p.lists_are (compiled_switches requests p.starts p.are_starts p.bounded chains))
    (compiled_map g c)

pub returns-clause-range : goal.returns-clause-range
returns-clause-range g c =
    let requests = c.args.self.now.features in
    on_ok_weaker
    c.empty_on_err.result
    (λ p. compiled_last requests p.starts p.are_starts p.bounded c.compile_ranges-answer.new.builder p.range)
    (compiled_map g c)
