-- The clusters behind substitution stood on the line before it.
use Rattle.std.proofs.Common.{◌-◌, ◌<◌, List, [], ◌∷◌, length, reverse, ap, arith}
use Rattle.std.proofs.lemmas.List.{length-reverse, get_or-reverse}
use Rattle.std.specs.Prelude.{fold}
use Rattle.aat_buffer.specs.Buffer.{Buffer, reversed, without_positions, no_glyph}
use Rattle.aat_buffer.specs.Clusters.{ComesFrom}
use Rattle.aat_buffer.specs.facts.Cases.{chosen}
use Rattle.aat_buffer.specs.facts.Order.{comes_refl, comes_trans}
use Rattle.aat_machine_tables.specs.declared.morx.Coverage.{Coverage}
use Rattle.aat_machine_tables.specs.declared.morx.Subtable.{Subtable}
use Rattle.aat_glyph.specs.declared.glyph.hb_glyph_info_t.{hb_glyph_info_t}
use Rattle.aat_kinds.proofs.OrderOfKinds.{Rising, le_same, kept_kind, kept_concat}
use Rattle.aat_kinds.specs.Kinds.{Sizes, kind_run, reversed_run, is_reversed, ordered_run}
use Rattle.aat_map.specs.SwitchedChains.{SwitchedChain}
use Rattle.aat_morx.specs.Substitution.{is_skipped, subtable_run, chain_run, substituted, prepared}
use Rattle.aat_run.specs.Outcome.{Outcome, untouched, then_run}
use Rattle.aat_run.specs.Switches.{Switch}

-- a line read backwards has the clusters of the line
pub comes_of_reverse : (gs : List hb_glyph_info_t) → ComesFrom gs (reverse gs)
comes_of_reverse gs k low =
    let inside : k < length gs = omega (arith, low, length-reverse gs) in
    (length gs - 1 - k, omega (arith, inside), ap (λ (g : hb_glyph_info_t). g.cluster) (get_or-reverse gs k no_glyph inside))

-- a run in the order of a coverage
comes_of_ordered : (coverage : Coverage) (run : Buffer → Outcome) (b : Buffer)
    → ((d : Buffer) → ComesFrom d.line (run d).buffer.line) → ComesFrom b.line (ordered_run coverage run b).buffer.line
comes_of_ordered coverage run b each =
    let turned = comes_of_reverse b.line in
    let ran = each (reversed b) in
    let back = comes_of_reverse (run (reversed b)).buffer.line in
    chosen (λ (o : Outcome). ComesFrom b.line o.buffer.line) (is_reversed coverage b.direction) (reversed_run run b) (run b)
    (λ _. comes_trans b.line (reverse b.line) (reverse (run (reversed b)).buffer.line) turned (comes_trans (reverse b.line) (run (reversed b)).buffer.line (reverse (run (reversed b)).buffer.line) ran back))
    (λ _. each b)

pub comes_of_subtable : (z : Sizes) (switch : Switch) (s : Subtable) (b : Buffer) → 0 < z.slots → ComesFrom b.line (subtable_run z switch s b).buffer.line
unfolding subtable_run
comes_of_subtable z switch s b some =
    let on = switch.is_on s.feature_flags in
    chosen (λ (o : Outcome). ComesFrom b.line o.buffer.line) (is_skipped switch s b.direction) (untouched b) (ordered_run s.coverage (kind_run z on s.kind) b)
    (λ _. comes_refl b.line)
    (λ _. comes_of_ordered s.coverage (kind_run z on s.kind) b (λ d. (kept_kind Rising le_same z on s.kind d some).from))

-- runs one after another
comes_of_all : {X : Type 0} (run : X → Buffer → Outcome) (xs : List X) (o : Outcome) → ((x : X) (b : Buffer) → ComesFrom b.line (run x b).buffer.line)
    → ComesFrom o.buffer.line (fold (λ o x. then_run o (run x)) o xs).buffer.line
comes_of_all run [] o each = comes_refl o.buffer.line
comes_of_all run (x ∷ xs) o each =
    let here = each x o.buffer in
    let more = comes_of_all run xs (then_run o (run x)) each in
    comes_trans o.buffer.line (run x o.buffer).buffer.line (fold (λ o x. then_run o (run x)) (then_run o (run x)) xs).buffer.line here more

pub comes_of_prepared : (b : Buffer) → ComesFrom b.line (prepared b).line
comes_of_prepared b = (kept_concat Rising le_same (without_positions b)).from

pub substitution_comes : (z : Sizes) (chains : List SwitchedChain) (b : Buffer) → 0 < z.slots → ComesFrom b.line (substituted z chains b).buffer.line
substitution_comes z chains b some =
    let begun = comes_of_prepared b in
    comes_trans b.line (prepared b).line (substituted z chains b).buffer.line begun
    (comes_of_all (chain_run z) chains (untouched (prepared b))
    (λ c d. comes_of_all (subtable_run z c.switch) c.subtables (untouched d) (λ s x. comes_of_subtable z c.switch s x some)))
