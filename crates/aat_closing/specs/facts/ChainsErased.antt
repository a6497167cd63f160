-- What the closing runs of chains leave, but for the flags of the glyphs: what substitution leaves.
use Rattle.std.proofs.Common.{◌≡◌, ◌∙◌, ◌&&◌, Bool, true, false, cond, length, min, nat_lt, refl, ap, sym, arith}
use Rattle.std.proofs.lemmas.Nat.{and_or_apart}
use Rattle.aat_buffer.specs.Buffer.{Buffer, with_line, without_positions}
use Rattle.aat_buffer.specs.Marks.{concat_marked, on_span, produces_concat, with_mask_bits}
use Rattle.aat_buffer.specs.facts.Clusters.{map_span}
use Rattle.aat_glyph.specs.declared.glyph.hb_glyph_info_t.{hb_glyph_info_t}
use Rattle.aat_machine_tables.specs.declared.morx.Subtable.{Subtable}
use Rattle.aat_run.specs.Outcome.{untouched}
use Rattle.aat_run.specs.Switches.{Switch}
use Rattle.aat_map.specs.SwitchedChains.{SwitchedChain}
use Rattle.aat_kinds.specs.Kinds.{Sizes, kind_run, ordered_run}
use Rattle.aat_morx.specs.Substitution.{chain_run, is_skipped, prepared, subtable_run}
use Rattle.aat_closing.specs.ClosingChains.{closing_chain, closing_subtable}
use Rattle.aat_closing.specs.ClosingRuns.{closing_ordered, nothing_run}
use Rattle.aat_closing.specs.Unflagged.{ChainsFlagAlone, IsBlindTold, SameButFlags, ToldAlike, bare, unflagged}
use Rattle.aat_closing.specs.facts.ErasedLists.{in_order_alike, ordered_alike}

-- the mark against joining is no more than a flag
bare_concat : (g : hb_glyph_info_t) → unflagged (with_mask_bits 2 g) ≡ unflagged g
bare_concat g = λ i. record g { mask = and_or_apart 0xFFFFFFF8 g.mask 2 refl i }

bare_prepared : (b : Buffer) → bare (prepared b).line ≡ bare b.line
bare_prepared b = by_test (produces_concat b.flags && nat_lt 0 (min (length b.line) (length b.line)))
  where
    by_test : (t : Bool) → bare (cond t (on_span concat_marked 0 (min (length b.line) (length b.line)) b.line) b.line) ≡ bare b.line
    by_test true = map_span unflagged (with_mask_bits 2) bare_concat 0 (min (length b.line) (length b.line)) b.line (omega arith)
    by_test false = refl

prepared_alike : (a b : Buffer) → SameButFlags a b → SameButFlags (prepared a) (prepared b)
prepared_alike a b same = record {
  line = bare_prepared a ∙ (same.line ∙ sym (bare_prepared b));
  rest = ap (λ (d : Buffer). with_line (without_positions d) (prepared a).line) same.rest;
}

pub subtable_alike : (z : Sizes) (switch : Switch) (s : Subtable) → IsBlindTold (closing_subtable z switch s) (subtable_run z switch s)
unfolding closing_subtable subtable_run
subtable_alike z switch s a b same =
    by_test (is_skipped switch s a.direction) (is_skipped switch s b.direction) (ap (λ (d : Buffer). is_skipped switch s d.direction) same.rest)
  where
    by_test : (t u : Bool) → t ≡ u
        → ToldAlike (cond t (nothing_run a) (closing_ordered z (switch.is_on s.feature_flags) s.coverage s.kind a)) (cond u (untouched b) (ordered_run s.coverage (kind_run z (switch.is_on s.feature_flags) s.kind) b))
    by_test true true e = record { buffer = same; turns = refl }
    by_test false false e = ordered_alike z (switch.is_on s.feature_flags) s.coverage s.kind a b same
    by_test true false e = absurd (cc)
    by_test false true e = absurd (cc)

chain_alike : (z : Sizes) (c : SwitchedChain) → IsBlindTold (closing_chain z c) (chain_run z c)
chain_alike z c = in_order_alike (closing_subtable z c.switch) (subtable_run z c.switch) (subtable_alike z c.switch) c.subtables

pub chains_alike : ChainsFlagAlone
chains_alike z chains a b same = in_order_alike (closing_chain z) (chain_run z) (chain_alike z) chains (prepared a) (prepared b) (prepared_alike a b same)
