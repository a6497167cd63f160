-- A noncontextual subtable that is off at each cluster leaves the line as it is.
use Rattle.std.proofs.Common.{◌≡◌, ◌∙◌, ap, sym, refl, ℕ, Bool, false, List, [], ◌∷◌, length, Option}
use Rattle.aat_buffer.specs.Buffer.{Buffer, with_line}
use Rattle.aat_glyph.specs.declared.glyph.hb_glyph_info_t.{hb_glyph_info_t}
use Rattle.aat_machine_tables.specs.declared.morx.SubtableKind.{SubtableKind}
use Rattle.aat_machine_tables.specs.declared.morx.SubtableKind.TheVariants.{NonContextual}
use Rattle.aat_run.specs.Outcome.{Outcome}
use Rattle.aat_kinds.specs.Kinds.{Sizes, kind_run, noncontextual_run}
use Rattle.aat_kinds.specs.Values.{noncontextual}

line_stays : (on : ℕ → Bool) (classes : Option (List (ℕ × ℕ))) (lookup : List (ℕ × ℕ)) (line : List hb_glyph_info_t) → ((x : ℕ) → on x ≡ false) → line ≡ noncontextual on classes lookup line
line_stays on classes lookup [] nowhere = refl
line_stays on classes lookup (g ∷ line) nowhere =
    rw (nowhere g.cluster) (ap (λ (rest : List hb_glyph_info_t). g ∷ rest) (line_stays on classes lookup line nowhere))

-- so does its run, in a turn for each glyph
pub run_stays : (z : Sizes) (on : ℕ → Bool) (kind : SubtableKind) (lookup : List (ℕ × ℕ)) (b : Buffer) (turns : ℕ) → ((x : ℕ) → on x ≡ false)
    → kind ≡ NonContextual lookup → turns ≡ length b.line → ◌≡◌ {A = Outcome} (record { buffer = b; turns = turns }) (kind_run z on kind b)
unfolding noncontextual_run
run_stays z on kind lookup b turns nowhere is count =
    let line = line_stays on z.classes lookup b.line nowhere in
    let stays : ◌≡◌ {A = Outcome} (record { buffer = b; turns = turns }) (kind_run z on (NonContextual lookup) b) =
    λ i. record { buffer = with_line b (line i); turns = count i } in
    stays ∙ sym (ap (λ (k : SubtableKind). kind_run z on k b) is)
