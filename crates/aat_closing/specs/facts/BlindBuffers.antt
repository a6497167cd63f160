-- Buffers that are one but for the flags of their glyphs, under marks, merges and other changes.
use Rattle.std.proofs.Common.{◌≡◌, ◌∙◌, ℕ, ◌+◌, ◌&&◌, not, Bool, true, false, cond, List, length, min, nat_le, Option, Some, refl, ap, sym, arith}
use Rattle.std.proofs.lemmas.Bool.Decides.{nat_tests}
use Rattle.aat_buffer.specs.Buffer.{Buffer, glyph_at, reversed, with_line}
use Rattle.aat_buffer.specs.Marks.{break_marked, clusters_stay_apart, end_place, merge_clusters, merge_out_clusters, merged, merged_out, on_line_span, on_span, start_place, unsafe_to_break}
use Rattle.aat_glyph.specs.declared.glyph.hb_glyph_info_t.{hb_glyph_info_t}
use Rattle.aat_run.specs.Context.{Moved}
use Rattle.aat_closing.specs.Closing.{closed_from, closing}
use Rattle.aat_closing.specs.Unflagged.{AreBlind, IsBlind, SameButFlags, bare, erased, erased_left}
use Rattle.aat_closing.specs.facts.BlindLines.{bare_at, bare_length, bare_long, bare_marked, bare_merged, bare_merged_out, bare_reverse, bare_span}

-- without their flags they are one
pub erased_of : (a b : Buffer) → SameButFlags a b → erased a ≡ erased b
erased_of a b same = λ k. with_line (same.rest k) (same.line k)

pub same_of : (a b : Buffer) → erased a ≡ erased b → SameButFlags a b
same_of a b same = record { line = λ k. (same k).line; rest = λ k. with_line (same k) a.line }

-- so is what acts leave of them
pub blind_of : {R E : Type 0} (act other : E → R → Buffer → Moved R)
    → ((e : E) (r : R) (a b : Buffer) → erased a ≡ erased b → erased_left (act e r a) ≡ erased_left (other e r b)) → AreBlind act other
blind_of {R} {E} act other alike e r a b same =
    let left : erased_left (act e r a) ≡ erased_left (other e r b) = alike e r a b (erased_of a b same) in
    ((λ k. (left k).registers), same_of (act e r a).buffer (other e r b).buffer (λ k. (left k).buffer))

pub left_of : {R E : Type 0} (act other : E → R → Buffer → Moved R) → AreBlind act other
    → (e : E) (r : R) (a b : Buffer) → erased a ≡ erased b → erased_left (act e r a) ≡ erased_left (other e r b)
left_of {R} {E} act other blind e r a b same =
    let left = blind e r a b (same_of a b same) in
    let buffer : erased (act e r a).buffer ≡ erased (other e r b).buffer = erased_of (act e r a).buffer (other e r b).buffer left.1 in
    λ k. record { registers = left.0 k; buffer = buffer k }

-- marks are no more than flags
pub erased_unsafe : (b : Buffer) (i j : Option ℕ) → erased (unsafe_to_break b i j) ≡ erased b
erased_unsafe b i j = ap (with_line b) (bare_long (start_place i) (end_place j (length b.line)) b.line)

-- a merge, which at the level CHARACTERS marks, does no more than this
abbrev quiet : ℕ → ℕ → Buffer → Buffer
quiet i j b =
    let e : ℕ = min j (length b.line) in
    with_line b (cond (nat_le (i + 2) e) (cond (clusters_stay_apart b.cluster_level) b.line (merged b.line b.cursor i e)) b.line)

erased_merge : (b : Buffer) (i j : ℕ) → erased (merge_clusters b i j) ≡ quiet i j (erased b)
erased_merge b i j =
    ap (with_line b)
    (by_length (nat_le (i + 2) (min j (length b.line))) (clusters_stay_apart b.cluster_level) refl
    ∙ ap (λ (n : ℕ). cond (nat_le (i + 2) (min j n)) (cond (clusters_stay_apart b.cluster_level) (bare b.line) (merged (bare b.line) b.cursor i (min j n))) (bare b.line)) (sym (bare_length b.line)))
  where
    by_length : (t u : Bool) → nat_le (i + 2) (min j (length b.line)) ≡ t
        → bare (cond t (cond u (on_span break_marked i (min j (length b.line)) b.line) (merged b.line b.cursor i (min j (length b.line)))) b.line)
        ≡ cond t (cond u (bare b.line) (merged (bare b.line) b.cursor i (min j (length b.line)))) (bare b.line)
    by_length true true is = bare_marked i (min j (length b.line)) b.line (grind (arith, nat_tests, is))
    by_length true false is = bare_merged b.line i (min j (length b.line)) b.cursor
    by_length false u is = refl

pub erased_merge_out : (b : Buffer) (i j : ℕ) → erased (merge_out_clusters b i j) ≡ merge_out_clusters (erased b) i j
erased_merge_out b i j =
    ap (with_line b)
    (by_test (nat_le (i + 2) (min j (length b.line)) && not (clusters_stay_apart b.cluster_level))
    ∙ ap (λ (n : ℕ). cond (nat_le (i + 2) (min j n) && not (clusters_stay_apart b.cluster_level)) (merged_out (bare b.line) i (min j n)) (bare b.line)) (sym (bare_length b.line)))
  where
    by_test : (t : Bool) → bare (cond t (merged_out b.line i (min j (length b.line))) b.line) ≡ cond t (merged_out (bare b.line) i (min j (length b.line))) (bare b.line)
    by_test true = bare_merged_out b.line i (min j (length b.line))
    by_test false = refl

-- a line in the opposite order
pub erased_reversed : (b : Buffer) → erased (reversed b) ≡ reversed (erased b)
erased_reversed b = λ k. record (reversed b) { line = bare_reverse b.line k }

module _ (a b : Buffer) (same : erased a ≡ erased b) where
  -- what is the same of them
  pub same_length : length a.line ≡ length b.line
  same_length = sym (bare_length a.line) ∙ (ap (λ (d : Buffer). length d.line) same ∙ bare_length b.line)

  pub same_cursor : a.cursor ≡ b.cursor
  same_cursor = λ k. (same k).cursor

  pub same_id : (i : ℕ) → (glyph_at a.line i).glyph_id ≡ (glyph_at b.line i).glyph_id
  same_id i =
      let id : hb_glyph_info_t → ℕ = λ g. g.glyph_id in
      sym (ap id (bare_at a.line i)) ∙ (ap (λ (d : Buffer). (glyph_at d.line i).glyph_id) same ∙ ap id (bare_at b.line i))

  -- marks on both, wherever they stand
  pub same_unsafe : (i j k l : Option ℕ) → erased (unsafe_to_break a i j) ≡ erased (unsafe_to_break b k l)
  same_unsafe i j k l = erased_unsafe a i j ∙ (same ∙ sym (erased_unsafe b k l))

  -- merges, and a changed span
  pub same_merge : (i j : ℕ) → erased (merge_clusters a i j) ≡ erased (merge_clusters b i j)
  same_merge i j = erased_merge a i j ∙ (ap (quiet i j) same ∙ sym (erased_merge b i j))

  pub same_span : (f : List hb_glyph_info_t → List hb_glyph_info_t) → ((xs : List hb_glyph_info_t) → bare (f xs) ≡ f (bare xs)) → (i j : ℕ) → erased (on_line_span f i j a) ≡ erased (on_line_span f i j b)
  same_span f blind i j =
      ap (with_line a) (bare_span f blind i j a.line) ∙ (ap (on_line_span f i j) same ∙ sym (ap (with_line b) (bare_span f blind i j b.line)))

-- an act that closes places first leaves the same as the act
pub closing_is_blind : {R E : Type 0} (from : E → R → Buffer → ℕ) (act : E → R → Buffer → Moved R) → IsBlind act → AreBlind (closing from act) act
closing_is_blind {R} {E} from act blind e r a b same =
    let closed : Buffer = closed_from (from e r a) a in
    blind e r closed b (same_of closed b (erased_unsafe a (Some (from e r a)) (Some (a.cursor + 1)) ∙ erased_of a b same))
