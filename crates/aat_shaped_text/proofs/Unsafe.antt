-- One glyph more of a run of glyphs that share a cluster: it is another's, it is marked, or the run goes on.
use Rattle.std.proofs.Common.{◌≡◌, ◌≢◌, ◌∙◌, ap, sym, ℕ, suc, ◌+◌, ◌-◌, ◌<◌, ◌≤◌, Bool, true, false, List, ◌∷◌, drop, length, reverse, take, arith}
use Rattle.std.proofs.Math.Seq.{drop-cons}
use Rattle.std.specs.List.{list_any}
use Rattle.aat_buffer.specs.Buffer.{glyph_at, no_glyph}
use Rattle.aat_buffer.specs.Marks.{cluster_at}
use Rattle.aat_glyph.specs.declared.glyph.hb_glyph_info_t.{hb_glyph_info_t}
use Rattle.aat_shaped_text.specs.Breaks.{is_unsafe, run_from, run_up_to, shares_cluster}
use Rattle.aat_shaped_text.proofs.Runs.{marked_front, other_front, reversed_front, unmarked_front, unsafe_front}

-- from place i on, where glyph x stands at the front of what is left
module _ (line : List hb_glyph_info_t) (i : ℕ) (first x : hb_glyph_info_t) (at : first ≡ glyph_at line i) (all : Bool) (left rest : List hb_glyph_info_t)
    (so_far : all ≡ unsafe_front (shares_cluster line i) left) (front : left ≡ x ∷ rest)
  where
    by_front : all ≡ unsafe_front (shares_cluster line i) (x ∷ rest)
    by_front = so_far ∙ ap (unsafe_front (shares_cluster line i)) front

    same_cluster : x.cluster ≡ first.cluster → x.cluster ≡ cluster_at line i
    same_cluster same = same ∙ ap (λ (h : hb_glyph_info_t). h.cluster) at

    other_glyph : x.cluster ≢ first.cluster → false ≡ all
    other_glyph other = sym (by_front ∙ other_front line i x rest (λ e. other (e ∙ ap (λ (h : hb_glyph_info_t). h.cluster) (sym at))))

    marked_glyph : x.cluster ≡ first.cluster → (t : Bool) → t ≡ is_unsafe x → t ≡ true → true ≡ all
    marked_glyph same t asked marked = sym (by_front ∙ marked_front line i x rest (same_cluster same) (sym asked ∙ marked))

    unmarked_glyph : x.cluster ≡ first.cluster → (t : Bool) → t ≡ is_unsafe x → t ≡ false → all ≡ unsafe_front (shares_cluster line i) rest
    unmarked_glyph same t asked unmarked = by_front ∙ unmarked_front line i x rest (same_cluster same) (sym asked ∙ unmarked)

-- from a place on, towards the end
module _ (line : List hb_glyph_info_t) (i j : ℕ) (first x : hb_glyph_info_t) (at : first ≡ glyph_at line i) (low : j < length line) (read : x ≡ glyph_at line j)
    (so_far : list_any is_unsafe (run_from line i) ≡ unsafe_front (shares_cluster line i) (drop j line))
  where
    front_on : drop j line ≡ x ∷ drop (suc j) line
    front_on = drop-cons line j no_glyph low ∙ ap (λ (h : hb_glyph_info_t). h ∷ drop (suc j) line) (sym read)

    pub other_on : x.cluster ≢ first.cluster → false ≡ list_any is_unsafe (run_from line i)
    other_on = other_glyph line i first x at (list_any is_unsafe (run_from line i)) (drop j line) (drop (suc j) line) so_far front_on

    pub marked_on : x.cluster ≡ first.cluster → (t : Bool) → t ≡ is_unsafe x → t ≡ true → true ≡ list_any is_unsafe (run_from line i)
    marked_on = marked_glyph line i first x at (list_any is_unsafe (run_from line i)) (drop j line) (drop (suc j) line) so_far front_on

    pub unmarked_on : x.cluster ≡ first.cluster → (t : Bool) → t ≡ is_unsafe x → t ≡ false
        → list_any is_unsafe (run_from line i) ≡ unsafe_front (shares_cluster line i) (drop (j + 1) line)
    unmarked_on same t asked unmarked =
        let next : suc j ≡ j + 1 = omega arith in
        unmarked_glyph line i first x at (list_any is_unsafe (run_from line i)) (drop j line) (drop (suc j) line) so_far front_on same t asked unmarked
        ∙ ap (λ n. unsafe_front (shares_cluster line i) (drop n line)) next

-- before a place, towards the front
module _ (line : List hb_glyph_info_t) (e behind : ℕ) (first x : hb_glyph_info_t) (at : first ≡ glyph_at line (e - 1)) (below : behind < e) (within : e ≤ length line)
    (read : x ≡ glyph_at line (e - 1 - behind)) (so_far : list_any is_unsafe (run_up_to line (e - 1)) ≡ unsafe_front (shares_cluster line (e - 1)) (reverse (take (e - behind) line)))
  where
    front_back : reverse (take (e - behind) line) ≡ x ∷ reverse (take (e - 1 - behind) line)
    front_back =
        let long : e - behind ≡ suc (e - 1 - behind) = omega (arith, below) in
        ap (λ n. reverse (take n line)) long
        ∙ (reversed_front line (e - 1 - behind) (omega (arith, below, within)) ∙ ap (λ (h : hb_glyph_info_t). h ∷ reverse (take (e - 1 - behind) line)) (sym read))

    pub other_back : x.cluster ≢ first.cluster → false ≡ list_any is_unsafe (run_up_to line (e - 1))
    other_back =
        other_glyph line (e - 1) first x at (list_any is_unsafe (run_up_to line (e - 1))) (reverse (take (e - behind) line)) (reverse (take (e - 1 - behind) line)) so_far front_back

    pub marked_back : x.cluster ≡ first.cluster → (t : Bool) → t ≡ is_unsafe x → t ≡ true → true ≡ list_any is_unsafe (run_up_to line (e - 1))
    marked_back =
        marked_glyph line (e - 1) first x at (list_any is_unsafe (run_up_to line (e - 1))) (reverse (take (e - behind) line)) (reverse (take (e - 1 - behind) line)) so_far front_back

    pub unmarked_back : x.cluster ≡ first.cluster → (t : Bool) → t ≡ is_unsafe x → t ≡ false
        → list_any is_unsafe (run_up_to line (e - 1)) ≡ unsafe_front (shares_cluster line (e - 1)) (reverse (take (e - (behind + 1)) line))
    unmarked_back same t asked unmarked =
        let next : e - 1 - behind ≡ e - (behind + 1) = omega arith in
        unmarked_glyph line (e - 1) first x at (list_any is_unsafe (run_up_to line (e - 1))) (reverse (take (e - behind) line)) (reverse (take (e - 1 - behind) line)) so_far front_back
        same t asked unmarked
        ∙ ap (λ n. unsafe_front (shares_cluster line (e - 1)) (reverse (take n line))) next
