-- Rearrangement permutes its span.
use Rattle.std.proofs.Common.{◌≡◌, ◌+◌, ◌-◌, ◌<◌, ◌≤◌, min, List, ◌++◌, length, take, drop, ◌∙◌, arith, append_assoc}
use Rattle.std.proofs.lemmas.List.Sorted.{IsPermutation-refl, IsPermutation-trans, IsPermutation-append, IsPermutation-append_comm, IsPermutation-append_left, IsPermutation-append_right, IsPermutation-reverse, IsPermutation-map}
use Rattle.std.specs.Prelude.{slice_range, IsPermutation, ℕ}
use Rattle.aat_buffer.specs.Buffer.{Buffer}
use Rattle.aat_buffer.specs.Marks.{on_span, merge_clusters}
use Rattle.aat_glyph.specs.declared.glyph.hb_glyph_info_t.{hb_glyph_info_t}
use Rattle.aat_buffer.specs.Clusters.{ids}
use Rattle.aat_kinds.specs.declared.verb.Part.{Part}
use Rattle.aat_kinds.specs.declared.verb.Part.TheVariants.{Nothing, One, Two, TwoTurned}
use Rattle.aat_kinds.specs.declared.verb.Verb.{Verb}
use Rattle.aat_kinds.specs.Rearrangement.{Entry, Registers, IsFit, act, moved, rearranged, size_of, in_its_order}
use Rattle.aat_buffer.specs.facts.Clusters.{three_parts}
use Rattle.aat_buffer.specs.facts.Lines.{length_merge, length_slice}
use Rattle.aat_kinds.specs.facts.RearrangementLaws.{of_act}
use Rattle.aat_buffer.specs.facts.Ids.{ids_of_merge}

put_down_permutes : {X : Type 0} (p : Part) (xs : List X) → IsPermutation xs (in_its_order p xs)
put_down_permutes Nothing xs = IsPermutation-refl xs
put_down_permutes One xs = IsPermutation-refl xs
put_down_permutes Two xs = IsPermutation-refl xs
put_down_permutes TwoTurned xs = IsPermutation-reverse xs

-- A ++ x ++ D and D' ++ x ++ A'
pub rearranged_permutes : {X : Type 0} (v : Verb) (xs : List X) → size_of v.front + size_of v.back ≤ length xs → IsPermutation xs (rearranged v xs)
unfolding rearranged
rearranged_permutes v xs room =
    let left = size_of v.front in
    let right = length xs - size_of v.back in
    let a = take left xs in
    let m = slice_range xs left right in
    let d = drop right xs in
    let parts : a ++ (m ++ d) ≡ xs = three_parts left right xs (omega arith) in
    let turned = IsPermutation-trans (a ++ (m ++ d)) ((m ++ d) ++ a) ((d ++ m) ++ a) (IsPermutation-append_comm a (m ++ d)) (IsPermutation-append_left a (m ++ d) (d ++ m) (IsPermutation-append_comm m d)) in
    let put = IsPermutation-append d (in_its_order v.back d) (m ++ a) (m ++ in_its_order v.front a) (put_down_permutes v.back d) (IsPermutation-append_right m a (in_its_order v.front a) (put_down_permutes v.front a)) in
    rw parts at (IsPermutation-trans (a ++ (m ++ d)) ((d ++ m) ++ a) (in_its_order v.back d ++ (m ++ in_its_order v.front a)) turned (rw append_assoc put))

-- a span that a function permutes
pub span_permutes : (f : List hb_glyph_info_t → List hb_glyph_info_t) (i j : ℕ) (gs : List hb_glyph_info_t) → i ≤ j → IsPermutation (slice_range gs i j) (f (slice_range gs i j)) → IsPermutation gs (on_span f i j gs)
span_permutes f i j gs low permutes =
    let a = take i gs in
    let s = slice_range gs i j in
    let d = drop j gs in
    rw (three_parts i j gs low) at (IsPermutation-append_right a (s ++ d) (f s ++ d) (IsPermutation-append_left d s (f s) permutes))

moved_permutes : (v : Verb) (r : Registers) (b : Buffer) → size_of v.front + size_of v.back ≤ r.end - r.start → r.start < r.end → r.end ≤ length b.line → IsPermutation (ids b.line) (ids (moved v r b).line)
unfolding moved
moved_permutes v r b room some within =
    let one = merge_clusters b r.start (min (b.cursor + 1) (length b.line)) in
    let two = merge_clusters one r.start r.end in
    let long : length two.line ≡ length b.line = length_merge one r.start r.end ∙ length_merge b r.start (min (b.cursor + 1) (length b.line)) in
    let span : length (slice_range two.line r.start r.end) ≡ r.end - r.start = length_slice r.start r.end two.line (omega arith) (omega (arith, long)) in
    let before : ids two.line ≡ ids b.line = ids_of_merge one r.start r.end ∙ ids_of_merge b r.start (min (b.cursor + 1) (length b.line)) in
    rw before at (IsPermutation-map (λ (g : hb_glyph_info_t). g.glyph_id) two.line (on_span (rearranged v) r.start r.end two.line)
    (span_permutes (rearranged v) r.start r.end two.line (omega arith) (rearranged_permutes v (slice_range two.line r.start r.end) (omega (arith, span)))))

-- rearrangement permutes the glyph ids of the line
pub act_permutes : (bound : ℕ) (e : Entry) (r : Registers) (b : Buffer) → IsFit r b.cursor (length b.line) → IsPermutation (ids b.line) (ids (act bound e r b).buffer.line)
act_permutes bound e r b fit =
    of_act bound (λ d. IsPermutation (ids b.line) (ids d.line)) e r b fit (IsPermutation-refl (ids b.line)) (λ v s room some within. moved_permutes v s b room some within)
