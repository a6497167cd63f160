-- The rearrangement act does not look at the flags of the glyphs.
use Rattle.std.proofs.Common.{◌≡◌, ◌∙◌, ℕ, ◌+◌, ◌&&◌, length, min, ap}
use Rattle.aat_buffer.specs.Buffer.{Buffer}
use Rattle.aat_buffer.specs.Marks.{merge_clusters}
use Rattle.aat_kinds.specs.Rearrangement.{Entry, Registers, act, actionable, is_within, moved, rearranged, verb_of, with_marks}
use Rattle.aat_closing.specs.Unflagged.{IsBlind, erased, erased_left}
use Rattle.aat_closing.specs.facts.BlindBuffers.{blind_of, same_cursor, same_length, same_merge, same_span}
use Rattle.aat_closing.specs.facts.BlindLines.{bare_rearranged, same_choice}

module _ (a b : Buffer) (same : erased a ≡ erased b) where
  -- a span that is moved
  same_moved : (v : _) (r : Registers) → erased (moved v r a) ≡ erased (moved v r b)
  unfolding moved
  same_moved v r =
      let one : Buffer → Buffer = λ d. merge_clusters d r.start (min (d.cursor + 1) (length d.line)) in
      let there : min (a.cursor + 1) (length a.line) ≡ min (b.cursor + 1) (length b.line) = λ k. min (same_cursor a b same k + 1) (same_length a b same k) in
      let first : erased (one a) ≡ erased (one b) =
      ap (λ (n : ℕ). erased (merge_clusters a r.start n)) there ∙ same_merge a b same r.start (min (b.cursor + 1) (length b.line)) in
      let both : erased (merge_clusters (one a) r.start r.end) ≡ erased (merge_clusters (one b) r.start r.end) = same_merge (one a) (one b) first r.start r.end in
      same_span (merge_clusters (one a) r.start r.end) (merge_clusters (one b) r.start r.end) both (rearranged v) (bare_rearranged v) r.start r.end

  -- the span that is marked
  same_marks : (e : Entry) (r : Registers) → with_marks e r a.cursor (length a.line) ≡ with_marks e r b.cursor (length b.line)
  same_marks e r = λ k. with_marks e r (same_cursor a b same k) (same_length a b same k)

  -- the act
  same_act : (bound : ℕ) (e : Entry) (r : Registers) → erased_left (act bound e r a) ≡ erased_left (act bound e r b)
  unfolding act
  same_act bound e r =
      let s : Registers = with_marks e r a.cursor (length a.line) in
      let t : Registers = with_marks e r b.cursor (length b.line) in
      let test : (actionable e s a.cursor (length a.line) && is_within bound (verb_of e) s) ≡ (actionable e t b.cursor (length b.line) && is_within bound (verb_of e) t) =
      λ k. actionable e (same_marks e r k) (same_cursor a b same k) (same_length a b same k) && is_within bound (verb_of e) (same_marks e r k) in
      let span : erased (moved (verb_of e) s a) ≡ erased (moved (verb_of e) t b) = ap (λ (u : Registers). erased (moved (verb_of e) u a)) (same_marks e r) ∙ same_moved (verb_of e) t in
      let buffer =
      same_choice erased (actionable e s a.cursor (length a.line) && is_within bound (verb_of e) s) (actionable e t b.cursor (length b.line) && is_within bound (verb_of e) t) test
      (moved (verb_of e) s a) a (moved (verb_of e) t b) b span same in
      λ k. record { registers = same_marks e r k; buffer = buffer k }

pub rearrangement_is_blind : (bound : ℕ) → IsBlind (act bound)
rearrangement_is_blind bound = blind_of (act bound) (act bound) (λ e r a b same. same_act a b same bound e r)
