-- The removal, as far as it has come.
use Rattle.std.proofs.Common.{◌≡◌, ◌∙◌, sym, ap, subst, refl, ℕ, zero, suc, ◌+◌, ◌-◌, ◌<◌, ◌≤◌, Bool, true, false, Option, Some, None, List, length, take, drop, arith}
use Rattle.std.proofs.lemmas.List.{length-take-le, drop-drop, drop_all, append-nil}
use Rattle.std.proofs.lemmas.List.Edits.{remove-append_right}
use Rattle.std.specs.List.{remove}
use Rattle.std.specs.Prelude.{is_some, option_map, IfSome, vec_len, if◌then◌else◌}
use Rattle.std.specs.Bool.{OnTrue, OnFalse}
use Rattle.std.specs.declared.vec.Vec.{Vec}
use Rattle.aat_glyph.specs.declared.glyph.hb_glyph_info_t.{hb_glyph_info_t}
use Rattle.aat_glyph.specs.declared.glyph.GlyphPosition.{GlyphPosition}
use Rattle.aat_buffer.specs.Buffer.{Buffer, glyph_at, without_positions, with_cursor, with_positions}
use Rattle.aat_buffer.specs.Clusters.{KeepsOrder}
use Rattle.aat_buffer.specs.inside.Carried.{carried, items_of}
use Rattle.aat_buffer.specs.inside.Pending.{IsPending, shown}
use Rattle.aat_buffer.proofs.RemovedOrder.{order_none}
use Rattle.aat_buffer.proofs.Steps.{shown_none, pending_none}
use Rattle.aat_buffer.specs.Removal.{removal, removal_step, without_glyph_at_cursor, with_cluster_kept}

-- a position that is not carried down
pub carried_gone : {X : Type 0} (qs : List X) (p i : ℕ) → p ≤ i → i < length qs → carried p (i + 1) qs ≡ remove (carried p i qs) p
carried_gone qs p i le lt =
    let n : length (take p qs) ≡ p = length-take-le p qs (omega arith) in
    let same : p - p ≡ 0 = omega arith in
    sym (remove-append_right (take p qs) (drop i qs) p p n (omega arith) ∙ rw (same, drop-drop) refl)

-- the buffer with the positions that were taken out of it, of which those behind the kept ones up to place i are used
-- up
abbrev pub with_carried : Buffer → ℕ → Option (List GlyphPosition) → Buffer
with_carried b i ps = record b { positions = option_map (carried b.cursor i) ps }

-- i of n turns were made, from start to now with k pending runs that end at place l, by each test that is met
pub record IsRemoving {Z : Type 0} (Met : (hb_glyph_info_t → Bool) → Type 0) (start now : Buffer) (ps : Option (Vec GlyphPosition Z)) (i n k l : ℕ) : Type 0 where
  pub ends : (test : hb_glyph_info_t → Bool) → Met test → removal (n - i) test (with_carried (shown k l now) i (items_of ps)) ≡ removal n test start
  pub pending : IsPending now k l
  pub rest : length now.line + i ≡ n + now.cursor
  pub behind : now.cursor ≤ i
  pub placed : IfSome ps (λ qs. vec_len qs ≡ n)
  pub bare : now.positions ≡ None
  pub standing : is_some ps ≡ is_some start.positions
  pub order : KeepsOrder start.line (shown k l now).line

removal_more : (test : hb_glyph_info_t → Bool) (b : Buffer) (i n : ℕ) → i < n → removal (n - i) test b ≡ removal (n - (i + 1)) test (removal_step test b)
unfolding removal
removal_more test b i n lt =
    let m : ℕ = n - (i + 1) in
    let s : n - i ≡ suc m = omega arith in
    ap (λ k. removal k test b) s

pub removal_none : (test : hb_glyph_info_t → Bool) (b : Buffer) (n : ℕ) → removal (n - n) test b ≡ b
unfolding removal
removal_none test b n = let s : n - n ≡ zero = omega arith in ap (λ k. removal k test b) s

-- what a step leaves, with the positions carried along
step_carried : (test : hb_glyph_info_t → Bool) (now new : Buffer) (ps ps' : Option (List GlyphPosition)) (goes : Bool) (i : ℕ)
    → test (glyph_at now.line now.cursor) ≡ goes
    → without_positions new ≡ without_positions (removal_step (λ _. goes) now)
    → OnTrue goes (option_map (carried now.cursor (i + 1)) ps' ≡ option_map (λ qs. remove qs now.cursor) (option_map (carried now.cursor i) ps))
    → OnFalse goes (option_map (carried (now.cursor + 1) (i + 1)) ps' ≡ option_map (carried now.cursor i) ps)
    → with_carried new (i + 1) ps' ≡ removal_step test (with_carried now i ps)
step_carried test now new ps ps' true i asked after gone stays =
    let b = with_carried now i ps in
    ap (λ (t : Buffer). with_carried t (i + 1) ps') after
    ∙ ap (λ (qs : Option (List GlyphPosition)). record (without_glyph_at_cursor (with_cluster_kept now)) { positions = qs }) gone
    ∙ ap (λ (goes : Bool). if goes then without_glyph_at_cursor (with_cluster_kept b) else with_cursor b (b.cursor + 1)) (sym asked)
step_carried test now new ps ps' false i asked after gone stays =
    let b = with_carried now i ps in
    ap (λ (t : Buffer). with_carried t (i + 1) ps') after
    ∙ ap (λ (qs : Option (List GlyphPosition)). record (with_cursor now (now.cursor + 1)) { positions = qs }) stays
    ∙ ap (λ (goes : Bool). if goes then without_glyph_at_cursor (with_cluster_kept b) else with_cursor b (b.cursor + 1)) (sym asked)

pub removing_more : {Z : Type 0} (Met : (hb_glyph_info_t → Bool) → Type 0) (start now new : Buffer) (ps ps' : Option (Vec GlyphPosition Z)) (goes : Bool) (p i n : ℕ)
    → i < n
    → p ≡ now.cursor
    → ((test : hb_glyph_info_t → Bool) → Met test → test (glyph_at now.line p) ≡ goes)
    → without_positions new ≡ without_positions (removal_step (λ _. goes) now)
    → OnTrue goes (option_map (carried p (i + 1)) (items_of ps') ≡ option_map (λ qs. remove qs p) (option_map (carried p i) (items_of ps)))
    → OnFalse goes (option_map (carried (p + 1) (i + 1)) (items_of ps') ≡ option_map (carried p i) (items_of ps))
    → ((test : hb_glyph_info_t → Bool) → Met test → removal (n - i) test (with_carried now i (items_of ps)) ≡ removal n test start)
    → (test : hb_glyph_info_t → Bool) → Met test → removal (n - (i + 1)) test (with_carried new (i + 1) (items_of ps')) ≡ removal n test start
removing_more Met start now new ps ps' goes p i n lt place asked after gone stays was test met =
    ap (removal (n - (i + 1)) test) (step_carried test now new (items_of ps) (items_of ps') goes i (ap (λ k. test (glyph_at now.line k)) (sym place) ∙ asked test met) after (rw place at gone) (rw place at stays))
    ∙ sym (removal_more test (with_carried now i (items_of ps)) i n lt)
    ∙ was test met

-- before the first turn
pub removing_none : {Z : Type 0} (Met : (hb_glyph_info_t → Bool) → Type 0) (start now : Buffer) (ps : Option (Vec GlyphPosition Z)) (n : ℕ) → now ≡ without_positions start → start.cursor ≡ 0 → length start.line ≡ n → n ≤ 0x3FFFFFFF → items_of ps ≡ start.positions → IfSome ps (λ qs. vec_len qs ≡ n) → IsRemoving Met start now ps 0 n 0 0
removing_none Met start now ps n is at count small held placed =
    let all : n ≡ n - 0 = omega arith in
    let cursor : now.cursor ≡ 0 = ap (λ (b : Buffer). b.cursor) is ∙ at in
    let line : length now.line ≡ n = ap (λ (b : Buffer). length b.line) is ∙ count in
    record {
      ends = λ test met.
          ap (λ m. removal m test (with_carried (shown 0 0 now) 0 (items_of ps))) (sym all)
          ∙ ap (λ (b : Buffer). removal n test (with_carried b 0 (items_of ps))) (shown_none now 0 0 refl ∙ is)
          ∙ ap (λ p. removal n test (record start { positions = option_map (carried p 0) (items_of ps) })) at
          ∙ ap (λ (qs : Option (List GlyphPosition)). removal n test (record start { positions = qs })) (carried_none (items_of ps) ∙ held);
      pending = pending_none now (omega (arith, cursor)) (omega (arith, line, small));
      rest = omega (arith, line, cursor);
      behind = omega (arith, cursor);
      placed = placed;
      bare = ap (λ (b : Buffer). b.positions) is;
      standing = some_items ps ∙ ap is_some held;
      order = order_none start (shown 0 0 now) (shown_none now 0 0 refl ∙ is);
    }
  where
    carried_none : (o : Option (List GlyphPosition)) → option_map (carried 0 0) o ≡ o
    carried_none None = refl
    carried_none (Some qs) = refl

    some_items : {Z : Type 0} (o : Option (Vec GlyphPosition Z)) → is_some o ≡ is_some (items_of o)
    some_items None = refl
    some_items (Some qs) = refl

-- what is left once all n turns were made
pub removing_done : {Z : Type 0} (Met : (hb_glyph_info_t → Bool) → Type 0) (start now : Buffer) (ps : Option (Vec GlyphPosition Z)) (i n k l : ℕ) → i ≡ n → IsRemoving Met start now ps i n k l → (test : hb_glyph_info_t → Bool) → Met test → with_carried (shown k l now) n (items_of ps) ≡ removal n test start
removing_done Met start now ps i n k l e was test met =
    sym (removal_none test (with_carried (shown k l now) n (items_of ps)) n)
    ∙ ap (λ m. removal (n - m) test (with_carried (shown k l now) m (items_of ps))) (sym e)
    ∙ was.ends test met

-- with nothing behind place i, the positions carried down are the first ones
pub carried_all : {X : Type 0} (qs : List X) (p n : ℕ) → length qs ≤ n → carried p n qs ≡ take p qs
carried_all qs p n le = rw (drop_all n qs le) (append-nil (take p qs))

pub finished_some : {Z : Type 0} (Met : (hb_glyph_info_t → Bool) → Type 0) (start now new : Buffer) (ps : Option (Vec GlyphPosition Z)) (qs : Vec GlyphPosition Z) (i n k l p : ℕ)
    → i ≡ n → p ≡ now.cursor → ps ≡ Some qs → IsRemoving Met start now ps i n k l
    → new ≡ with_positions (with_cursor (shown k l now) 0) (take p qs.items)
    → (test : hb_glyph_info_t → Bool) → Met test → new ≡ with_cursor (removal n test start) 0
finished_some {Z} Met start now new ps qs i n k l p e place is was wrote test met =
    let here : IsRemoving Met start now (Some qs) i n k l = subst (λ (o : Option (Vec GlyphPosition Z)). IsRemoving Met start now o i n k l) is was in
    let all : carried now.cursor n qs.items ≡ take now.cursor qs.items = carried_all qs.items now.cursor n (omega (arith, here.placed, qs.ok)) in
    wrote
    ∙ ap (λ j. with_positions (with_cursor (shown k l now) 0) (take j qs.items)) place
    ∙ ap (with_positions (with_cursor (shown k l now) 0)) (sym all)
    ∙ ap (λ (t : Buffer). with_cursor t 0) (removing_done Met start now (Some qs) i n k l e here test met)

pub finished_none : {Z : Type 0} (Met : (hb_glyph_info_t → Bool) → Type 0) (start now new : Buffer) (ps : Option (Vec GlyphPosition Z)) (i n k l : ℕ)
    → i ≡ n → ps ≡ None → IsRemoving Met start now ps i n k l
    → new ≡ with_cursor (shown k l now) 0
    → (test : hb_glyph_info_t → Bool) → Met test → new ≡ with_cursor (removal n test start) 0
finished_none {Z} Met start now new ps i n k l e is was wrote test met =
    let here : IsRemoving Met start now None i n k l = subst (λ (o : Option (Vec GlyphPosition Z)). IsRemoving Met start now o i n k l) is was in
    wrote
    ∙ ap (λ (qs : Option (List GlyphPosition)). with_cursor (record (shown k l now) { positions = qs }) 0) was.bare
    ∙ ap (λ (t : Buffer). with_cursor t 0) (removing_done {Z = Z} Met start now None i n k l e here test met)
