-- Lines that are one but for their masks, of which the second one has UNSAFE_TO_BREAK only where the first one has it.
use Rattle.std.proofs.Common.{◌≡◌, ◌∙◌, ℕ, zero, suc, ◌+◌, ◌-◌, ◌==◌, ◌&&◌, not, Bool, true, false, cond, List, [], ◌∷◌, ◌++◌, length, map, take, drop, min, fold, nat_le, nat_lt, Option, Some, find, reverse, refl, ap, subst, sym, take-append-drop}
use Rattle.std.proofs.lemmas.List.{reverse-append}
use Rattle.std.proofs.lemmas.Option.{same_Some}
use Rattle.std.specs.Prelude.{slice_range, unwrap_or}
use Rattle.aat_buffer.specs.Buffer.{Buffer, glyph_at, with_line}
use Rattle.aat_buffer.specs.Marks.{break_marked, cluster_at, end_place, least_of, marked_above, on_long_span, on_span, start_place, unsafe_to_break, with_mask_bits}
use Rattle.aat_lookup.specs.declared.glyph_id.GlyphId.{GlyphId}
use Rattle.aat_glyph.specs.declared.glyph.hb_glyph_info_t.{hb_glyph_info_t}
use Rattle.aat_kinds.specs.Insertion.{copies, inserted}
use Rattle.aat_run.specs.Context.{class_at, cluster_seen, is_at_end, is_inside}
use Rattle.aat_cut_kinds.specs.Greater.{IsUnflagged}
use Rattle.aat_cut_kinds.specs.facts.Flags.{IsCalm, calm_unsafe, flagged}
use Rattle.aat_cut_kinds.specs.facts.MarksOnly.{of_unsafe}
use Rattle.aat_cut_kinds.specs.Cuts.{IsUnflaggedFrom, unmasked}

-- a glyph that is g but for its mask, and is without the flag where g is
pub record IsBarer (g h : hb_glyph_info_t) : Type 0 where
  pub same : unmasked g ≡ unmasked h
  pub calm : IsUnflagged g → IsUnflagged h

-- glyph by glyph
abbrev pub AreBarer : List hb_glyph_info_t → List hb_glyph_info_t → Type 0
AreBarer [] [] = Unit {0}
AreBarer [] (h ∷ hs) = ⊥
AreBarer (g ∷ gs) [] = ⊥
AreBarer (g ∷ gs) (h ∷ hs) = IsBarer g h × AreBarer gs hs

-- the clusters are the same
cluster_of : (g h : hb_glyph_info_t) → IsBarer g h → g.cluster ≡ h.cluster
cluster_of g h k = ap (λ (x : hb_glyph_info_t). x.cluster) k.same

pub barer_itself : (gs : List hb_glyph_info_t) → AreBarer gs gs
barer_itself [] = tt
barer_itself (g ∷ gs) = (record { same = refl; calm = λ none. none }, barer_itself gs)

-- so is the length
pub barer_long : (gs hs : List hb_glyph_info_t) → AreBarer gs hs → length gs ≡ length hs
barer_long [] [] k = refl
barer_long [] (h ∷ hs) k = absurd k
barer_long (g ∷ gs) [] k = absurd k
barer_long (g ∷ gs) (h ∷ hs) k = ap suc (barer_long gs hs k.1)

-- the glyphs at a place
barer_at : (gs hs : List hb_glyph_info_t) (i : ℕ) → AreBarer gs hs → IsBarer (glyph_at gs i) (glyph_at hs i)
barer_at [] [] i k = record { same = refl; calm = λ none. none }
barer_at [] (h ∷ hs) i k = absurd k
barer_at (g ∷ gs) [] i k = absurd k
barer_at (g ∷ gs) (h ∷ hs) zero k = k.0
barer_at (g ∷ gs) (h ∷ hs) (suc i) k = barer_at gs hs i k.1

-- a line that is barer than a barer one
pub barer_then : (gs hs ks : List hb_glyph_info_t) → AreBarer gs hs → AreBarer hs ks → AreBarer gs ks
barer_then [] [] [] k l = tt
barer_then [] [] (x ∷ xs) k l = absurd l
barer_then [] (h ∷ hs) ks k l = absurd k
barer_then (g ∷ gs) [] ks k l = absurd k
barer_then (g ∷ gs) (h ∷ hs) [] k l = absurd l
barer_then (g ∷ gs) (h ∷ hs) (x ∷ xs) k l =
    (record { same = k.0.same ∙ l.0.same; calm = λ none. l.0.calm (k.0.calm none) }, barer_then gs hs xs k.1 l.1)

-- parts of both lines, and lines behind them
barer_take : (n : ℕ) (gs hs : List hb_glyph_info_t) → AreBarer gs hs → AreBarer (take n gs) (take n hs)
barer_take zero gs hs k = tt
barer_take (suc n) [] [] k = tt
barer_take (suc n) [] (h ∷ hs) k = absurd k
barer_take (suc n) (g ∷ gs) [] k = absurd k
barer_take (suc n) (g ∷ gs) (h ∷ hs) k = (k.0, barer_take n gs hs k.1)

barer_drop : (n : ℕ) (gs hs : List hb_glyph_info_t) → AreBarer gs hs → AreBarer (drop n gs) (drop n hs)
barer_drop zero gs hs k = k
barer_drop (suc n) [] [] k = tt
barer_drop (suc n) [] (h ∷ hs) k = absurd k
barer_drop (suc n) (g ∷ gs) [] k = absurd k
barer_drop (suc n) (g ∷ gs) (h ∷ hs) k = barer_drop n gs hs k.1

barer_append : (gs hs xs ys : List hb_glyph_info_t) → AreBarer gs hs → AreBarer xs ys → AreBarer (gs ++ xs) (hs ++ ys)
barer_append [] [] xs ys k l = l
barer_append [] (h ∷ hs) xs ys k l = absurd k
barer_append (g ∷ gs) [] xs ys k l = absurd k
barer_append (g ∷ gs) (h ∷ hs) xs ys k l = (k.0, barer_append gs hs xs ys k.1 l)

pub barer_reverse : (gs hs : List hb_glyph_info_t) → AreBarer gs hs → AreBarer (reverse gs) (reverse hs)
barer_reverse [] [] k = tt
barer_reverse [] (h ∷ hs) k = absurd k
barer_reverse (g ∷ gs) [] k = absurd k
barer_reverse (g ∷ gs) (h ∷ hs) k =
    subst (λ (xs : List hb_glyph_info_t). AreBarer xs (reverse (h ∷ hs))) (sym (reverse-append (g ∷ []) gs))
    (subst (λ (ys : List hb_glyph_info_t). AreBarer (reverse gs ++ (g ∷ [])) ys) (sym (reverse-append (h ∷ []) hs))
    (barer_append (reverse gs) (reverse hs) (g ∷ []) (h ∷ []) (barer_reverse gs hs k.1) (k.0, tt)))

-- lines of the same glyphs, the first one of which has all flags of the second
barer_from : (gs hs : List hb_glyph_info_t) → map unmasked gs ≡ map unmasked hs → IsCalm hs gs → AreBarer gs hs
barer_from [] [] same calm = tt
barer_from [] (h ∷ hs) same calm = absurd (cc)
barer_from (g ∷ gs) [] same calm = absurd (cc)
barer_from (g ∷ gs) (h ∷ hs) same calm =
    let head : unmasked g ≡ unmasked h = cc in
    let tail : map unmasked gs ≡ map unmasked hs = cc in
    (record { same = head; calm = calm 0 }, barer_from gs hs tail (λ k none. calm (suc k) none))

-- a line is barer than the same under marks
pub barer_unmarked : (b : Buffer) (start end : Option ℕ) → AreBarer (unsafe_to_break b start end).line b.line
barer_unmarked b start end = barer_from (unsafe_to_break b start end).line b.line (of_unsafe unmasked (λ bits g. refl) b start end) (calm_unsafe b start end)

-- but for the masks the glyphs are the same
pub barer_same : (gs hs : List hb_glyph_info_t) → AreBarer gs hs → map unmasked gs ≡ map unmasked hs
barer_same [] [] k = refl
barer_same [] (h ∷ hs) k = absurd k
barer_same (g ∷ gs) [] k = absurd k
barer_same (g ∷ gs) (h ∷ hs) k = λ i. k.0.same i ∷ barer_same gs hs k.1 i

-- Marks on both lines.
marked_alike : (m : ℕ) (g h : hb_glyph_info_t) → IsBarer g h → IsBarer (marked_above m 3 g) (marked_above m 3 h)
marked_alike m g h k =
    subst (λ (n : ℕ). IsBarer (cond (g.cluster == m) g (with_mask_bits 3 g)) (cond (n == m) h (with_mask_bits 3 h))) (cluster_of g h k) (by_cluster (g.cluster == m))
  where
    by_cluster : (t : Bool) → IsBarer (cond t g (with_mask_bits 3 g)) (cond t h (with_mask_bits 3 h))
    by_cluster true = k
    by_cluster false = record { same = k.same; calm = λ none. absurd (flagged g.mask none) }

barer_marked : (m : ℕ) (gs hs : List hb_glyph_info_t) → AreBarer gs hs → AreBarer (map (marked_above m 3) gs) (map (marked_above m 3) hs)
barer_marked m [] [] k = tt
barer_marked m [] (h ∷ hs) k = absurd k
barer_marked m (g ∷ gs) [] k = absurd k
barer_marked m (g ∷ gs) (h ∷ hs) k = (marked_alike m g h k.0, barer_marked m gs hs k.1)

same_fold : (a : ℕ) (gs hs : List hb_glyph_info_t) → AreBarer gs hs
    → fold (λ (m : ℕ) (g : hb_glyph_info_t). min m g.cluster) a gs ≡ fold (λ (m : ℕ) (g : hb_glyph_info_t). min m g.cluster) a hs
same_fold a [] [] k = refl
same_fold a [] (h ∷ hs) k = absurd k
same_fold a (g ∷ gs) [] k = absurd k
same_fold a (g ∷ gs) (h ∷ hs) k =
    ap (λ (n : ℕ). fold (λ (m : ℕ) (x : hb_glyph_info_t). min m x.cluster) (min a n) gs) (cluster_of g h k.0) ∙ same_fold (min a h.cluster) gs hs k.1

same_least : (gs hs : List hb_glyph_info_t) → AreBarer gs hs → least_of gs ≡ least_of hs
same_least gs hs k =
    ap (λ (n : ℕ). fold (λ (m : ℕ) (x : hb_glyph_info_t). min m x.cluster) n gs) (cluster_of (glyph_at gs 0) (glyph_at hs 0) (barer_at gs hs 0 k))
    ∙ same_fold (cluster_at hs 0) gs hs k

barer_span : (i j : ℕ) (gs hs : List hb_glyph_info_t) → AreBarer gs hs → AreBarer (on_span break_marked i j gs) (on_span break_marked i j hs)
barer_span i j gs hs k =
    let xs = slice_range gs i j in
    let ys = slice_range hs i j in
    let span : AreBarer (slice_range gs i j) (slice_range hs i j) = barer_take (j - i) (drop i gs) (drop i hs) (barer_drop i gs hs k) in
    barer_append (take i gs) (take i hs) (break_marked xs ++ drop j gs) (break_marked ys ++ drop j hs) (barer_take i gs hs k)
    (barer_append (break_marked xs) (break_marked ys) (drop j gs) (drop j hs)
    (subst (λ (n : ℕ). AreBarer (break_marked xs) (map (marked_above n 3) ys)) (same_least xs ys span) (barer_marked (least_of xs) xs ys span)) (barer_drop j gs hs k))

pub barer_unsafe : (b : Buffer) (hs : List hb_glyph_info_t) (start end : Option ℕ) → AreBarer b.line hs → AreBarer (unsafe_to_break b start end).line (unsafe_to_break (with_line b hs) start end).line
barer_unsafe b hs start end k =
    subst (λ (n : ℕ). AreBarer (unsafe_to_break b start end).line (on_long_span break_marked (start_place start) (end_place end n) hs)) (barer_long b.line hs k)
    (by_length (nat_le (start_place start + 2) (end_place end (length b.line))))
  where
    by_length : (t : Bool) → AreBarer (cond t (on_span break_marked (start_place start) (end_place end (length b.line)) b.line) b.line) (cond t (on_span break_marked (start_place start) (end_place end (length b.line)) hs) hs)
    by_length true = barer_span (start_place start) (end_place end (length b.line)) b.line hs k
    by_length false = k

-- Glyphs that go in on both lines.
barer_copies : (new : List GlyphId) (g h : hb_glyph_info_t) → IsBarer g h → AreBarer (copies g new) (copies h new)
barer_copies [] g h k = tt
barer_copies (n ∷ new) g h k =
    (record { same = ap (λ (x : hb_glyph_info_t). record x { glyph_id = n.0 }) k.same; calm = k.calm }, barer_copies new g h k)

pub barer_inserted : (new : List GlyphId) (i : ℕ) (behind : Bool) (gs hs : List hb_glyph_info_t) → AreBarer gs hs → AreBarer (inserted new i behind gs) (inserted new i behind hs)
unfolding inserted
barer_inserted new i behind gs hs k =
    let p : ℕ = min i (length gs - 1) in
    let a : ℕ = cond (behind && nat_lt i (length gs)) (i + 1) i in
    let made : List hb_glyph_info_t = copies (glyph_at gs p) new in
    subst
    (λ (n : ℕ). AreBarer (take a gs ++ (made ++ drop a gs))
    (take (cond (behind && nat_lt i n) (i + 1) i) hs ++ (copies (glyph_at hs (min i (n - 1))) new ++ drop (cond (behind && nat_lt i n) (i + 1) i) hs)))
    (barer_long gs hs k)
    (barer_append (take a gs) (take a hs) (made ++ drop a gs) (copies (glyph_at hs p) new ++ drop a hs) (barer_take a gs hs k)
    (barer_append made (copies (glyph_at hs p) new) (drop a gs) (drop a hs) (barer_copies new (glyph_at gs p) (glyph_at hs p) (barer_at gs hs p k)) (barer_drop a gs hs k)))

-- no glyphs that go in leave the line
pub none_inserted : (i : ℕ) (behind : Bool) (line : List hb_glyph_info_t) → inserted [] i behind line ≡ line
unfolding inserted
none_inserted i behind line = take-append-drop (cond (behind && nat_lt i (length line)) (i + 1) i) line

-- where the first glyph of a high cluster is without the flag, that of a barer line is so
pub barer_unflagged : (c : ℕ) (gs hs : List hb_glyph_info_t) → AreBarer gs hs → IsUnflaggedFrom c gs → IsUnflaggedFrom c hs
barer_unflagged c [] [] k none = none
barer_unflagged c [] (h ∷ hs) k none = absurd k
barer_unflagged c (g ∷ gs) [] k none = absurd k
barer_unflagged c (g ∷ gs) (h ∷ hs) k none =
    subst (λ (n : ℕ). (x : hb_glyph_info_t) → cond (nat_le c n) (Some h) (find (λ (y : hb_glyph_info_t). nat_le c y.cluster) hs) ≡ Some x → IsUnflagged x) (cluster_of g h k.0)
    (by_test (nat_le c g.cluster) none (λ less. barer_unflagged c gs hs k.1 less))
  where
    by_test : (t : Bool) → ((x : hb_glyph_info_t) → cond t (Some g) (find (λ (y : hb_glyph_info_t). nat_le c y.cluster) gs) ≡ Some x → IsUnflagged x) → (IsUnflaggedFrom c gs → IsUnflaggedFrom c hs)
        → (x : hb_glyph_info_t) → cond t (Some h) (find (λ (y : hb_glyph_info_t). nat_le c y.cluster) hs) ≡ Some x → IsUnflagged x
    by_test true none more x found = subst (λ (y : hb_glyph_info_t). IsUnflagged y) (same_Some h x found) (k.0.calm (none g refl))
    by_test false none more x found = more none x found

-- What a turn asks of a buffer, the same with a barer line.
module _ (b : Buffer) (hs : List hb_glyph_info_t) (k : AreBarer b.line hs) where
  glyph_same : unmasked (glyph_at b.line b.cursor) ≡ unmasked (glyph_at hs b.cursor)
  glyph_same = (barer_at b.line hs b.cursor k).same

  pub end_same : is_at_end b ≡ is_at_end (with_line b hs)
  end_same = ap (λ (n : ℕ). not (nat_lt b.cursor n)) (barer_long b.line hs k)

  pub inside_same : is_inside b ≡ is_inside (with_line b hs)
  inside_same = ap (λ (n : ℕ). nat_lt 0 b.cursor && nat_lt b.cursor n) (barer_long b.line hs k)

  pub seen_same : (last : ℕ) → cluster_seen b last ≡ cluster_seen (with_line b hs) last
  seen_same last = λ i. cond (end_same i) last (glyph_same i).cluster

  pub class_same : (class_of : ℕ → Option ℕ) → class_at class_of b ≡ class_at class_of (with_line b hs)
  class_same class_of = λ i. cond (end_same i) 0 (unwrap_or (class_of (glyph_same i).glyph_id) 1)
