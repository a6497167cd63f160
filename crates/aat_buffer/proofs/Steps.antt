-- A glyph that goes, on the buffer that is shown.
use Rattle.std.proofs.Common.{◌≡◌, ◌∙◌, sym, ap, subst, refl, ℕ, zero, suc, ◌+◌, ◌-◌, ◌<◌, ◌≤◌, ◌&&◌, ◌==◌, Bool, true, false, not, nat_lt, List, length, take, set, arith}
use Rattle.std.proofs.lemmas.List.{length-set, length-take-le, length-append, length-drop}
use Rattle.std.proofs.lemmas.Bool.Decides.{nat_tests}
use Rattle.std.specs.Prelude.{remove, if◌then◌else◌}
use Rattle.aat_glyph.specs.declared.glyph.hb_glyph_info_t.{hb_glyph_info_t}
use Rattle.aat_buffer.specs.Buffer.{Buffer, glyph_at, with_line, with_cursor, without_positions}
use Rattle.aat_buffer.specs.Marks.{cluster_at, run_before, merged_line}
use Rattle.aat_buffer.specs.Removal.{with_cluster_and_flags, lowered_run, cluster_kept_line, with_cluster_kept, without_glyph_at_cursor}
use Rattle.aat_buffer.specs.inside.Pending.{run_written, runs_written, run_first, run_below, AreRuns, IsPending, IsReached, shown, shown_line, with_place, lowers}
use Rattle.aat_buffer.proofs.Pending.{runs_mono, runs_none, runs_start, runs_alike, runs_commute, written_alike, run_length, Alike}
use Rattle.aat_buffer.proofs.Lowering.{lowered_written, lowered_pending, lowered_without, shown_without, alike_without, alike_front, removed_parts}
use Rattle.aat_buffer.proofs.Reaching.{reaches_some, shown_length, shown_read, span_front}

-- The kept glyphs get a lower cluster

-- the record that the last of them gets
pub made_like : (g h y : hb_glyph_info_t) (gs : List hb_glyph_info_t) (j : ℕ) → h ≡ glyph_at gs j → y ≡ with_cluster_and_flags g h → y ≡ with_cluster_and_flags g (glyph_at gs j)
made_like g h y gs j read made = made ∙ ap (with_cluster_and_flags g) read

-- it is written, and the run behind it
pub set_and_run : (old b new : Buffer) (q j : ℕ) (y : hb_glyph_info_t) → b ≡ with_line old (set old.line j y) → new ≡ with_line b (run_written q j b.line) → new ≡ with_line old (run_written q j (set old.line j y))
set_and_run old b new q j y one wrote = wrote ∙ ap (λ (t : Buffer). with_line t (run_written q j t.line)) one

-- it is written, and the places of the run
pub set_and_places : (old b d new : Buffer) (q m i j : ℕ) (y : hb_glyph_info_t) → b ≡ with_line old (set old.line j y) → d ≡ with_line b (with_place b.line i q) → new ≡ with_line d (with_place d.line q m) → new ≡ with_line old (with_place (with_place (set old.line j y) i q) q m)
set_and_places old b d new q m i j y one two wrote = wrote ∙ ap (λ (t : Buffer). with_line t (with_place t.line q m)) (two ∙ ap (λ (t : Buffer). with_line t (with_place t.line i q)) one)

pub lower_written : (old new : Buffer) (k l q b m j : ℕ) (g y : hb_glyph_info_t)
    → 0 < old.cursor → j ≡ old.cursor - 1 → IsPending old k l
    → IsReached old.line k l (cluster_at old.line (old.cursor - 1)) old.cursor q b m
    → run_before (shown_line k l old.line) 0 q (cluster_at old.line (old.cursor - 1)) ≡ 0
    → y ≡ with_cluster_and_flags g (glyph_at old.line j)
    → new ≡ with_line old (run_written q j (set old.line j y))
    → (shown b m new ≡ with_line old (lowered_run (shown_line k l old.line) old.cursor (cluster_at old.line (old.cursor - 1)) g)) × IsPending new b m
lower_written old new k l q b m j g y kept place pending reached none made wrote =
    let p : ℕ = old.cursor in
    let i : ℕ = p - 1 in
    let zs : List hb_glyph_info_t = set old.line i (with_cluster_and_flags g (glyph_at old.line i)) in
    let is : new ≡ with_line old (run_written q i zs) = wrote ∙ ap (λ h. with_line old (run_written q j (set old.line j h))) made ∙ ap (λ n. with_line old (run_written q n (set old.line n (with_cluster_and_flags g (glyph_at old.line n))))) place in
    let at : i + 1 ≡ p = omega (arith, kept) in
    let from : q ≤ i = reaches_some old.line k l p q b m i pending.apart pending.in_line reached none at in
    let both = lowered_written old.line k l p q b m i g pending.in_line at from pending.apart reached none in
    let long : length zs ≡ length old.line = length-set old.line i (with_cluster_and_flags g (glyph_at old.line i)) in
    let n : length (run_written q i zs) ≡ length old.line = run_length q i zs from (omega (arith, long, at, pending.in_line)) ∙ long in (
      ap (shown b m) is ∙ ap (with_line old) both.0,
      subst (λ t. IsPending t b m) (sym is) (record {
        apart = both.1;
        in_line = omega (arith, n, pending.in_line);
        small = omega (arith, n, pending.small);
      }),
    )

pub lower_pending : (old new : Buffer) (k l q b m j : ℕ) (g y : hb_glyph_info_t)
    → 0 < old.cursor → j ≡ old.cursor - 1 → q + 2 ≤ j → IsPending old k l
    → IsReached old.line k l (cluster_at old.line (old.cursor - 1)) old.cursor q b m
    → run_before (shown_line k l old.line) 0 q (cluster_at old.line (old.cursor - 1)) ≡ 0
    → y ≡ with_cluster_and_flags g (glyph_at old.line j)
    → new ≡ with_line old (with_place (with_place (set old.line j y) (j - 1) q) q m)
    → (shown (b + 1) j new ≡ with_line old (lowered_run (shown_line k l old.line) old.cursor (cluster_at old.line (old.cursor - 1)) g)) × IsPending new (b + 1) j
lower_pending old new k l q b m j g y kept place long pending reached none made wrote =
    let p : ℕ = old.cursor in
    let i : ℕ = p - 1 in
    let more : suc b ≡ b + 1 = omega arith in
    let xs : List hb_glyph_info_t = set old.line i (with_cluster_and_flags g (glyph_at old.line i)) in
    let ys : List hb_glyph_info_t = with_place xs (i - 1) q in
    let zs : List hb_glyph_info_t = with_place ys q m in
    let is : new ≡ with_line old zs = wrote ∙ ap (λ h. with_line old (with_place (with_place (set old.line j h) (j - 1) q) q m)) made ∙ ap (λ n. with_line old (with_place (with_place (set old.line n (with_cluster_and_flags g (glyph_at old.line n))) (n - 1) q) q m)) place in
    let both = lowered_pending old.line k l p q b m i g pending.in_line (omega (arith, kept)) (omega (arith, long, place)) pending.apart reached none in
    let n : length zs ≡ length old.line = length-set ys q (record (glyph_at ys q) { cluster = m }) ∙ length-set xs (i - 1) (record (glyph_at xs (i - 1)) { cluster = q }) ∙ length-set old.line i (with_cluster_and_flags g (glyph_at old.line i)) in
    let line : shown_line (b + 1) j zs ≡ lowered_run (shown_line k l old.line) p (cluster_at old.line i) g = ap (λ n. shown_line (b + 1) n zs) place ∙ ap (λ n. shown_line n i zs) (sym more) ∙ both.0 in (
      ap (shown (b + 1) j) is ∙ ap (with_line old) line,
      subst (λ t. IsPending t (b + 1) j) (sym is) (record {
        apart = subst (λ n. AreRuns (b + 1) n zs p) (sym place) (subst (λ n. AreRuns n i zs p) more both.1);
        in_line = omega (arith, n, pending.in_line);
        small = omega (arith, n, pending.small);
      }),
    )

-- The runs are written

pub write_more : (b new : Buffer) (k l i m : ℕ) → 0 < k → IsPending b k l → i ≡ run_first b.line l → m ≡ cluster_at b.line i → new ≡ with_line b (run_written i l b.line) → (shown (k - 1) m new ≡ shown k l b) × IsPending new (k - 1) m
unfolding AreRuns runs_written
write_more b new zero l i m some pending first next wrote = absurd (omega (arith, some))
write_more b new (suc k) l i m some pending first next wrote =
    let (ordered, (below, rest)) = pending.apart in
    let gs : List hb_glyph_info_t = b.line in
    let f : ℕ = run_first gs l in
    let d : ℕ = run_below gs l in
    let ws : List hb_glyph_info_t = run_written f l gs in
    let less : k ≡ suc k - 1 = omega arith in
    let told : d ≡ m = sym (next ∙ ap (cluster_at gs) first) in
    let is : new ≡ with_line b ws = wrote ∙ ap (λ n. with_line b (run_written n l gs)) first in
    let n : length ws ≡ length gs = run_length f l gs (omega (arith, ordered)) (omega (arith, below, pending.in_line)) in
    let alike : Alike gs ws f = alike_front gs ws f (omega (arith, ordered, below, pending.in_line)) n (span_front (with_cluster_and_flags (glyph_at gs l)) f l gs (omega (arith, ordered, below, pending.in_line))) in
    let line : runs_written k d ws ws ≡ shown_line (suc k) l gs = sym (written_alike k d gs ws ws f alike rest) ∙ sym (runs_commute k d gs gs f l rest (omega (arith, ordered)) (omega (arith, below, pending.in_line))) in
    let apart : AreRuns k d ws b.cursor = runs_mono k d ws f b.cursor (omega (arith, ordered, below)) (runs_alike k d gs ws f alike rest) in (
      ap (λ t. shown (suc k - 1) m t) is ∙ ap (λ c. shown c m (with_line b ws)) (sym less) ∙ ap (λ c. shown k c (with_line b ws)) (sym told) ∙ ap (with_line b) line,
      subst (λ t. IsPending t (suc k - 1) m) (sym is) (record {
        apart = subst (λ c. AreRuns c m ws b.cursor) less (subst (λ c. AreRuns k c ws b.cursor) told apart);
        in_line = omega (arith, n, pending.in_line);
        small = omega (arith, n, pending.small);
      }),
    )

pub shown_none : (b : Buffer) (k l : ℕ) → k ≡ 0 → shown k l b ≡ b
shown_none b k l none = ap (λ n. shown n l b) none ∙ ap (with_line b) (runs_none l b.line b.line)

-- A glyph is kept, or none is yet

pub kept_pending : (b : Buffer) (k l : ℕ) → b.cursor < length b.line → IsPending b k l → IsPending (with_cursor b (b.cursor + 1)) k l
kept_pending b k l some pending =
    record {
      apart = runs_mono k l b.line b.cursor (b.cursor + 1) (omega arith) pending.apart;
      in_line = omega (arith, some);
      small = pending.small;
    }

pub first_gone : (old new : Buffer) (k l : ℕ) → old.cursor ≡ 0 → IsPending old k l → new ≡ without_positions (without_glyph_at_cursor (with_cluster_kept old)) → without_positions (shown 0 0 new) ≡ without_positions (without_glyph_at_cursor (with_cluster_kept (shown k l old)))
first_gone old new k l start pending wrote =
    ap without_positions (shown_none new 0 0 refl ∙ wrote)
    ∙ ap (λ (b : Buffer). without_positions (without_glyph_at_cursor (with_cluster_kept b))) (sym (shown_none old k l (runs_start k l old.line old.cursor start pending.apart)))

-- before the first turn no run is pending
pub pending_none : (b : Buffer) → b.cursor ≤ length b.line → length b.line ≤ 0x3FFFFFFF → IsPending b 0 0
unfolding AreRuns
pending_none b within small =
    record {
      apart = tt;
      in_line = within;
      small = small;
    }

-- A glyph goes behind kept ones

either : {X : Type 0} (next low some : Bool) (a b d : X) → some ≡ true → (if next then a else (if some then (if low then b else a) else d)) ≡ (if not next && low then b else a)
either true low some a b d e = refl
either false low some a b d e = ap (λ t. if t then (if low then b else a) else d) e

-- the cluster of the glyph that goes is kept, by the tests that the line itself is put to
kept_by : (level p k l : ℕ) (line : List hb_glyph_info_t) → 0 < p → p < length line → AreRuns k l line p
    → cluster_kept_line level p (shown_line k l line) ≡ (if lowers line p then lowered_run (shown_line k l line) p (cluster_at line (p - 1)) (glyph_at line p) else shown_line k l line)
unfolding cluster_kept_line
kept_by level p k l line kept some are =
    let gs : List hb_glyph_info_t = shown_line k l line in
    let n : length gs ≡ length line = shown_length line k l p are (omega (arith, some)) in
    let read : (j : ℕ) → p ≤ j + 1 → glyph_at gs j ≡ glyph_at line j = λ j le. shown_read line k l p j are (omega (arith, some)) le in
    let test : nat_lt 0 p ≡ true = grind (arith, nat_tests, kept) in
    either (nat_lt (p + 1) (length gs) && (cluster_at gs (p + 1) == (glyph_at gs p).cluster)) (nat_lt (glyph_at gs p).cluster (cluster_at gs (p - 1))) (nat_lt 0 p) gs (lowered_run gs p (cluster_at gs (p - 1)) (glyph_at gs p)) (if nat_lt (p + 1) (length gs) then merged_line level p p (p + 2) gs else gs) test
    ∙ ap (λ i. if not (nat_lt (p + 1) i && (cluster_at gs (p + 1) == (glyph_at gs p).cluster)) && nat_lt (glyph_at gs p).cluster (cluster_at gs (p - 1)) then lowered_run gs p (cluster_at gs (p - 1)) (glyph_at gs p) else gs) n
    ∙ ap (λ (h : hb_glyph_info_t). if not (nat_lt (p + 1) (length line) && (h.cluster == (glyph_at gs p).cluster)) && nat_lt (glyph_at gs p).cluster (cluster_at gs (p - 1)) then lowered_run gs p (cluster_at gs (p - 1)) (glyph_at gs p) else gs) (read (p + 1) (omega arith))
    ∙ ap (λ (h : hb_glyph_info_t). if not (nat_lt (p + 1) (length line) && (cluster_at line (p + 1) == h.cluster)) && nat_lt h.cluster (cluster_at gs (p - 1)) then lowered_run gs p (cluster_at gs (p - 1)) h else gs) (read p (omega arith))
    ∙ ap (λ (h : hb_glyph_info_t). if not (nat_lt (p + 1) (length line) && (cluster_at line (p + 1) == cluster_at line p)) && nat_lt (cluster_at line p) h.cluster then lowered_run gs p h.cluster (glyph_at line p) else gs) (read (p - 1) (omega (arith, kept)))

-- the glyph is gone, and its cluster kept
abbrev pub gone : Buffer → Buffer
gone b = without_positions (without_glyph_at_cursor (with_cluster_kept b))

gone_by : (b : Buffer) (k l : ℕ) (low : Bool) → 0 < b.cursor → b.cursor < length b.line → IsPending b k l → lowers b.line b.cursor ≡ low
    → gone (shown k l b) ≡ without_positions (with_line b (remove (if low then lowered_run (shown_line k l b.line) b.cursor (cluster_at b.line (b.cursor - 1)) (glyph_at b.line b.cursor) else shown_line k l b.line) b.cursor))
gone_by b k l low kept some pending is =
    ap (λ gs. without_positions (with_line b (remove gs b.cursor))) (kept_by b.cluster_level b.cursor k l b.line kept some pending.apart)
    ∙ ap (λ t. without_positions (with_line b (remove (if t then lowered_run (shown_line k l b.line) b.cursor (cluster_at b.line (b.cursor - 1)) (glyph_at b.line b.cursor) else shown_line k l b.line) b.cursor))) is

-- the buffer without its glyph at the cursor and without positions
abbrev pub skipping : Buffer → Buffer
skipping b = without_positions (with_line b (remove b.line b.cursor))

pub skipping_count : (b : Buffer) → b.cursor < length b.line → length (skipping b).line + 1 ≡ length b.line
skipping_count b some =
    let n : length (remove b.line b.cursor) ≡ length (take b.cursor b.line) + (length b.line - (b.cursor + 1)) = ap length (removed_parts b.line b.cursor some) ∙ length-append (take b.cursor b.line) _ ∙ ap (λ i. length (take b.cursor b.line) + i) (length-drop (b.cursor + 1) b.line) in
    omega (arith, n, some, length-take-le b.cursor b.line (omega (arith, some)))

pub skipping_pending : (b : Buffer) (k l : ℕ) → b.cursor < length b.line → IsPending b k l → IsPending (skipping b) k l
skipping_pending b k l some pending =
    let n : length (remove b.line b.cursor) + 1 ≡ length b.line = skipping_count b some in
    record {
      apart = runs_alike k l b.line (remove b.line b.cursor) b.cursor (alike_without b.line b.cursor some) pending.apart;
      in_line = omega (arith, n, some);
      small = omega (arith, n, pending.small);
    }

pub behind_stays : (old new : Buffer) (k l : ℕ) → 0 < old.cursor → old.cursor < length old.line → IsPending old k l → lowers old.line old.cursor ≡ false → new ≡ skipping old → shown k l new ≡ gone (shown k l old)
behind_stays old new k l kept some pending is wrote =
    ap (shown k l) wrote
    ∙ ap (λ gs. without_positions (with_line old gs)) (shown_without old.line k l old.cursor some pending.apart)
    ∙ sym (gone_by old k l false kept some pending is)

pub behind_lowers : (old skip new : Buffer) (k l b m : ℕ) (g : hb_glyph_info_t) → 0 < old.cursor → old.cursor < length old.line → IsPending old k l → lowers old.line old.cursor ≡ true → g ≡ glyph_at old.line old.cursor → skip ≡ skipping old
    → shown b m new ≡ with_line skip (lowered_run (shown_line k l skip.line) skip.cursor (cluster_at skip.line (skip.cursor - 1)) g)
    → shown b m new ≡ gone (shown k l old)
behind_lowers old skip new k l b m g kept some pending is read wrote lowered =
    let p : ℕ = old.cursor in
    let gs : List hb_glyph_info_t = shown_line k l old.line in
    let n : length gs ≡ length old.line = shown_length old.line k l p pending.apart pending.in_line in
    lowered
    ∙ ap (λ (t : Buffer). with_line t (lowered_run (shown_line k l t.line) t.cursor (cluster_at t.line (t.cursor - 1)) g)) wrote
    ∙ ap (λ c. without_positions (with_line old (lowered_run (shown_line k l (remove old.line p)) p c g))) (sym (alike_without old.line p some (p - 1) (omega (arith, kept))))
    ∙ ap (λ h. without_positions (with_line old (lowered_run (shown_line k l (remove old.line p)) p (cluster_at old.line (p - 1)) h))) read
    ∙ ap (λ xs. without_positions (with_line old (lowered_run xs p (cluster_at old.line (p - 1)) (glyph_at old.line p)))) (shown_without old.line k l p some pending.apart)
    ∙ ap (λ xs. without_positions (with_line old xs)) (lowered_without gs p (cluster_at old.line (p - 1)) (glyph_at old.line p) (omega (arith, n, some)))
    ∙ sym (gone_by old k l true kept some pending is)

-- the glyph at the cursor is shown as it is
pub shown_here : (b : Buffer) (k l p : ℕ) → p ≡ b.cursor → IsPending b k l → glyph_at (shown k l b).line p ≡ glyph_at b.line p
shown_here b k l p place pending = shown_read b.line k l b.cursor p pending.apart pending.in_line (omega (arith, place))
