-- Runs of kept glyphs that have got a lower cluster, while that is written at the last glyph of each alone. The
-- clusters of the others are to be written anyway, and tell until then where the runs begin and end.
use Rattle.std.specs.Prelude.{ℕ, zero, suc, ◌≡◌, ◌==◌, ◌<◌, ◌≤◌, ◌+◌, ◌-◌, ◌&&◌, not, nat_lt, Bool, List, length, map, take, slice_set}
use Rattle.aat_buffer.specs.Buffer.{Buffer, glyph_at, with_line}
use Rattle.aat_buffer.specs.Marks.{on_span, cluster_at}
use Rattle.aat_buffer.specs.Removal.{with_cluster_and_flags}
use Rattle.aat_glyph.specs.declared.glyph.hb_glyph_info_t.{hb_glyph_info_t}

-- the glyphs from place i up to place j get the cluster and the flags of that at place j
abbrev pub run_written : ℕ → ℕ → List hb_glyph_info_t → List hb_glyph_info_t
run_written i j gs = on_span (map (with_cluster_and_flags (glyph_at gs j))) i j gs

-- the glyph at place i tells the place n
abbrev pub with_place : List hb_glyph_info_t → ℕ → ℕ → List hb_glyph_info_t
with_place gs i n = slice_set gs i (record (glyph_at gs i) { cluster = n })

-- where the run that ends at place l begins, which the glyph before its last one tells
abbrev pub run_first : List hb_glyph_info_t → ℕ → ℕ
run_first gs l = cluster_at gs (l - 1)

-- where the run before it ends, which its first glyph tells
abbrev pub run_below : List hb_glyph_info_t → ℕ → ℕ
run_below gs l = cluster_at gs (run_first gs l)

-- k runs written, of which the last ends at place l; hs tells the places
unfoldable pub runs_written : ℕ → ℕ → List hb_glyph_info_t → List hb_glyph_info_t → List hb_glyph_info_t
runs_written zero l hs gs = gs
runs_written (suc k) l hs gs = run_written (run_first hs l) l (runs_written k (run_below hs l) hs gs)

-- k runs of three glyphs or more, of which the last ends at place l, stand one behind another before place p
unfoldable pub AreRuns : ℕ → ℕ → List hb_glyph_info_t → ℕ → Type 0
AreRuns zero l hs p = Unit {0}
AreRuns (suc k) l hs p = (run_first hs l + 2 ≤ l) × ((l < p) × AreRuns k (run_below hs l) hs (run_first hs l))

-- the line with its k runs written, of which the last ends at place l
abbrev pub shown_line : ℕ → ℕ → List hb_glyph_info_t → List hb_glyph_info_t
shown_line k l gs = runs_written k l gs gs

-- the same of a buffer
abbrev pub shown : ℕ → ℕ → Buffer → Buffer
shown k l b = with_line b (shown_line k l b.line)

-- in the line gs with k runs written, of which the last ends at place l, the glyphs from place q up to place p have
-- the cluster c, and before place q it is that with b runs written, of which the last ends at place m
pub record IsReached (gs : List hb_glyph_info_t) (k l c p q b m : ℕ) : Type 0 where
  pub before : take q (shown_line k l gs) ≡ take q (shown_line b m gs)
  pub same : (j : ℕ) → q ≤ j → j < p → cluster_at (shown_line k l gs) j ≡ c
  pub apart : AreRuns b m gs q
  pub within : q ≤ p

-- k runs are pending before the cursor, of which the last ends at place l
pub record IsPending (b : Buffer) (k l : ℕ) : Type 0 where
  pub apart : AreRuns k l b.line b.cursor
  pub in_line : b.cursor ≤ length b.line
  pub small : length b.line ≤ 0x3FFFFFFF

-- whether a glyph at place p that goes lowers the cluster of the kept ones
abbrev pub lowers : List hb_glyph_info_t → ℕ → Bool
lowers gs p =
    not (nat_lt (p + 1) (length gs) && (cluster_at gs (p + 1) == cluster_at gs p))
    && nat_lt (cluster_at gs p) (cluster_at gs (p - 1))
