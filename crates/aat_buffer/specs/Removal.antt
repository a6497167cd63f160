-- What the removal of the glyphs that a filter names leaves.
use Rattle.std.specs.Prelude.{option_map, ℕ, zero, suc, ◌+◌, ◌-◌, ◌≡◌, ◌≢◌, ◌==◌, ◌&&◌, All, Bool, false, List, length, map, bit_and, bit_or, nat_lt, remove, if◌then◌else◌, filter, not}
use Rattle.std.specs.Fn.{FnReturnsAt, Shared}
use Rattle.std.specs.Borrow.{Bor}
pub use Rattle.aat_buffer.specs.Buffer.{glyph_at}
use Rattle.aat_buffer.specs.Buffer.{Buffer, with_cursor, with_line}
use Rattle.aat_buffer.specs.Clusters.{ids}
use Rattle.aat_buffer.specs.Marks.{on_span, cluster_at, run_before, merged_line}
use Rattle.aat_glyph.specs.declared.glyph.hb_glyph_info_t.{hb_glyph_info_t}

-- the filter answers by this test
abbrev pub AnswersBy :
    {F : Type 0} → Shared F (Bor hb_glyph_info_t × Unit {0}) Bool → F → (hb_glyph_info_t → Bool) → Type 0
AnswersBy fn f test = (g : hb_glyph_info_t) (r : Bool) → FnReturnsAt fn f g r → test g ≡ r

-- the filter answers by this test of the glyph id
abbrev pub AnswersByIds : {F : Type 0} → Shared F (Bor hb_glyph_info_t × Unit {0}) Bool → F → (ℕ → Bool) → Type 0
AnswersByIds fn f test = AnswersBy fn f (λ g. test g.glyph_id)

-- no glyph id of a line is one that a test names
abbrev pub HasNoneOf : (ℕ → Bool) → List hb_glyph_info_t → Type 0
HasNoneOf test gs = All (λ g. test g.glyph_id ≡ false) gs

-- the glyph ids of a line that a test does not name, in their order
abbrev pub other_ids : (ℕ → Bool) → List hb_glyph_info_t → List ℕ
other_ids test gs = filter (λ x. not (test x)) (ids gs)

-- a glyph with the cluster of h, and the DEFINED flags (7) of h
abbrev pub with_cluster_and_flags : hb_glyph_info_t → hb_glyph_info_t → hb_glyph_info_t
with_cluster_and_flags h g =
    record g { cluster = h.cluster; mask = bit_or (bit_and g.mask 0xFFFFFFF8) (bit_and h.mask 7) }

-- the glyphs just before place p that have the cluster `last` get that of g, which is another one, with its flags
unfoldable pub lowered_run : List hb_glyph_info_t → ℕ → ℕ → hb_glyph_info_t → List hb_glyph_info_t
lowered_run gs p last g = on_span (map (with_cluster_and_flags g)) (p - run_before gs 0 p last) p gs

-- before the glyph at place p goes, where those before p are kept: the next glyph has its cluster; or the last kept
-- ones take it where it is lower than theirs; or, where none is kept, it is merged with the next
unfoldable pub cluster_kept_line : ℕ → ℕ → List hb_glyph_info_t → List hb_glyph_info_t
cluster_kept_line level p gs =
    let g = glyph_at gs p in
    let last = cluster_at gs (p - 1) in
    if nat_lt (p + 1) (length gs) && (cluster_at gs (p + 1) == g.cluster) then gs
    else (if nat_lt 0 p then (if nat_lt g.cluster last then lowered_run gs p last g else gs)
    else (if nat_lt (p + 1) (length gs) then merged_line level p p (p + 2) gs else gs))

-- before the glyph at the cursor goes, its cluster is kept
abbrev pub with_cluster_kept : Buffer → Buffer
with_cluster_kept b = with_line b (cluster_kept_line b.cluster_level b.cursor b.line)

-- the glyph at the cursor goes, with its position
abbrev pub without_glyph_at_cursor : Buffer → Buffer
without_glyph_at_cursor b =
    record b { line = remove b.line b.cursor; positions = option_map (λ qs. remove qs b.cursor) b.positions }

-- the glyph at the cursor, behind the kept ones, goes where the test names it, and else is kept
abbrev pub removal_step : (hb_glyph_info_t → Bool) → Buffer → Buffer
removal_step test b =
    if test (glyph_at b.line b.cursor)
    then without_glyph_at_cursor (with_cluster_kept b)
    else with_cursor b (b.cursor + 1)

-- the next n glyphs, one after another
unfoldable pub removal : ℕ → (hb_glyph_info_t → Bool) → Buffer → Buffer
removal zero test b = b
removal (suc n) test b = removal n test (removal_step test b)

-- each glyph that the test names goes, from the first to the last; the cursor ends at the start
abbrev pub removed : (hb_glyph_info_t → Bool) → Buffer → Buffer
removed test b = with_cursor (removal (length b.line) test (with_cursor b 0)) 0

-- the glyph id of a glyph that shaping has deleted (the manual's chapter on the `morx` table)
abbrev pub deleted_glyph : ℕ
deleted_glyph = 0xFFFF

abbrev pub is_deleted : hb_glyph_info_t → Bool
is_deleted g = g.glyph_id == deleted_glyph

-- a line without deleted glyphs
abbrev pub HasNoneDeleted : List hb_glyph_info_t → Type 0
HasNoneDeleted gs = All (λ g. g.glyph_id ≢ deleted_glyph) gs
