-- What a turn asks of a buffer, where more glyphs stand behind its line, or before it.
use Rattle.std.proofs.Common.{◌≡◌, ℕ, ◌+◌, ◌-◌, ◌<◌, ◌≤◌, ℤ, Bool, true, false, not, cond, List, ◌++◌, length, nat_lt, Option, refl, ap, arith, length-append}
use Rattle.std.proofs.lemmas.Bool.Decides.{nat_tests}
use Rattle.std.proofs.lemmas.List.{get_or_append_left, get_or-append-add}
use Rattle.std.specs.Prelude.{unwrap_or}
use Rattle.aat_buffer.specs.Buffer.{Buffer, glyph_at, no_glyph}
use Rattle.aat_glyph.specs.declared.glyph.hb_glyph_info_t.{hb_glyph_info_t}
use Rattle.aat_run.specs.Budget.{has_operations, paid}
use Rattle.aat_run.specs.Context.{class_at, cluster_seen, is_at_end}
use Rattle.aat_run.specs.Machine.{break_marked_at, passed, stepped}
use Rattle.aat_cut_kinds.specs.Parts.{followed_by, moved_on}
use Rattle.aat_cut_kinds.specs.facts.Spans.{unsafe_in_back, unsafe_in_front}

pub not_at_end : (b : Buffer) → b.cursor < length b.line → is_at_end b ≡ false
not_at_end b below = grind (arith, nat_tests, below)

pub at_its_end : (b : Buffer) → length b.line ≤ b.cursor → is_at_end b ≡ true
at_its_end b past = grind (arith, nat_tests, past)

module _ (gs : List hb_glyph_info_t) where
  -- behind the line
  longer : (b : Buffer) → b.cursor < length b.line → b.cursor < length (b.line ++ gs)
  longer b below = omega (arith, length-append b.line gs, below)

  pub not_at_front_end : (b : Buffer) → b.cursor < length b.line → is_at_end (followed_by gs b) ≡ false
  not_at_front_end b below = not_at_end (followed_by gs b) (longer b below)

  glyph_in_front : (b : Buffer) → b.cursor < length b.line → glyph_at (b.line ++ gs) b.cursor ≡ glyph_at b.line b.cursor
  glyph_in_front b below = get_or_append_left b.line gs no_glyph b.cursor below

  pub class_in_front : (class_of : ℕ → Option ℕ) (b : Buffer) → b.cursor < length b.line → class_at class_of (followed_by gs b) ≡ class_at class_of b
  class_in_front class_of b below =
      rw (not_at_front_end b below, not_at_end b below) (ap (λ (g : hb_glyph_info_t). unwrap_or (class_of g.glyph_id) 1) (glyph_in_front b below))

  pub seen_in_front : (b : Buffer) (last : ℕ) → b.cursor < length b.line → cluster_seen (followed_by gs b) last ≡ cluster_seen b last
  seen_in_front b last below =
      rw (not_at_front_end b below, not_at_end b below) (ap (λ (g : hb_glyph_info_t). g.cluster) (glyph_in_front b below))

  pub marked_in_front : (b : Buffer) → b.cursor < length b.line → break_marked_at (followed_by gs b) ≡ followed_by gs (break_marked_at b)
  marked_in_front b below = unsafe_in_front gs b (b.cursor - 1) (b.cursor + 1) (omega (arith, below))

  pub stepped_in_front : (a : Bool) (b : Buffer) → stepped a (followed_by gs b) ≡ followed_by gs (stepped a b)
  stepped_in_front true b = refl
  stepped_in_front false b = by_budget (has_operations b)
    where
      by_budget : (t : Bool) → cond t (paid 1 (followed_by gs b)) (paid 1 (passed (followed_by gs b))) ≡ followed_by gs (cond t (paid 1 b) (paid 1 (passed b)))
      by_budget true = refl
      by_budget false = refl

  -- before the line
  pub same_end : (z : ℤ) (b : Buffer) → is_at_end (moved_on gs z b) ≡ is_at_end b
  same_end z b =
      let long : length (gs ++ b.line) ≡ length gs + length b.line = length-append gs b.line in
      let same : nat_lt (length gs + b.cursor) (length (gs ++ b.line)) ≡ nat_lt b.cursor (length b.line) = grind (arith, nat_tests, long) in
      ap not same

  glyph_in_back : (b : Buffer) → glyph_at (gs ++ b.line) (length gs + b.cursor) ≡ glyph_at b.line b.cursor
  glyph_in_back b = get_or-append-add gs b.line b.cursor no_glyph

  pub class_in_back : (class_of : ℕ → Option ℕ) (z : ℤ) (b : Buffer) → class_at class_of (moved_on gs z b) ≡ class_at class_of b
  class_in_back class_of z b =
      rw (same_end z b) (ap (λ (g : hb_glyph_info_t). cond (is_at_end b) 0 (unwrap_or (class_of g.glyph_id) 1)) (glyph_in_back b))

  pub seen_in_back : (z : ℤ) (b : Buffer) (last : ℕ) → cluster_seen (moved_on gs z b) last ≡ cluster_seen b last
  seen_in_back z b last =
      rw (same_end z b) (ap (λ (g : hb_glyph_info_t). cond (is_at_end b) last g.cluster) (glyph_in_back b))

  pub marked_in_back : (z : ℤ) (b : Buffer) → 0 < b.cursor → break_marked_at (moved_on gs z b) ≡ moved_on gs z (break_marked_at b)
  marked_in_back z b some =
      let before : length gs + b.cursor - 1 ≡ length gs + (b.cursor - 1) = omega (arith, some) in
      let after : length gs + b.cursor + 1 ≡ length gs + (b.cursor + 1) = omega arith in
      rw (before, after) (unsafe_in_back gs z b (b.cursor - 1) (b.cursor + 1))
