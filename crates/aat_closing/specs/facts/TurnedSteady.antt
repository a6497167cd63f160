-- A run over the line in the opposite order is steady where the run itself is where the clusters fall.
use Rattle.std.proofs.Common.{◌≡◌, ◌∙◌, ℕ, ◌-◌, ◌<◌, ◌≤◌, not, Bool, true, false, List, length, take, drop, reverse, Option, None, refl, ap, sym, arith}
use Rattle.std.proofs.lemmas.Bool.{and_parts}
use Rattle.std.proofs.lemmas.List.{get_or-reverse, length-reverse, reverse-reverse}
use Rattle.std.specs.Prelude.{option_map}
use Rattle.aat_buffer.specs.Buffer.{Buffer, no_glyph, reversed}
use Rattle.aat_buffer.specs.Clusters.{ClustersMerge, ComesFrom, IsFallingLine}
use Rattle.aat_buffer.specs.Marks.{cluster_at}
use Rattle.aat_glyph.specs.declared.glyph.GlyphPosition.{GlyphPosition}
use Rattle.aat_glyph.specs.declared.glyph.hb_glyph_info_t.{hb_glyph_info_t}
use Rattle.aat_run.specs.Budget.{operations_left}
use Rattle.aat_run.specs.Laws.{HasOrderOf, SameSettings}
use Rattle.aat_cut_kinds.specs.Open.{is_open}
use Rattle.aat_cut_kinds.specs.Parts.{back_part, front_part}
use Rattle.aat_cut_kinds.specs.facts.BackwardCuts.{all_turned, back_turned, front_turned, parts_turned}
use Rattle.aat_closing.specs.ClosingRuns.{Told, turned}
use Rattle.aat_closing.specs.facts.Limited.{LimitedTold}
use Rattle.aat_closing.specs.facts.Steady.{IsSteady}
use Rattle.aat_closing.specs.ToldParts.{HasBetween, IsFall, IsRise, TellsOpen, ToldInParts}
use Rattle.aat_closing.specs.facts.FirstOpen.{falling_turned, open_turned, rising_turned}

-- what is asked of the run
pub record FallsSteady (low c : ℕ) (run : Buffer → Told) (splits : Bool) : Type 0 where
  pub order : (b : Buffer) → HasOrderOf b (run b).buffer
  pub settings : (b : Buffer) → SameSettings b (run b).buffer
  pub cursor : (b : Buffer) → b.cursor ≡ 0 → (run b).buffer.cursor ≡ 0
  pub positions : (b : Buffer) → b.positions ≡ None → (run b).buffer.positions ≡ None
  pub budget : (b : Buffer) → operations_left (run b).buffer.max_ops ≤ operations_left b.max_ops
  pub longer : (b : Buffer) → length b.line ≤ length (run b).buffer.line
  pub opens :
      splits ≡ false → (d : ℕ) (b : Buffer) → IsFallingLine b.line → ClustersMerge b.cluster_level
      → is_open d (run b).buffer.line ≡ true → is_open d b.line ≡ true
  pub limited : LimitedTold run
  pub parts :
      splits ≡ false → (q : ℕ) (b : Buffer) → IsFall c q b → HasBetween low c (run b).buffer.line → TellsOpen c (run b)
      → ToldInParts (run b) (run (front_part q b)) (run (back_part q b))

unsplit : (a : Bool) → not a ≡ true → a ≡ false
unsplit true e = absurd (cc)
unsplit false e = refl

comes_turned : (old new : List hb_glyph_info_t) → ComesFrom (reverse old) new → ComesFrom old (reverse new)
comes_turned old new from k within =
    let long = length-reverse new in
    let first : k < length new = omega (arith, within, long) in
    let source = from (length new - 1 - k) (omega (arith, first)) in
    let olds = length-reverse old in
    let inside = source.1 in
    let there : source.0 < length old = omega (arith, inside, olds) in (
      length old - 1 - source.0,
      omega (arith, there),
      ap (λ (g : hb_glyph_info_t). g.cluster) (get_or-reverse new k no_glyph first) ∙ (source.2 ∙ ap (λ (g : hb_glyph_info_t). g.cluster) (get_or-reverse old source.0 no_glyph there)),
    )

between_turned : (low c : ℕ) (line : List hb_glyph_info_t) → HasBetween low c line → HasBetween low c (reverse line)
between_turned low c line it =
    let within = it.1 in
    let high = it.2 in
    let below = it.3 in
    let long = length-reverse line in
    let there : length line - 1 - it.0 < length (reverse line) = omega (arith, within, long) in
    let back : length line - 1 - (length line - 1 - it.0) ≡ it.0 = omega (arith, within) in
    let same : cluster_at (reverse line) (length line - 1 - it.0) ≡ cluster_at line it.0 =
    ap (λ (g : hb_glyph_info_t). g.cluster) (get_or-reverse line (length line - 1 - it.0) no_glyph (omega (arith, within))) ∙ ap (cluster_at line) back in
    (length line - 1 - it.0, there, omega (arith, high, same), omega (arith, below, same))

none_turned : (b : Buffer) → b.positions ≡ None → (reversed b).positions ≡ None
none_turned b none = ap (λ (p : Option (List GlyphPosition)). option_map reverse p) none

module _ (low c : ℕ) (run : Buffer → Told) (splits : Bool) (falls : FallsSteady low c run splits) where
  module _ (q : ℕ) (b : Buffer) (rise : IsRise c q b) (between : HasBetween low c (turned splits run b).buffer.line) where
    n : ℕ
    n = length b.line - q

    fall : IsFall c n (reversed b)
    unfolding n
    fall =
        let some = rise.behind_first in
        let within = rise.before_end in
        let same = length-reverse b.line in
        record {
          behind_first = omega (arith, within);
          before_end = omega (arith, some, within, same);
          before = rw (front_turned q b.line) (all_turned (λ (g : hb_glyph_info_t). c ≤ g.cluster) (drop q b.line) rise.behind);
          behind = rw (back_turned q b.line) (all_turned (λ (g : hb_glyph_info_t). g.cluster < c) (take q b.line) rise.before);
          ordered = falling_turned b.line rise.ordered;
          merges = rise.merges;
        }

    turned_parts : TellsOpen c (turned splits run b) → ToldInParts (turned splits run b) (turned splits run (front_part q b)) (turned splits run (back_part q b))
    unfolding n
    turned_parts tells =
        let flags = and_parts (run (reversed b)).is_told (not splits) tells.told in
        let none = unsplit splits flags.1 in
        let here : TellsOpen c (run (reversed b)) = record {
          told = flags.0;
          opens = rw (reverse-reverse (run (reversed b)).buffer.line) at (open_turned c (reverse (run (reversed b)).buffer.line) tells.opens);
          budget = tells.budget;
        } in
        let there : HasBetween low c (run (reversed b)).buffer.line = rw (reverse-reverse (run (reversed b)).buffer.line) at (between_turned low c (reverse (run (reversed b)).buffer.line) between) in
        let it = falls.parts none (length b.line - q) (reversed b) fall there here in
        let front : reversed (front_part q b) ≡ back_part (length b.line - q) (reversed b) = ap (λ (line : List hb_glyph_info_t). record (reversed b) { line = line }) (sym (back_turned q b.line)) in
        let back : reversed (back_part q b) ≡ front_part (length b.line - q) (reversed b) = ap (λ (line : List hb_glyph_info_t). record (reversed b) { line = line }) (sym (front_turned q b.line)) in
        rw (front, back)
        (record {
          parts = parts_turned (run (reversed b)).buffer (run (front_part (length b.line - q) (reversed b))).buffer (run (back_part (length b.line - q) (reversed b))).buffer it.parts;
          front_told = rw (it.back_told, flags.1) refl;
          back_told = rw (it.front_told, flags.1) refl;
        })

  pub turned_steady : IsSteady low c (turned splits run)
  turned_steady = record {
    order = λ b.
        let kept = falls.order (reversed b) in
        record {
          rising = λ merges ordered. rising_turned (run (reversed b)).buffer.line (kept.falling merges (falling_turned b.line ordered));
          falling = λ merges ordered. falling_turned (run (reversed b)).buffer.line (kept.rising merges (rising_turned b.line ordered));
          clusters = comes_turned b.line (run (reversed b)).buffer.line kept.clusters;
        };
    settings = λ b. let kept = falls.settings (reversed b) in record { direction = kept.direction; cluster_level = kept.cluster_level; flags = kept.flags; scratch_flags = kept.scratch_flags; max_len = kept.max_len; successful = kept.successful };
    cursor = λ b front. falls.cursor (reversed b) front;
    positions = λ b none. none_turned (run (reversed b)).buffer (falls.positions (reversed b) (none_turned b none));
    budget = λ b. falls.budget (reversed b);
    longer = λ b. let more = falls.longer (reversed b) in let old = length-reverse b.line in let new = length-reverse (run (reversed b)).buffer.line in omega (arith, more, old, new);
    opens = λ d b ordered merges told is.
        let flags = and_parts (run (reversed b)).is_told (not splits) told in
        let none = unsplit splits flags.1 in
        let here = rw (reverse-reverse (run (reversed b)).buffer.line) at (open_turned d (reverse (run (reversed b)).buffer.line) is) in
        rw (reverse-reverse b.line) at (open_turned d (reverse b.line) (falls.opens none d (reversed b) (falling_turned b.line ordered) merges here));
    limited = λ b y n some fewer.
        let it = falls.limited (reversed b) y n some fewer in
        (ap reverse it.0, rw it.1 refl, it.2, ap reversed it.3, it.4);
    parts = λ q b rise between tells. turned_parts q b rise between tells;
  }
