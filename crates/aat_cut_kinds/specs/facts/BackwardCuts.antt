-- A run on the line in the opposite order leaves the parts that the run itself leaves of the line turned round.
use Rattle.std.proofs.Common.{◌≡◌, ◌∙◌, ℕ, ◌-◌, ◌<◌, ◌≤◌, Bool, List, ◌++◌, length, take, drop, reverse, ap, arith, sym, length-drop}
use Rattle.std.proofs.lemmas.List.{drop_at, get_or-reverse, length-reverse, reverse-append, take-append-drop, take_at}
use Rattle.std.specs.Prelude.{All}
use Rattle.aat_buffer.specs.Buffer.{Buffer, no_glyph, reversed}
use Rattle.aat_buffer.specs.Marks.{cluster_at}
use Rattle.aat_glyph.specs.declared.glyph.hb_glyph_info_t.{hb_glyph_info_t}
use Rattle.aat_kinds.specs.Kinds.{reversed_run}
use Rattle.aat_run.specs.Outcome.{Outcome}
use Rattle.aat_cut_kinds.specs.Parts.{LeftInParts, back_part, front_part}
use Rattle.aat_cut_kinds.specs.Cuts.{IsUnmarkedBackwardRise, IsUnmarkedFall, LeavesParts}

-- the parts of a line turned round
module _ {A : Type 0} (q : ℕ) (line : List A) where
  turned : reverse line ≡ reverse (drop q line) ++ reverse (take q line)
  turned = ap reverse (sym (take-append-drop q line)) ∙ reverse-append (take q line) (drop q line)

  long : length (reverse (drop q line)) ≡ length line - q
  long = length-reverse (drop q line) ∙ length-drop q line

  pub front_turned : take (length line - q) (reverse line) ≡ reverse (drop q line)
  front_turned = ap (take (length line - q)) turned ∙ take_at (reverse (drop q line)) (reverse (take q line)) (length line - q) long

  pub back_turned : drop (length line - q) (reverse line) ≡ reverse (take q line)
  back_turned = ap (drop (length line - q)) turned ∙ drop_at (reverse (drop q line)) (reverse (take q line)) (length line - q) long

pub all_turned : {A : Type 0} (P : A → Type 0) (xs : List A) → All P xs → All P (reverse xs)
all_turned P xs all k d within =
    let same = length-reverse xs in
    rw (get_or-reverse xs k d (omega (arith, same, within))) (all (length xs - 1 - k) d (omega (arith, same, within)))

pub parts_turned : (whole front back : Buffer) → LeftInParts whole front back → LeftInParts (reversed whole) (reversed back) (reversed front)
parts_turned whole front back parts =
    record { line = ap reverse parts.line ∙ reverse-append front.line back.line; front_budget = parts.back_budget; back_budget = parts.front_budget }

module _ (run : Buffer → Outcome) (q : ℕ) (b : Buffer) where
  pub turned_leaves_parts : LeavesParts run (length b.line - q) (reversed b) → LeavesParts (reversed_run run) q b
  turned_leaves_parts parts =
      let front : (run (reversed (front_part q b))).buffer ≡ (run (back_part (length b.line - q) (reversed b))).buffer =
      ap (λ (line : List hb_glyph_info_t). (run (record (reversed b) { line = line })).buffer) (sym (back_turned q b.line)) in
      let back : (run (reversed (back_part q b))).buffer ≡ (run (front_part (length b.line - q) (reversed b))).buffer =
      ap (λ (line : List hb_glyph_info_t). (run (record (reversed b) { line = line })).buffer) (sym (front_turned q b.line)) in
      rw (front, back)
      (parts_turned (run (reversed b)).buffer (run (front_part (length b.line - q) (reversed b))).buffer (run (back_part (length b.line - q) (reversed b))).buffer parts)

  -- where the clusters rise along the line, they fall along the line turned round
  pub fall_of_rise : (on : ℕ → Bool) (c : ℕ) → IsUnmarkedBackwardRise (reversed_run run) on c q b → IsUnmarkedFall run on c (length b.line - q) (reversed b)
  fall_of_rise on c rise =
      let some = rise.behind_first in
      let within = rise.before_end in
      let same = length-reverse b.line in
      let seen : cluster_at (reverse b.line) (length b.line - q) ≡ cluster_at b.line (q - 1) =
      ap (λ (g : hb_glyph_info_t). g.cluster) (get_or-reverse b.line (length b.line - q) no_glyph (omega (arith, some, within)))
      ∙ ap (λ (k : ℕ). cluster_at b.line k) (let k : length b.line - 1 - (length b.line - q) ≡ q - 1 = omega (arith, some, within) in k) in
      record {
        behind_first = omega (arith, within);
        before_end = omega (arith, some, within, same);
        split = record {
          before = rw (front_turned q b.line) (all_turned (λ (g : hb_glyph_info_t). c ≤ g.cluster) (drop q b.line) rise.split.behind);
          behind = rw (back_turned q b.line) (all_turned (λ (g : hb_glyph_info_t). g.cluster < c) (take q b.line) rise.split.before);
        };
        is_on = ap on seen ∙ rise.is_on;
        unflagged = rise.unflagged;
        budget = rise.budget;
      }
