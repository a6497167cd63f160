-- The line that closing substitution leaves of a text is that of its two parts where it leaves the cut open.
use Rattle.std.proofs.Common.{◌≡◌, ◌∙◌, sym, ap, refl, ℕ, zero, suc, ◌+◌, ◌<◌, ◌≤◌, Bool, true, not, List, [], ◌∷◌, ◌++◌, map, length, take, drop, arith, nat_lt, take_at, drop_at, true≢false}
use Rattle.std.proofs.lemmas.Bool.Decides.{nat_tests}
use Rattle.std.proofs.lemmas.List.{length-append, length-map, map-append}
use Rattle.std.specs.Prelude.{All, pos}
use Rattle.aat_buffer.specs.Buffer.{Buffer}
use Rattle.aat_glyph.specs.declared.glyph.Direction.{Direction}
use Rattle.aat_glyph.specs.declared.glyph.hb_glyph_info_t.{hb_glyph_info_t}
use Rattle.aat_font.specs.Face.{chains_in, tables_of}
use Rattle.aat_font.specs.declared.face.hb_font_t.{hb_font_t}
use Rattle.aat_font.specs.declared.plan.Feature.{Feature}
use Rattle.aat_run.specs.Budget.{operations_left}
use Rattle.aat_map.specs.Requests.{requests_of}
use Rattle.aat_map.specs.SwitchedChains.{by_requests}
use Rattle.aat_kinds.specs.Kinds.{sizes_for}
use Rattle.aat_cut_kinds.specs.Parts.{back_part, front_part}
use Rattle.aat_closing.specs.ClosingCuts.{IsLimitedFrom}
use Rattle.aat_closing.specs.CutsAbout.{AreEvenAbout, ChainsLeaveLimitedPartsAbout}
use Rattle.aat_closing.specs.ClosingRuns.{Told}
use Rattle.aat_closing.specs.LimitedParts.{ChainsTellOfLimitedPartsAbout, TellsOfPart}
use Rattle.aat_closing.specs.ToldParts.{HasBetween, IsRise, TellsOpen}
use Rattle.aat_shaped_text.specs.Breaks.{is_rising}
use Rattle.aat_shaped_text.specs.Parts.{text_before, text_from}
use Rattle.aat_shaped_text.specs.ShapedText.{line_glyph, most_glyphs, most_operations, text_buffer, text_closing}
use Rattle.aat_shaped_text.specs.declared.text.TextGlyph.{TextGlyph}
use Rattle.aat_shaped_text.proofs.RisingText.{rising_line}
use Rattle.aat_shaped_text.proofs.TextCut.{AllText, Text, before_below, from_above, in_two}

-- what is said of the clusters of a text, said of its line
pub all_of_line : (f : TextGlyph → hb_glyph_info_t) → ((g : TextGlyph) → (f g).cluster ≡ g.cluster) → (p : ℕ → Bool) (P : ℕ → Type 0) → ((n : ℕ) → p n ≡ true → P n)
    → (text : Text) → AllText p text → All (λ (g : hb_glyph_info_t). P g.cluster) (map f text)
all_of_line f keeps p P holds [] all k d within = absurd (omega (arith, within))
all_of_line f keeps p P holds (g ∷ text) all zero d within = rw (keeps g) (holds g.cluster all.0)
all_of_line f keeps p P holds (g ∷ text) all (suc k) d within = all_of_line f keeps p P holds text all.1 k d (omega (arith, within))

pub enough_operations : (n : ℕ) → 16384 ≤ most_operations n
enough_operations n = omega arith

-- Closing substitution of a part of a text tells what is open, and takes no more operations than that of the text.
pub record TellsPart (face : hb_font_t) (d : Direction) (features : List Feature) (whole part : Text) : Type 0 where
  pub told : (text_closing face features (text_buffer face d features part)).is_told ≡ true
  pub takes :
      most_operations (length part) + operations_left (text_closing face features (text_buffer face d features whole)).buffer.max_ops
      ≤ most_operations (length whole) + operations_left (text_closing face features (text_buffer face d features part)).buffer.max_ops

module _ (own : ChainsLeaveLimitedPartsAbout) (tell : ChainsTellOfLimitedPartsAbout) (face : hb_font_t) (d : Direction) (features : List Feature) (text : Text) (c : ℕ) (rising : is_rising text ≡ true) where
  early : Text
  early = text_before c text

  late : Text
  late = text_from c text

  whole : Buffer
  whole = text_buffer face d features text

  f : TextGlyph → hb_glyph_info_t
  f = line_glyph face features

  abbrev closed : Text → Told
  closed xs = text_closing face features (text_buffer face d features xs)

  line_is : map f text ≡ map f early ++ map f late
  unfolding early late f
  line_is = ap (map (line_glyph face features)) (sym (in_two c text rising)) ∙ map-append (line_glyph face features) (text_before c text) (text_from c text)

  q : ℕ
  q = length early

  long : length (map f early) ≡ q
  unfolding q f
  long = length-map early (line_glyph face features)

  front_is : take q (map f text) ≡ map f early
  front_is = ap (take q) line_is ∙ take_at (map f early) (map f late) q long

  back_is : drop q (map f text) ≡ map f late
  back_is = ap (drop q) line_is ∙ drop_at (map f early) (map f late) q long

  limited_front : IsLimitedFrom (front_part q whole) (text_buffer face d features early)
  unfolding whole f
  limited_front =
      ap (λ (line : List hb_glyph_info_t). record whole { line = line; max_ops = pos (most_operations (length early)); max_len = most_glyphs (length early) }) (sym front_is)

  limited_back : IsLimitedFrom (back_part q whole) (text_buffer face d features late)
  unfolding whole f
  limited_back =
      ap (λ (line : List hb_glyph_info_t). record whole { line = line; max_ops = pos (most_operations (length late)); max_len = most_glyphs (length late) }) (sym back_is)

  rise : 0 < length early → 0 < length late → IsRise c q whole
  unfolding whole f q early late
  rise some_early some_late = record {
    behind_first = some_early;
    before_end =
        (let both = length-append (map (line_glyph face features) (text_before c text)) (map (line_glyph face features) (text_from c text)) in
        omega (arith, some_late, ap length line_is, both, long, length-map (text_from c text) (line_glyph face features)));
    before = rw front_is (all_of_line (line_glyph face features) (λ g. refl) (λ x. nat_lt x c) (λ n. n < c) (λ n e. grind (arith, nat_tests, e)) (text_before c text) (before_below c text));
    behind = rw back_is (all_of_line (line_glyph face features) (λ g. refl) (λ x. not (nat_lt x c)) (λ n. c ≤ n) (λ n e. grind (arith, nat_tests, e)) (text_from c text) (from_above c text));
    ordered = rising_line face features text rising;
    merges = λ apart. true≢false (sym apart);
  }

  -- the line of the whole is those of the parts
  pub parted :
      (low : ℕ) → AreEvenAbout low c d (by_requests (requests_of (tables_of face).feat features) (chains_in (tables_of face).morx))
      → 0 < length (text_before c text) → 0 < length (text_from c text) → TellsOpen c (closed text) → HasBetween low c (closed text).buffer.line
      → most_operations (length text) < operations_left (closed text).buffer.max_ops + 16384
      → (closed text).buffer.line ≡ (closed (text_before c text)).buffer.line ++ (closed (text_from c text)).buffer.line
  unfolding whole early late
  parted low even some_early some_late tells between spends =
      own (sizes_for face) d low c (by_requests (requests_of (tables_of face).feat features) (chains_in (tables_of face).morx)) (omega arith) even q
      (text_buffer face d features text) (text_buffer face d features (text_before c text)) (text_buffer face d features (text_from c text))
      refl refl refl (rise some_early some_late) tells between limited_front limited_back
      (omega (arith, spends, enough_operations (length (text_before c text)))) (omega (arith, spends, enough_operations (length (text_from c text))))

  -- of a part is told, by no more operations than the whole takes
  part_tells : (part : Text) → TellsOfPart (text_buffer face d features text) (text_buffer face d features part) (closed text) (closed part)
      → TellsPart face d features text part
  part_tells part it = record { told = it.told; takes = it.budget }

  -- both parts tell what is open
  pub parts_tell :
      (low : ℕ) → AreEvenAbout low c d (by_requests (requests_of (tables_of face).feat features) (chains_in (tables_of face).morx))
      → 0 < length (text_before c text) → 0 < length (text_from c text) → TellsOpen c (closed text) → HasBetween low c (closed text).buffer.line
      → most_operations (length text) < operations_left (closed text).buffer.max_ops + 16384
      → TellsPart face d features text (text_before c text) × TellsPart face d features text (text_from c text)
  unfolding whole early late
  parts_tell low even some_early some_late tells between spends =
      let both =
      tell (sizes_for face) d low c (by_requests (requests_of (tables_of face).feat features) (chains_in (tables_of face).morx)) (omega arith) even q
      (text_buffer face d features text) (text_buffer face d features (text_before c text)) (text_buffer face d features (text_from c text))
      refl refl refl (rise some_early some_late) tells between limited_front limited_back
      (omega (arith, spends, enough_operations (length (text_before c text)))) (omega (arith, spends, enough_operations (length (text_from c text)))) in
      (part_tells (text_before c text) both.0, part_tells (text_from c text) both.1)
