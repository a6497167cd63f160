-- Where pairs alone kern, the positions of a text that is cut at a place where it can be are those of its parts.
use Rattle.std.proofs.Common.{◌≡◌, ◌∙◌, sym, ap, ℕ, true, List, ◌++◌, map, take, drop, length, take_at, drop_at}
use Rattle.std.proofs.lemmas.List.{length-map, map-append}
use Rattle.aat_glyph.specs.Directions.{is_backward}
use Rattle.aat_glyph.specs.declared.glyph.Direction.{Direction}
use Rattle.aat_font.specs.declared.face.hb_font_t.{hb_font_t}
use Rattle.aat_font.specs.declared.plan.Feature.{Feature}
use Rattle.aat_kerning.specs.Cut.{AreParts, IsCutPlace, PartsAreKernedApart, ordered_line, ordered_positions}
use Rattle.aat_shaped_text.specs.Breaks.{kerns_apart, skips_of}
use Rattle.aat_shaped_text.proofs.KernedText.{text_can_be_cut, text_pairs_alone}
use Rattle.aat_shaped_text.proofs.SpotsRuns.{Glyphs}
use Rattle.aat_shaped_text.proofs.TextCut.{Text}
use Rattle.aat_shaped_text.proofs.TextLooks.{Behind, advance_at, advanced_text, direction_is, kerned, line_before, ordered, positions_before}
use Rattle.aat_shaped_text.proofs.Texts.{length-turned, turned}

module _
    (face : hb_font_t) (d : Direction) (features : List Feature) (x : Behind face d features) (apart : PartsAreKernedApart)
    (pairs : kerns_apart face d ≡ true) (text first second : Text) (i : ℕ)
    (whole :
    turned (is_backward d) (x.substituted text).line
    ≡ turned (is_backward d) (x.substituted first).line ++ turned (is_backward d) (x.substituted second).line)
    (short : length (x.substituted first).line ≡ i) (cut : IsCutPlace (skips_of face) i (kerned face d features x text))
  where
    abbrev before : Glyphs
    before = ordered face d features x first

    abbrev behind : Glyphs
    behind = ordered face d features x second

    long_is : length before ≡ i
    long_is = length-turned (is_backward d) (x.substituted first).line ∙ short

    -- the parts of the buffer that is kerned
    parts_are : AreParts i (advanced_text face d features x text) (advanced_text face d features x first) (advanced_text face d features x second)
    parts_are =
        let a = advance_at face d features x in
        let line : ordered_line (advanced_text face d features x text) ≡ before ++ behind = line_before face d features x text ∙ whole in
        let places : ordered_positions (advanced_text face d features x text) ≡ map a before ++ map a behind =
        positions_before face d features x text ∙ (ap (map a) whole ∙ map-append a before behind) in
        let m : length (map a before) ≡ i = length-map before a ∙ long_is in
        record {
          front = record {
            line = line_before face d features x first ∙ sym (ap (take i) line ∙ take_at before behind i long_is);
            places = positions_before face d features x first ∙ sym (ap (take i) places ∙ take_at (map a before) (map a behind) i m);
            direction = direction_is face d features x first ∙ sym (direction_is face d features x text);
          };
          back = record {
            line = line_before face d features x second ∙ sym (ap (drop i) line ∙ drop_at before behind i long_is);
            places = positions_before face d features x second ∙ sym (ap (drop i) places ∙ drop_at (map a before) (map a behind) i m);
            direction = direction_is face d features x second ∙ sym (direction_is face d features x text);
          };
        }

    pub positions_apart :
        ordered_positions (kerned face d features x text)
        ≡ ordered_positions (kerned face d features x first) ++ ordered_positions (kerned face d features x second)
    positions_apart =
        text_can_be_cut face features (advanced_text face d features x text) apart i
        (advanced_text face d features x first) (advanced_text face d features x second)
        (text_pairs_alone face features (advanced_text face d features x text) (ap (kerns_apart face) (direction_is face d features x text) ∙ pairs))
        cut
        parts_are
