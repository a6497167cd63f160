-- Where kerning is not of pairs along the line alone, or there is none, texts are told breaks by where kerning leaves a line open.
use Rattle.std.proofs.Common.{◌≡◌, ◌∙◌, sym, ap, ℕ, ◌<◌, true, false, cond, List, ◌++◌, length, arith, subst}
use Rattle.std.proofs.lemmas.List.{length-map}
use Rattle.std.specs.Prelude.{ℤ}
use Rattle.aat_glyph.specs.Directions.{is_backward}
use Rattle.aat_glyph.specs.declared.glyph.Direction.{Direction}
use Rattle.aat_font.specs.declared.face.hb_font_t.{hb_font_t}
use Rattle.aat_font.specs.declared.plan.Feature.{Feature}
use Rattle.aat_run.specs.Budget.{operations_left}
use Rattle.aat_kerning.specs.Cut.{ordered_line, ordered_positions}
use Rattle.aat_kerning.specs.KerningLawful.{KerningChangesLittle}
use Rattle.aat_kerning.proofs.Marked.{line_same}
use Rattle.aat_glyph.specs.placement.TrackingLaws.{PartsAreTrackedApart}
use Rattle.aat_cut_kinds.specs.KerningCuts.{HaveEnough}
use Rattle.aat_shaped_text.specs.Breaks.{is_rising, is_unchained, kerns_by_pairs, substitutes_evenly}
use Rattle.aat_shaped_text.specs.KernedBreaks.{kerning_opens}
use Rattle.aat_shaped_text.specs.ShapedText.{advanced_closed, closed_text, is_open_by_kerning, is_open_by_marks, kerned_closed, may_break_line, may_cut_text, tells_breaks}
use Rattle.aat_shaped_text.proofs.BreakPlaces.{MeetsAt, may_break_is}
use Rattle.aat_shaped_text.proofs.Looks.{plain}
use Rattle.aat_shaped_text.proofs.MarkedParts.{TellsRising}
use Rattle.aat_shaped_text.proofs.OpenParts.{positions_open}
use Rattle.aat_shaped_text.proofs.PartsHold.{Says, Way, all_three, tells_all, three, x}
use Rattle.aat_shaped_text.proofs.SpotsRuns.{Glyphs}
use Rattle.aat_shaped_text.proofs.TextCut.{Text}
use Rattle.aat_shaped_text.proofs.TextLooks.{Behind, drawn, drawn_plain_line, kerned, line_before}
use Rattle.aat_shaped_text.proofs.TextParted.{enough_operations}
use Rattle.aat_shaped_text.proofs.Texts.{length-turned, turned}

-- what is said of a place that is told so
pub record SaysOpenly (face : hb_font_t) (d : Direction) (features : List Feature) (text : Text) (i : ℕ) : Type 0 where
  pub rising : is_rising text ≡ true
  pub tells : tells_breaks face d features text ≡ true
  pub may : may_break_line face d features (ordered_line (advanced_closed face d features text)) i ≡ true
  pub opens : kerning_opens face d features (advanced_closed face d features text) i ≡ true
  pub unchained : is_unchained d (ordered_positions (kerned_closed face d features text)) i ≡ true

module _ (face : hb_font_t) (d : Direction) (features : List Feature) (runs : kerns_by_pairs face d ≡ false) (text : Text) (i : ℕ) where
  pub says_openly : may_cut_text face d features text i ≡ true → SaysOpenly face d features text i
  says_openly may =
      let b = advanced_closed face d features text in
      let marks = is_open_by_marks face d features text i in
      let opens = is_open_by_kerning face d features text i in
      let all = three (is_rising text) (tells_breaks face d features text) (cond (kerns_by_pairs face d) marks opens) may in
      let both =
      three (may_break_line face d features (ordered_line b) i) (kerning_opens face d features b i)
      (is_unchained d (ordered_positions (kerned_closed face d features text)) i) (sym (ap (λ t. cond t marks opens) runs) ∙ all.2) in
      record { rising = all.0; tells = all.1; may = both.0; opens = both.1; unchained = both.2 }

  pub may_openly : SaysOpenly face d features text i → may_cut_text face d features text i ≡ true
  may_openly says =
      let b = advanced_closed face d features text in
      let marks = is_open_by_marks face d features text i in
      let opens = is_open_by_kerning face d features text i in
      all_three (is_rising text) (tells_breaks face d features text) (cond (kerns_by_pairs face d) marks opens) says.rising says.tells
      (ap (λ t. cond t marks opens) runs
      ∙ all_three (may_break_line face d features (ordered_line b) i) (kerning_opens face d features b i)
      (is_unchained d (ordered_positions (kerned_closed face d features text)) i) says.may says.opens says.unchained)

module _ (little : KerningChangesLittle) (tracks : PartsAreTrackedApart)
    (v : ℤ) (face : hb_font_t) (d : Direction) (features : List Feature) (runs : kerns_by_pairs face d ≡ false)
  where
    abbrev pub c : Behind face d features
    c = x little tracks v face d features

    pub says_open : (text : Text) (i : ℕ) → may_cut_text face d features text i ≡ true
        → Says face d features text (turned (is_backward d) (closed_text face d features text).buffer.line) i
    says_open text i may =
        let says = says_openly face d features runs text i may in
        record {
          rising = says.rising;
          tells = says.tells;
          may =
              may_break_is (substitutes_evenly face d features) features (turned (is_backward d) (closed_text face d features text).buffer.line) i
              (subst (λ (zs : Glyphs). may_break_line face d features zs i ≡ true) (line_before face d features c text) says.may);
        }

    -- the budgets of parts are enough
    module _ (text first second : Text) (i : ℕ) (says : SaysOpenly face d features text i)
        (first_more : TellsRising face d features text first) (second_more : TellsRising face d features text second)
      where
        pub some_left : 0 < operations_left (kerned_closed face d features text).max_ops
        some_left = let most = (tells_all face d features text says.tells).few in omega (arith, most, enough_operations (length text))

        pub have_enough :
            HaveEnough (operations_left (kerned_closed face d features text).max_ops) (advanced_closed face d features text)
            (advanced_closed face d features first) (advanced_closed face d features second)
        have_enough =
            let most = (tells_all face d features text says.tells).few in
            let of_first = first_more.more.takes in
            let of_second = second_more.more.takes in
            record {
              front = omega (arith, most, of_first, enough_operations (length first));
              back = omega (arith, most, of_second, enough_operations (length second));
            }

    pub splits_open :
        (text first second : Text) (k i : ℕ) → may_cut_text face d features text i ≡ true
        → MeetsAt (drawn face d features c text).line k i
        → turned (is_backward d) (c.substituted text).line
        ≡ turned (is_backward d) (c.substituted first).line ++ turned (is_backward d) (c.substituted second).line
        → length (c.substituted first).line ≡ i → TellsRising face d features text first → TellsRising face d features text second
        → ordered_positions (kerned face d features c text)
        ≡ ordered_positions (kerned face d features c first) ++ ordered_positions (kerned face d features c second)
    splits_open text first second k i may m whole long first_more second_more =
        let says = says_openly face d features runs text i may in
        let within = m.before_end in
        positions_open face d features c text first second i whole long m.behind_first
        (omega (
          arith,
          within,
          sym (length-map (drawn face d features c text).line plain),
          ap length (drawn_plain_line face d features c text),
          length-map (turned (is_backward d) (c.substituted text).line) plain,
          length-turned (is_backward d) (c.substituted text).line,
        ))
        says.opens (some_left text first second i says first_more second_more) (have_enough text first second i says first_more second_more)

    abbrev pub way_open : Way little tracks v face d features
    way_open = record {
      line = λ text. (closed_text face d features text).buffer.line;
      marked = λ text. line_same (closed_text face d features text).buffer.line;
      says = says_open;
      splits = splits_open;
      unchained = λ text i may. (says_openly face d features runs text i may).unchained;
    }
