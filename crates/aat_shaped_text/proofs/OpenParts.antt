-- Where kerning leaves a line open, the positions of a text are those of its parts.
use Rattle.std.proofs.Common.{◌≡◌, ◌∙◌, sym, ap, refl, ℕ, ◌+◌, ◌-◌, ◌<◌, ◌≤◌, Bool, true, false, cond, List, [], ◌++◌, map, reverse, length, arith, is_some, pos, subst}
use Rattle.std.proofs.lemmas.List.{length-append, length-map, map-append, reverse-append, reverse-reverse}
use Rattle.std.specs.Prelude.{unwrap_or}
use Rattle.aat_buffer.specs.Buffer.{Buffer, position_list, with_max_ops}
use Rattle.aat_glyph.specs.Directions.{is_backward}
use Rattle.aat_glyph.specs.declared.glyph.Direction.{Direction}
use Rattle.aat_glyph.specs.declared.glyph.GlyphPosition.{GlyphPosition}
use Rattle.aat_glyph.specs.declared.glyph.hb_glyph_info_t.{hb_glyph_info_t}
use Rattle.aat_font.specs.Face.{kern_in, kerx_in, tables_of}
use Rattle.aat_font.specs.declared.face.hb_font_t.{hb_font_t}
use Rattle.aat_font.specs.declared.plan.Feature.{Feature}
use Rattle.aat_run.specs.Budget.{operations_left}
use Rattle.aat_kerning.specs.Cut.{ordered_positions}
use Rattle.aat_kerning.specs.Positioning.{kern_positioning, kerx_positioning}
use Rattle.aat_cut_kinds.specs.KernedTables.{by_kern, by_kerx}
use Rattle.aat_cut_kinds.specs.KerningCuts.{HaveEnough, KeepsParts, KernedRun, StandIn, seen_of}
use Rattle.aat_cut_kinds.specs.KerningOpens.{ArePartsFor, KeepsOpens}
use Rattle.aat_cut_kinds.specs.facts.KernedTables.{kern_keeps, kern_same, kerx_keeps, kerx_same}
use Rattle.aat_cut_kinds.specs.facts.TableOpens.{tables_keep_opens}
use Rattle.aat_shaped_text.specs.KernedBreaks.{kerning_opens, table_run}
use Rattle.aat_shaped_text.specs.ShapedText.{text_kerning}
use Rattle.aat_shaped_text.specs.TextFeatures.{requests_kerning}
use Rattle.aat_shaped_text.proofs.SpotsRuns.{Glyphs}
use Rattle.aat_shaped_text.proofs.TextCut.{Text}
use Rattle.aat_shaped_text.proofs.TextLooks.{Behind, advance_at, advanced_text, direction_is, kerned, ordered_places_are, places, positions_are}
use Rattle.aat_shaped_text.proofs.Texts.{turned}

-- the runs of the table in use keep parts, and leave what kerning leaves
pub table_keeps : (face : hb_font_t) (d : Direction) (features : List Feature) → KeepsParts 8 (table_run face d features)
table_keeps face d features = by (is_some (tables_of face).kerx)
  where
    by :
        (t : Bool)
        → KeepsParts 8
        (cond t (by_kerx (requests_kerning features) 8 (tables_of face).ankr (kerx_in (tables_of face).kerx) d)
        (by_kern (requests_kerning features) 8 (kern_in (tables_of face).kern) d))
    by true = kerx_keeps 8 refl (requests_kerning features) (tables_of face).ankr (kerx_in (tables_of face).kerx) d
    by false = kern_keeps 8 refl (requests_kerning features) (kern_in (tables_of face).kern) d

pub table_same : (face : hb_font_t) (d : Direction) (features : List Feature) (b : Buffer) → b.direction ≡ d → (text_kerning face features b).buffer ≡ (table_run face d features).left b
table_same face d features b is = by (is_some (tables_of face).kerx)
  where
    by :
        (t : Bool)
        → (cond t (kerx_positioning (requests_kerning features) 8 (tables_of face).ankr (kerx_in (tables_of face).kerx) b)
        (kern_positioning (requests_kerning features) 8 (kern_in (tables_of face).kern) b)).buffer
        ≡ (cond t (by_kerx (requests_kerning features) 8 (tables_of face).ankr (kerx_in (tables_of face).kerx) d)
        (by_kern (requests_kerning features) 8 (kern_in (tables_of face).kern) d)).left b
    by true = kerx_same 8 refl (requests_kerning features) (tables_of face).ankr (kerx_in (tables_of face).kerx) d b is
    by false = kern_same 8 refl (requests_kerning features) (kern_in (tables_of face).kern) d b is

-- the runs of a table keep open places
pub table_opens : (face : hb_font_t) (d : Direction) (features : List Feature) → KeepsOpens 8 (table_run face d features)
table_opens face d features = by (is_some (tables_of face).kerx)
  where
    by :
        (t : Bool)
        → KeepsOpens 8
        (cond t (by_kerx (requests_kerning features) 8 (tables_of face).ankr (kerx_in (tables_of face).kerx) d)
        (by_kern (requests_kerning features) 8 (kern_in (tables_of face).kern) d))
    by true = tables_keep_opens.kerx (requests_kerning features) 8 (tables_of face).ankr (kerx_in (tables_of face).kerx) d refl
    by false = tables_keep_opens.kern (requests_kerning features) 8 (kern_in (tables_of face).kern) d refl

-- a line that is turned back
pub turned_back : (gs front behind : Glyphs) → reverse gs ≡ reverse front ++ reverse behind → gs ≡ behind ++ front
turned_back gs front behind same =
    sym (reverse-reverse gs)
    ∙ (ap reverse same
    ∙ (reverse-append (reverse front) (reverse behind)
    ∙ (ap (λ zs. zs ++ reverse (reverse front)) (reverse-reverse behind) ∙ ap (λ zs. behind ++ zs) (reverse-reverse front))))

module _ (face : hb_font_t) (d : Direction) (features : List Feature) (x : Behind face d features) where
  abbrev pub before : Text → Buffer
  before text = advanced_text face d features x text

  abbrev pub run : KernedRun
  run = table_run face d features

  abbrev a : hb_glyph_info_t → GlyphPosition
  a = advance_at face d features x

  pub kerned_is : (text : Text) → kerned face d features x text ≡ run.left (before text)
  kerned_is text = table_same face d features (before text) (direction_is face d features x text)

  list_is : (text : Text) → position_list (before text) ≡ map a (x.substituted text).line
  list_is text = ap (λ o. unwrap_or o []) (positions_are face d features x text)

  -- two parts in reading order
  module _ (text front back : Text) (q : ℕ) (joined : (x.substituted text).line ≡ (x.substituted front).line ++ (x.substituted back).line)
      (short : length (x.substituted front).line ≡ q)
    where
      pub stand : StandIn 8 q (before text) (before front) (before back)
      stand = record {
        front_direction = direction_is face d features x front ∙ sym (direction_is face d features x text);
        back_direction = direction_is face d features x back ∙ sym (direction_is face d features x text);
        front_length = short;
        glyphs = ap (map (seen_of 8)) joined ∙ map-append (seen_of 8) (x.substituted front).line (x.substituted back).line;
        positions =
            list_is text
            ∙ (ap (map a) joined
            ∙ (map-append a (x.substituted front).line (x.substituted back).line
            ∙ (ap (λ zs. zs ++ map a (x.substituted back).line) (sym (list_is front)) ∙ ap (λ zs. position_list (before front) ++ zs) (sym (list_is back)))));
        front_placed = ap length (list_is front) ∙ length-map (x.substituted front).line a;
        back_placed = ap length (list_is back) ∙ length-map (x.substituted back).line a;
      }

      pub kept_parts :
          (least : ℕ) → 0 < q → q < length (x.substituted text).line → run.opens q (before text) ≡ true → 0 < least
          → least ≤ operations_left (kerned face d features x text).max_ops → HaveEnough least (before text) (before front) (before back)
          → StandIn 8 q (run.left (before text)) (run.left (before front)) (run.left (before back))
          × HaveEnough least (run.left (before text)) (run.left (before front)) (run.left (before back))
      kept_parts least behind inside opens some most enough =
          let same = ap (λ (b : Buffer). operations_left b.max_ops) (kerned_is text) in
          (table_keeps face d features).parts q least (before text) (before front) (before back) stand behind inside opens some (omega (arith, most, same)) enough

      -- the runs over a part take no more of its budget than those over the whole take of that one's, where it is no greater
      module _ (behind : 0 < q) (inside : q < length (x.substituted text).line) (opens : run.opens q (before text) ≡ true)
          (some : 0 < operations_left (kerned face d features x text).max_ops)
        where
          abbrev had : Text → ℕ
          had part = operations_left (before part).max_ops

          abbrev has : Text → ℕ
          has part = operations_left (kerned face d features x part).max_ops

          has_is : (part : Text) → has part ≡ operations_left (run.left (before part)).max_ops
          has_is part = ap (λ (b : Buffer). operations_left b.max_ops) (kerned_is part)

          pub front_spends : had text < had front + has text → has text < has front + ((had text - had front) + 1)
          front_spends enough =
              let most = (had text - had front) + 1 in
              let big = with_max_ops (before back) (pos (had text + 1)) in
              let stands : StandIn 8 q (before text) (before front) big = record {
                front_direction = stand.front_direction;
                back_direction = stand.back_direction;
                front_length = stand.front_length;
                glyphs = stand.glyphs;
                positions = stand.positions;
                front_placed = stand.front_placed;
                back_placed = stand.back_placed;
              } in
              let left = ((table_keeps face d features).parts q most (before text) (before front) big stands behind inside opens (omega arith)
              (omega (arith, enough, some, has_is text)) (record { front = omega arith; back = omega arith })).1.front in
              omega (arith, left, has_is text, has_is front)

          pub back_spends : had text < had back + has text → has text < has back + ((had text - had back) + 1)
          back_spends enough =
              let most = (had text - had back) + 1 in
              let big = with_max_ops (before front) (pos (had text + 1)) in
              let stands : StandIn 8 q (before text) big (before back) = record {
                front_direction = stand.front_direction;
                back_direction = stand.back_direction;
                front_length = stand.front_length;
                glyphs = stand.glyphs;
                positions = stand.positions;
                front_placed = stand.front_placed;
                back_placed = stand.back_placed;
              } in
              let left = ((table_keeps face d features).parts q most (before text) big (before back) stands behind inside opens (omega arith)
              (omega (arith, enough, some, has_is text)) (record { front = omega arith; back = omega arith })).1.back in
              omega (arith, left, has_is text, has_is back)

          -- and the parts are open where the whole is
          pub parts_for : HaveEnough (operations_left (kerned face d features x text).max_ops) (before text) (before front) (before back)
              → ArePartsFor run 8 q (operations_left (kerned face d features x text).max_ops) (before text) (before front) (before back)
          parts_for enough = record {
            stand = stand;
            behind_first = behind;
            inside = inside;
            opens = opens;
            some = some;
            lasts = (let same = has_is text in omega (arith, same));
            enough = enough;
          }

      pub places_kept : StandIn 8 q (run.left (before text)) (run.left (before front)) (run.left (before back))
          → places face d features x text ≡ places face d features x front ++ places face d features x back
      places_kept stands =
          ap position_list (kerned_is text)
          ∙ (stands.positions
          ∙ (ap (λ (b : Buffer). position_list b ++ position_list (run.left (before back))) (sym (kerned_is front))
          ∙ ap (λ (b : Buffer). places face d features x front ++ position_list b) (sym (kerned_is back))))

  -- two parts in drawing order
  module _ (text first second : Text) (i : ℕ)
      (whole :
      turned (is_backward d) (x.substituted text).line
      ≡ turned (is_backward d) (x.substituted first).line ++ turned (is_backward d) (x.substituted second).line)
      (short : length (x.substituted first).line ≡ i) (behind : 0 < i) (inside : i < length (x.substituted text).line)
      (opens : kerning_opens face d features (before text) i ≡ true)
      (some : 0 < operations_left (kerned face d features x text).max_ops)
      (enough : HaveEnough (operations_left (kerned face d features x text).max_ops) (before text) (before first) (before second))
    where
      abbrev least : ℕ
      least = operations_left (kerned face d features x text).max_ops

      abbrev line : Text → Glyphs
      line part = (x.substituted part).line

      by_direction :
          (t : Bool) → turned t (line text) ≡ turned t (line first) ++ turned t (line second)
          → run.opens (cond t (length (line text) - i) i) (before text) ≡ true
          → turned t (places face d features x text) ≡ turned t (places face d features x first) ++ turned t (places face d features x second)
      by_direction false joined open_there =
          places_kept text first second i joined short
          (kept_parts text first second i joined short least behind inside open_there some (omega arith) enough).0
      by_direction true joined open_there =
          let same = turned_back (line text) (line first) (line second) joined in
          let long : length (line text) ≡ length (line second) + length (line first) = ap length same ∙ length-append (line second) (line first) in
          let place : length (line text) - i ≡ length (line second) = omega (arith, long, short) in
          let q = length (line second) in
          let stands = (kept_parts text second first q same refl least (omega (arith, long, short, inside)) (omega (arith, long, short, behind))
          (subst (λ (k : ℕ). run.opens k (before text) ≡ true) place open_there) some (omega arith)
          (record { front = enough.back; back = enough.front })).0 in
          ap reverse (places_kept text second first q same refl stands) ∙ reverse-append (places face d features x second) (places face d features x first)

      -- what each part takes, and where it is open
      pub record PartsOpen : Type 0 where
        pub first_takes :
            operations_left (kerned face d features x text).max_ops
            < operations_left (kerned face d features x first).max_ops
            + ((operations_left (before text).max_ops - operations_left (before first).max_ops) + 1)
        pub second_takes :
            operations_left (kerned face d features x text).max_ops
            < operations_left (kerned face d features x second).max_ops
            + ((operations_left (before text).max_ops - operations_left (before second).max_ops) + 1)
        pub first_opens :
            (p : ℕ) → 0 < p → p < i → kerning_opens face d features (before text) p ≡ true
            → kerning_opens face d features (before first) p ≡ true
        pub second_opens :
            (p : ℕ) → i < p → p < length (x.substituted text).line → kerning_opens face d features (before text) p ≡ true
            → kerning_opens face d features (before second) (p - i) ≡ true

      module _ (keeps : KeepsOpens 8 run) where
        opens_at : (t : Bool) → is_backward d ≡ t → (part : Text) (p : ℕ) → kerning_opens face d features (before part) p ≡ run.opens (cond t (length (line part) - p) p) (before part)
        opens_at t way part p = ap (λ (u : Bool). run.opens (cond u (length (line part) - p) p) (before part)) way

        open_by :
            (t : Bool) → is_backward d ≡ t → turned t (line text) ≡ turned t (line first) ++ turned t (line second)
            → run.opens (cond t (length (line text) - i) i) (before text) ≡ true → PartsOpen
        open_by false way joined open_there =
            let are = parts_for text first second i joined short behind inside open_there some enough in
            record {
              first_takes = front_spends text first second i joined short behind inside open_there some enough.front;
              second_takes = back_spends text first second i joined short behind inside open_there some enough.back;
              first_opens = λ p above below open_p.
                  opens_at false way first p ∙ keeps.front i least (before text) (before first) (before second) are p above below (sym (opens_at false way text p) ∙ open_p);
              second_opens = λ p above below open_p.
                  opens_at false way second (p - i) ∙ keeps.back i least (before text) (before first) (before second) are p above below (sym (opens_at false way text p) ∙ open_p);
            }
        open_by true way joined open_there =
            let same = turned_back (line text) (line first) (line second) joined in
            let long : length (line text) ≡ length (line second) + length (line first) = ap length same ∙ length-append (line second) (line first) in
            let q = length (line second) in
            let place : length (line text) - i ≡ q = omega (arith, long, short) in
            let there : run.opens q (before text) ≡ true = subst (λ (k : ℕ). run.opens k (before text) ≡ true) place open_there in
            let above_zero : 0 < q = omega (arith, long, short, inside) in
            let below_end : q < length (line text) = omega (arith, long, short, behind) in
            let are = parts_for text second first q same refl above_zero below_end there some (record { front = enough.back; back = enough.front }) in
            record {
              first_takes = back_spends text second first q same refl above_zero below_end there some enough.front;
              second_takes = front_spends text second first q same refl above_zero below_end there some enough.back;
              first_opens = λ p above below open_p.
                  let at : (length (line text) - p) - q ≡ length (line first) - p = omega (arith, long, short, below) in
                  opens_at true way first p
                  ∙ subst (λ (k : ℕ). run.opens k (before first) ≡ true) at
                  (keeps.back q least (before text) (before second) (before first) are (length (line text) - p) (omega (arith, long, short, below)) (omega (arith, above, below, long, short)) (sym (opens_at true way text p) ∙ open_p));
              second_opens = λ p above below open_p.
                  let at : length (line text) - p ≡ length (line second) - (p - i) = omega (arith, long, short, above) in
                  opens_at true way second (p - i)
                  ∙ subst (λ (k : ℕ). run.opens k (before second) ≡ true) at
                  (keeps.front q least (before text) (before second) (before first) are (length (line text) - p) (omega (arith, below)) (omega (arith, long, short, above)) (sym (opens_at true way text p) ∙ open_p));
            }

        pub parts_open : PartsOpen
        parts_open = open_by (is_backward d) refl whole opens

      pub positions_open :
          ordered_positions (kerned face d features x text)
          ≡ ordered_positions (kerned face d features x first) ++ ordered_positions (kerned face d features x second)
      positions_open =
          ordered_places_are face d features x text
          ∙ (by_direction (is_backward d) whole opens
          ∙ (ap (λ zs. zs ++ turned (is_backward d) (places face d features x second)) (sym (ordered_places_are face d features x first))
          ∙ ap (λ zs. ordered_positions (kerned face d features x first) ++ zs) (sym (ordered_places_are face d features x second))))
