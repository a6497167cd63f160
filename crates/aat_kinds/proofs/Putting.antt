-- A run of glyphs that goes into a line.
use Rattle.std.proofs.Common.{◌≡◌, ◌<◌, ◌≤◌, ◌+◌, ◌-◌, ℕ, [], ◌∷◌, ◌++◌, List, take, drop, length, get_or, set, min, nat_lt, not, Bool, true, cond, Some, All, append_assoc, refl, ap, ◌∙◌, arith}
use Rattle.std.proofs.lemmas.Bool.Decides.{nat_tests}
use Rattle.std.proofs.lemmas.List.{drop_more, get_or-append_right, length-append, length-drop, length-take-le, set-append_right, take_more}
use Rattle.std.proofs.lemmas.List.Elements.{All-append, All-cons, All-drop, All-nil, All-set, All-take}
use Rattle.aat_glyph.specs.declared.glyph.hb_glyph_info_t.{hb_glyph_info_t}
use Rattle.std.specs.Prelude.{None, ◌&&◌}
use Rattle.aat_buffer.specs.Buffer.{Buffer, Is16Bit, glyph_at, model_at, no_glyph, with_glyphs_at, with_info}
use Rattle.aat_lookup.specs.declared.glyph_id.GlyphId.{GlyphId}
use Rattle.aat_buffer.specs.facts.Lines.{length_unsafe}
use Rattle.aat_machine_tables.specs.Entries.{has_flag}
use Rattle.aat_kinds.specs.Insertion.{Entry, Registers, at_mark, copies, inserted, marked_count, put_in, run_for}
use Rattle.aat_kinds.specs.facts.InsertionLaws.{length_inserted}
use Rattle.aat_kinds.specs.inside.Run.{put_behind_current}

-- a line of glyph ids of 16 bits stays so
pub small_of_made : (a : ℕ) (line new : List hb_glyph_info_t) → All Is16Bit line → All Is16Bit new → All Is16Bit (take a line ++ (new ++ drop a line))
small_of_made a line new small run =
    All-append Is16Bit (take a line) (new ++ drop a line) (All-take Is16Bit a line small) (All-append Is16Bit new (drop a line) run (All-drop Is16Bit a line small))

-- an element that stands twice, where the second one is written
twice : {X : Type 0} (xs : List X) (p : ℕ) (d x : X) → p < length xs → set (take p xs ++ (get_or xs p d ∷ drop p xs)) (p + 1) x ≡ take (p + 1) xs ++ (x ∷ drop (p + 1) xs)
twice xs p d x lt =
    let len : length (take p xs) ≡ p = length-take-le p xs (omega (arith, lt)) in
    let one : p + 1 - p ≡ 1 = omega arith in
    rw (set-append_right (take p xs) (get_or xs p d ∷ drop p xs) p (p + 1) x len (omega arith), one, drop_more xs p d lt, take_more xs p d lt, append_assoc) refl

second_of_twice : {X : Type 0} (xs : List X) (p : ℕ) (d : X) → p < length xs → get_or (take p xs ++ (get_or xs p d ∷ drop p xs)) (p + 1) d ≡ get_or xs p d
second_of_twice xs p d lt =
    let len : length (take p xs) ≡ p = length-take-le p xs (omega (arith, lt)) in
    let one : p + 1 - p ≡ 1 = omega arith in
    rw (get_or-append_right (take p xs) (get_or xs p d ∷ drop p xs) p (p + 1) d len (omega arith), one, drop_more xs p d lt) refl

-- a run of one glyph goes in behind the glyph at a place: that stands twice, and the second one gets the other id
pub put_behind : (line : List hb_glyph_info_t) (run : List GlyphId) (p : ℕ) (d : GlyphId) → length run ≡ 1 → p < length line
    → set (take p line ++ (glyph_at line p ∷ drop p line)) (p + 1) (record (glyph_at (take p line ++ (glyph_at line p ∷ drop p line)) (p + 1)) { glyph_id = (get_or run 0 d).0 })
    ≡ inserted run p true line
unfolding inserted
put_behind line (g ∷ []) p d one lt =
    let inside : nat_lt p (length line) ≡ true = grind (arith, nat_tests, lt) in
    let at : min p (length line - 1) ≡ p = omega (arith, lt) in
    rw (inside, at, second_of_twice line p no_glyph lt) (twice line p no_glyph (record (glyph_at line p) { glyph_id = g.0 }) lt)
put_behind line [] p d one lt = absurd (omega (arith, one))
put_behind line (g ∷ h ∷ rest) p d one lt = absurd (omega (arith, one))

-- the glyph at a place, with a copy before it, is not the last one
pub room_behind : (line : List hb_glyph_info_t) (p : ℕ) (g : hb_glyph_info_t) → p < length line → p + 1 < length (take p line ++ (g ∷ drop p line))
room_behind line p g lt =
    let len : length (take p line) ≡ p = length-take-le p line (omega (arith, lt)) in
    omega (arith, length-append (take p line) (g ∷ drop p line), len, length-drop p line, lt)

-- the same of a buffer: a copy m of the glyph at the cursor goes in there, and the glyph h behind it gets the id g
pub put_behind_by : (b n : Buffer) (run : List GlyphId) (p g : ℕ) (d : GlyphId) (m h : hb_glyph_info_t) → length run ≡ 1 → b.cursor < length b.line
    → p ≡ b.cursor → m ≡ glyph_at b.line b.cursor → n ≡ with_glyphs_at b p (m ∷ []) → h ≡ glyph_at n.line n.cursor → g ≡ (get_or run 0 d).0
    → with_info n n.cursor (record h { glyph_id = g }) ≡ put_behind_current run b
put_behind_by b n run p g d m h one lt at model made read id =
    let is : n ≡ with_glyphs_at b b.cursor (glyph_at b.line b.cursor ∷ []) =
    made ∙ ap (λ (q : ℕ). with_glyphs_at b q (m ∷ [])) at ∙ ap (λ (x : hb_glyph_info_t). with_glyphs_at b b.cursor (x ∷ [])) model in
    ap (λ (x : hb_glyph_info_t). with_info n n.cursor (record x { glyph_id = g })) read
    ∙ ap (λ (q : ℕ). with_info n n.cursor (record (glyph_at n.line n.cursor) { glyph_id = q })) id
    ∙ ap (λ (x : Buffer). with_info x x.cursor (record (glyph_at x.line x.cursor) { glyph_id = (get_or run 0 d).0 })) is
    ∙ ap (λ (gs : List hb_glyph_info_t). record b { line = gs; cursor = b.cursor + 1; positions = None }) (put_behind b.line run b.cursor d one lt)

-- a copy of the glyph at the cursor goes in there, and the glyph behind it gets an id of 16 bits
pub small_put_behind : (b n : Buffer) (p g : ℕ) (m h : hb_glyph_info_t) → All Is16Bit b.line → b.cursor < length b.line
    → m ≡ glyph_at b.line b.cursor → n ≡ with_glyphs_at b p (m ∷ []) → g ≤ 65535 → All Is16Bit (set n.line n.cursor (record h { glyph_id = g }))
small_put_behind b n p g m h small inside model made fits =
    let copied : Is16Bit m = rw model (small b.cursor no_glyph inside) in
    let line : All Is16Bit n.line =
    rw made (small_of_made p b.line (m ∷ []) small (All-cons Is16Bit m [] copied (All-nil Is16Bit))) in
    All-set Is16Bit n.line n.cursor (record h { glyph_id = g }) fits line

-- a run of glyphs of 16 bits goes into a line of such glyphs
pub small_of_inserted : (run : List GlyphId) (p : ℕ) (behind : Bool) (line : List hb_glyph_info_t) → All Is16Bit line → All Is16Bit (copies (model_at line p) run) → All Is16Bit (inserted run p behind line)
unfolding inserted
small_of_inserted run p behind line small made = small_of_made (cond (behind && nat_lt p (length line)) (p + 1) p) line (copies (model_at line p) run) small made

-- the marked run makes the line longer by its glyphs
pub length_at_mark : (glyphs : List GlyphId) (e : Entry) (r : Registers) (b : Buffer) → length (at_mark glyphs e r b).line ≡ length b.line + length (run_for glyphs b e.extra.marked_insert_index (marked_count e))
unfolding at_mark
length_at_mark glyphs e r b =
    let new = run_for glyphs b e.extra.marked_insert_index (marked_count e) in
    let put = put_in new r.mark (not (has_flag e 0x0400)) (b.cursor + length new) b in
    length_unsafe put (Some r.mark) (Some (min (put.cursor + 1) (length put.line))) ∙ length_inserted new r.mark (not (has_flag e 0x0400)) b.line
