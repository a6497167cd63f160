use Rattle.std.proofs.Common.{◌≡◌, ◌∙◌, ap, sym, ◌+◌, ◌-◌, ◌<◌, ◌≤◌, ℕ, zero, suc, List, drop, length, arith}
use Rattle.std.specs.Int.{bit_at}
use Rattle.std.proofs.lemmas.List.{get_or-drop, length-drop}
use Rattle.aat_buffer.specs.Buffer.{Buffer, glyph_at, no_glyph, with_cursor}
use Rattle.aat_font.specs.Wakers.{word_of}
use Rattle.aat_font.specs.declared.wakers.GlyphWords.{GlyphWords}
use Rattle.aat_glyph.specs.declared.glyph.hb_glyph_info_t.{hb_glyph_info_t}
use Rattle.aat_run.specs.declared.run_state.RunState.{RunState}
use Rattle.aat_run.specs.inside.Passing.{last_seen}
use Rattle.aat_run.proofs.wakers.pass_asleep.Goals as goal

-- as many glyphs at most as stand from a place on
within_line : (line rest : List hb_glyph_info_t) (p k : ℕ) → p ≤ length line → k ≤ length rest → rest ≡ drop p line → p + k ≤ length line
within_line line rest p k here few is = omega (arith, here, few, ap length is, length-drop p line)

-- a glyph from a place on
behind : (words : GlyphWords) (line rest : List hb_glyph_info_t) (p i bit : ℕ) → rest ≡ drop p line → bit_at (word_of words (glyph_at rest i).glyph_id) bit ≡ 0
    → bit_at (word_of words (glyph_at line (p + i)).glyph_id) bit ≡ 0
behind words line rest p i bit is clear =
    ap (λ (g : hb_glyph_info_t). bit_at (word_of words g.glyph_id) bit) (sym (ap (λ (r : List hb_glyph_info_t). glyph_at r i) is ∙ get_or-drop p line i no_glyph)) ∙ clear

-- the last cluster that is seen of some glyphs
seen : (b : Buffer) (last k : ℕ) → 0 < k → last_seen b last k ≡ (glyph_at b.line (b.cursor + (k - 1))).cluster
seen b last zero some = absurd (omega arith)
seen b last (suc k) some = ap (λ (j : ℕ). (glyph_at b.line (b.cursor + j)).cluster) (omega arith)

pub overflow_add-next : goal.overflow_add-next
overflow_add-next g c =
    let within = within_line c.args.buffer.now.line c.from_cursor.result.now c.args.buffer.now.cursor c.asleep_before-count.result (rw (← c.backtrack_len-start.ensures.place) c.backtrack_len-start.ensures.within) c.asleep_before-count.ensures.few c.from_cursor.ensures in
    omega (arith, within, c.backtrack_len-start.ensures.place, c.len-length.ensures.count, c.len-length.ensures.small)

pub returns-then-count-gt0-clause-asleep : goal.returns-then-count-gt0-clause-asleep
returns-then-count-gt0-clause-asleep g c = λ i low.
    behind c.args.wakers.words.now c.args.buffer.now.line c.from_cursor.result.now c.args.buffer.now.cursor i c.args.wakers.bit c.from_cursor.ensures (c.asleep_before-count.ensures.asleep i low)

pub returns-else-count-gt0-clause-within : goal.returns-else-count-gt0-clause-within
returns-else-count-gt0-clause-within g c =
    within_line c.args.buffer.now.line c.from_cursor.result.now c.args.buffer.now.cursor c.asleep_before-count.result (rw (← c.backtrack_len-start.ensures.place) c.backtrack_len-start.ensures.within) c.asleep_before-count.ensures.few c.from_cursor.ensures

pub overflow_sub-next : goal.overflow_sub-next
overflow_sub-next g c = omega (arith, c.if-count-gt0.true)

pub info-requires : goal.info-requires
info-requires g c =
    let within = within_line c.args.buffer.now.line c.from_cursor.result.now c.args.buffer.now.cursor c.asleep_before-count.result (rw (← c.backtrack_len-start.ensures.place) c.backtrack_len-start.ensures.within) c.asleep_before-count.ensures.few c.from_cursor.ensures in
    omega (arith, within, c.backtrack_len-start.ensures.place, c.if-count-gt0.true)

pub move_to-requires : goal.move_to-requires
move_to-requires g c =
    let within = within_line c.args.buffer.now.line c.from_cursor.result.now c.args.buffer.now.cursor c.asleep_before-count.result (rw (← c.backtrack_len-start.ensures.place) c.backtrack_len-start.ensures.within) c.asleep_before-count.ensures.few c.from_cursor.ensures in
    omega (arith, within, c.backtrack_len-start.ensures.place)

pub returns-then-count-gt0-clause-within : goal.returns-then-count-gt0-clause-within
returns-then-count-gt0-clause-within g c =
    within_line c.args.buffer.now.line c.from_cursor.result.now c.args.buffer.now.cursor c.asleep_before-count.result (rw (← c.backtrack_len-start.ensures.place) c.backtrack_len-start.ensures.within) c.asleep_before-count.ensures.few c.from_cursor.ensures

pub returns-then-count-gt0-clause-passed : goal.returns-then-count-gt0-clause-passed
returns-then-count-gt0-clause-passed g c =
    c.move_to.ensures ∙ ap (λ (n : ℕ). with_cursor c.args.buffer.now (n + c.asleep_before-count.result)) c.backtrack_len-start.ensures.place

pub returns-then-count-gt0-clause-counted : goal.returns-then-count-gt0-clause-counted
returns-then-count-gt0-clause-counted g c =
    let b = c.args.buffer.now in
    let here = c.args.run_state.now in
    let k = c.asleep_before-count.result in
    let place : c.backtrack_len-start.result + k - 1 ≡ b.cursor + (k - 1) = omega (arith, c.backtrack_len-start.ensures.place, c.if-count-gt0.true) in
    ap {B = RunState} (λ (n : ℕ). record { state = here.state; last_cluster = n; turns = here.turns + k })
    (ap (λ (g : hb_glyph_info_t). g.cluster) c.info.ensures.read ∙ ap (λ (n : ℕ). (glyph_at b.line n).cluster) place ∙ sym (seen b here.last_cluster k c.if-count-gt0.true))
