use Rattle.std.proofs.Common.{◌≡◌, ◌∙◌, ◌<◌, List, ap, arith, length, sym, ℕ}
use Rattle.aat_glyph.specs.declared.glyph.hb_glyph_info_t.{hb_glyph_info_t}
use Rattle.aat_shaped_text.specs.Breaks.{front_of, kept_before}
use Rattle.aat_shaped_text.proofs.Fronts.{front_keeps}
use Rattle.aat_drawn_text.proofs.drawn.may_break.Goals as goal

-- as many glyphs are kept before the place where the glyph begins
kept_there : (line : List hb_glyph_info_t) (i kept front : ℕ) → i < length line → kept ≡ kept_before line i → front ≡ front_of line i
    → kept ≡ kept_before line front
kept_there line i kept front low counted is =
    counted
    ∙ (sym (front_keeps line i (omega (arith, low)))
    ∙ ap (λ (n : ℕ). kept_before line n) (sym is))

pub may_break_at-requires-clause-kept : goal.may_break_at-requires-clause-kept
may_break_at-requires-clause-kept c =
    kept_there c.args.line.now c.args.i c.args.kept c.front_of-front.result c.requires.in_line c.requires.kept c.front_of-front.ensures

pub may_break_at-requires-then-is_solid-clause-kept : goal.may_break_at-requires-then-is_solid-clause-kept
may_break_at-requires-then-is_solid-clause-kept c =
    kept_there c.args.line.now c.args.i c.args.kept c.front_of-front.result c.requires.in_line c.requires.kept c.front_of-front.ensures
