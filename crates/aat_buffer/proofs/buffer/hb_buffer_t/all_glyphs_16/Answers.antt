use Rattle.std.proofs.Common.{◌≡◌, ◌++◌, All, rules, subst, sym}
use Rattle.std.proofs.lemmas.List.Elements.{All-append}
use Rattle.aat_buffer.specs.Buffer.{Is16Bit}
use Rattle.aat_buffer.proofs.Gap.{all_parts_first, all_parts_second, parts_of_whole}
use Rattle.aat_buffer.proofs.buffer.hb_buffer_t.all_glyphs_16.Goals as goal

pub returns-then-all_16 : goal.returns-then-all_16
returns-then-all_16 g c =
    let line = c.args.self.now.line in
    let front = c.parts.result.0.now in
    let back = c.parts.result.1.now in
    let whole : front ++ back ≡ line = parts_of_whole front back line c.len.result c.parts.ensures c.len.ensures.count in (
      (λ t. subst (All Is16Bit) whole (All-append Is16Bit front back (c.all_16.ensures.0 (search rules)) (c.all_16-then-all_16.ensures.0 t))),
      (λ all. c.all_16-then-all_16.ensures.1 (all_parts_second Is16Bit front back (subst (All Is16Bit) (sym whole) all))),
    )

pub returns-else-all_16 : goal.returns-else-all_16
returns-else-all_16 g c =
    let line = c.args.self.now.line in
    let front = c.parts.result.0.now in
    let back = c.parts.result.1.now in
    let whole : front ++ back ≡ line = parts_of_whole front back line c.len.result c.parts.ensures c.len.ensures.count in
    ((λ t. absurd (search rules)), (λ all. c.all_16.ensures.1 (all_parts_first Is16Bit front back (subst (All Is16Bit) (sym whole) all))))
