use Rattle.std.proofs.Common.{◌≡◌, ◌<◌, ◌+◌, ◌++◌, ◌∷◌, [], ap, sym, ◌∙◌, arith, length, take, get_or, set, List, length-set}
use Rattle.std.proofs.lemmas.List.{map_more, take_more_set}
use Rattle.std.proofs.lemmas.List.Elements.{All-append, All-cons}
use Rattle.aat_glyph.specs.declared.glyph.hb_glyph_info_t.{hb_glyph_info_t}
use Rattle.aat_buffer.specs.Buffer.{Is16Bit}
use Rattle.aat_lookup.specs.declared.glyph_id.GlyphId.{GlyphId}
use Rattle.aat_kinds.specs.Insertion.{copies}
use Rattle.aat_kinds.proofs.insertion.records_of.Goals as goal

pub loop-i-preserved : goal.loop-i-preserved
loop-i-preserved c =
    let m = c.args.model in
    let run = c.args.run.now in
    let i = c.loop-i.i in
    let f = λ (g : GlyphId). record m { glyph_id = g.0 } in
    let x = c.copy_of.result in
    let low = c.loop-i-test.true in
    let inside : i < length c.loop-i.records = omega (arith, low, c.loop-i.invariant.long, c.requires.few) in
    let written : take (i + 1) (set c.loop-i.records i x) ≡ take i c.loop-i.records ++ x ∷ [] = take_more_set c.loop-i.records i x inside in
    let same : x ≡ f (get_or run i (record { 0 = 0 })) = c.copy_of.ensures.copy in
    record {
      copies = written ∙ (ap (λ (gs : List hb_glyph_info_t). gs ++ x ∷ []) c.loop-i.invariant.copies
          ∙ (ap (λ (y : hb_glyph_info_t). copies m (take i run) ++ y ∷ []) same ∙ sym (map_more f run i (record { 0 = 0 }) low)));
      small = rw written (All-append Is16Bit (take i c.loop-i.records) (x ∷ []) c.loop-i.invariant.small (All-cons Is16Bit x [] c.copy_of.ensures.id (λ k d none. absurd (omega (arith, none)))));
      long = rw length-set c.loop-i.invariant.long;
    }
