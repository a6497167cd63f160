-- Outlines that are written are read again.
use Rattle.std.proofs.Common.{◌≡◌, ◌∙◌, ap, refl, subst, ℕ, suc, ◌-◌, ◌<◌, ◌≤◌, ◌==◌, Bool, true, false, cond, List, [], ◌∷◌, ◌++◌, length, get_or, Option, Some, None, Result, Ok, Err, arith}
use Rattle.std.specs.Prelude.{nat_le, nat_lt}
use Rattle.std.proofs.lemmas.Bool.{le-ltb, ltb-false}
use Rattle.std.proofs.lemmas.Bool.Decides.{nat_tests}
use Rattle.std.proofs.lemmas.List.{get_or_default}
use Rattle.aat_bytes.specs.Faults.{after}
use Rattle.aat_bytes.specs.Numbers.{be16}
use Rattle.aat_bytes.specs.declared.error.Fault.{Fault}
use Rattle.aat_read_outlines.specs.Components.{components_from}
use Rattle.aat_read_outlines.specs.Composites.{Drawing, drawn_at, drawn_with, outline_of, plain_outline}
use Rattle.aat_read_outlines.specs.Glyphs.{GlyphBytes, past}
use Rattle.aat_read_outlines.specs.Offsets.{OutlineTables, glyph_bytes}
use Rattle.aat_read_outlines.specs.Outlines.{IsOutline, PointLists, no_points}
use Rattle.aat_read_outlines.specs.SimpleGlyphs.{simple_outline}
use Rattle.aat_read_outlines.specs.declared.outline.OutlinePoint.{OutlinePoint}
use Rattle.aat_write_truetype.specs.outlines.GlyphData.{are_short_steps, glyph_data, origin, padded, padding, simple_bytes}
use Rattle.aat_write_truetype.specs.outlines.OutlineLaws.{WrittenOutlinesAreRead, tables_over}
use Rattle.aat_write_truetype.specs.outlines.Tables.{Written, error_of, glyf_bytes, loca_bytes, offset_of}
use Rattle.aat_write_truetype.specs.declared.outlines.error.OutlineWriteError.{OutlineWriteError}
use Rattle.aat_write_truetype.specs.declared.outlines.error.OutlineWriteError.TheVariants.{TooLong}
use Rattle.aat_write_truetype.proofs.outlines.Errors.{IsFine, each_fine}
use Rattle.aat_write_truetype.proofs.outlines.PlacesAgain.{data_again}
use Rattle.aat_write_truetype.proofs.outlines.SimpleAgain.{apart, contours_read, header_inside, simple_again}
use Rattle.aat_write_truetype.proofs.outlines.Written.{no_error}

-- a glyph with contours, none of whose tests fails
opened :
    (empty cut composite none : Bool) (a : Fault) (read : Result (Option PointLists) Fault)
    → empty ≡ false → cut ≡ false → composite ≡ false → none ≡ false
    → cond empty (Ok (Some no_points)) (cond cut (Err a) (cond composite (Ok None) (cond none (Ok (Some no_points)) read))) ≡ read
opened empty cut composite none a read one two three four = rw (one, two, three, four) refl

not_zero : (n : ℕ) → 0 < n → (n == 0) ≡ false
not_zero n some = grind (arith, nat_tests, some)

-- the bytes of an outline with contours are read again
module _ (bytes rest : List ℕ) (outline : PointLists) (place : ℕ) (is : bytes ≡ simple_bytes outline ++ rest)
    (whole : IsOutline outline.points outline.ends) (some : 0 < length outline.ends)
    (few : length outline.ends ≤ 32767) (short : are_short_steps origin outline.points ≡ true) where
  simple_plain : plain_outline (record { bytes = bytes; place = place }) ≡ Ok (Some outline)
  simple_plain =
      let glyph : GlyphBytes = record { bytes = bytes; place = place } in
      let split = is ∙ apart outline rest in
      let long = header_inside bytes rest outline split whole some few short in
      let read = contours_read bytes rest outline split whole some few short in
      let simple : ℕ → Result (Option PointLists) Fault =
      λ (n : ℕ). after (simple_outline glyph n) (λ (o : PointLists). Ok (Some o)) in
      let low : nat_le 32768 (be16 bytes 0) ≡ false = grind (arith, nat_tests, read, few) in
      opened (length bytes == 0) (nat_lt (length bytes) 10) (nat_le 32768 (be16 bytes 0)) (be16 bytes 0 == 0)
      (past glyph 0) (simple (be16 bytes 0))
      (not_zero (length bytes) (omega (arith, long))) (le-ltb (length bytes) 10 (omega (arith, long))) low
      (not_zero (be16 bytes 0) (omega (arith, read, some)))
      ∙ ap simple read
      ∙ ap (λ (r : Result PointLists Fault). after r (λ (o : PointLists). Ok (Some o)))
      (simple_again bytes rest outline split whole some few short place)

-- the data of an outline is read again
plain_again :
    (points : List OutlinePoint) (ends : List ℕ) (place : ℕ)
    → IsOutline points ends
    → length ends ≤ 32767
    → are_short_steps origin points ≡ true
    → plain_outline (record { bytes = glyph_data (record { points = points; ends = ends }); place = place })
    ≡ Ok (Some (record { points = points; ends = ends }))
plain_again [] [] place whole few short = refl
plain_again (point ∷ points) [] place whole few short = absurd (omega (arith, whole.divided))
plain_again points (end ∷ ends) place whole few short =
    let outline : PointLists = record { points = points; ends = end ∷ ends } in
    let some : (length (end ∷ ends) == 0) ≡ false = not_zero (length (end ∷ ends)) (omega arith) in
    let bytes : glyph_data outline ≡ simple_bytes outline ++ padding (length (simple_bytes outline)) =
    ap (λ (b : Bool). cond b [] (padded (simple_bytes outline))) some in
    simple_plain (glyph_data outline) (padding (length (simple_bytes outline))) outline place bytes whole (omega arith) few short

-- a glyph that is not composite is its own outline
drawn :
    (tables : OutlineTables) (depth left glyph : ℕ) (bytes : GlyphBytes) (outline : PointLists)
    → glyph_bytes tables glyph ≡ Ok bytes
    → plain_outline bytes ≡ Ok (Some outline)
    → drawn_at tables (suc depth) left glyph ≡ Ok (record { outline = outline; left = left })
unfolding drawn_at
drawn tables depth left glyph bytes outline there plain =
    let composite : GlyphBytes → Result Drawing Fault =
    λ (b : GlyphBytes). after (components_from b 10 left) (λ components. drawn_with (drawn_at tables depth) components (record {
      outline = no_points;
      left = left - length components;
    })) in
    let of_plain : GlyphBytes → Option PointLists → Result Drawing Fault =
    λ (b : GlyphBytes) (o : Option PointLists). elim o [ Some found ↦ Ok (record { outline = found; left = left }) | None ↦ composite b ] in
    ap (λ (r : Result GlyphBytes Fault). after r (λ b. after (plain_outline b) (of_plain b))) there
    ∙ ap (λ (r : Result (Option PointLists) Fault). after r (of_plain bytes)) plain

read_plain :
    (tables : OutlineTables) (glyph : ℕ) (bytes : GlyphBytes) (outline : PointLists)
    → glyph_bytes tables glyph ≡ Ok bytes
    → plain_outline bytes ≡ Ok (Some outline)
    → outline_of tables glyph ≡ Ok outline
read_plain tables glyph bytes outline there plain =
    ap (λ (r : Result Drawing Fault). after r (λ (drawing : Drawing). Ok drawing.outline))
    (drawn tables 7 64 glyph bytes outline there plain)

-- what holds where outlines are written
written_is :
    (error : Option OutlineWriteError) (long : Bool) (made written : Written)
    → ◌≡◌ {A = Result Written OutlineWriteError}
    (elim error [ Some e ↦ Err e | None ↦ cond long (Err TooLong) (Ok made) ]) (Ok written)
    → (error ≡ None) × (long ≡ false) × (made ≡ written)
written_is (Some e) long made written is = cc
written_is None true made written is = cc
written_is None false made written is = (refl, refl, cc)

-- the law
pub written_outlines_are_read : WrittenOutlinesAreRead
written_outlines_are_read outlines written glyph all is below =
    let made : Written = record { glyf = glyf_bytes outlines; loca = loca_bytes outlines } in
    let parts = written_is (error_of outlines) (nat_lt 4294967295 (length (glyf_bytes outlines))) made written is in
    let outline : PointLists = get_or outlines glyph no_points in
    let same : outline ≡ get_or outlines glyph outline = get_or_default outlines glyph no_points outline below in
    let fine : IsFine outline = each_fine outlines glyph outline (no_error outlines parts.0) below same in
    let low : length (glyf_bytes outlines) ≤ 4294967295 = ltb-false 4294967295 (length (glyf_bytes outlines)) parts.1 in
    let read : outline_of (tables_over made (length outlines)) glyph ≡ Ok outline =
    read_plain (tables_over made (length outlines)) glyph (record { bytes = glyph_data outline; place = offset_of outlines glyph }) outline
    (data_again outlines low glyph outline below same)
    (plain_again outline.points outline.ends (offset_of outlines glyph) (all glyph no_points below) fine.contours fine.steps) in
    subst (λ (w : Written). outline_of (tables_over w (length outlines)) glyph ≡ Ok outline) parts.2 read
