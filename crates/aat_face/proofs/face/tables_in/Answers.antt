use Rattle.std.proofs.Common.{refl}
use Rattle.aat_face.proofs.face.tables_in.Goals as goal

pub returns : goal.returns
returns c =
    rw (
      c.in_ok-substitution.ensures.morx,
      c.in_ok-substitution.ensures.feat,
      c.in_ok-kerning.ensures.kerx,
      c.in_ok-kerning.ensures.kern,
      c.in_ok-points.ensures.ankr,
      c.in_ok-points.ensures.trak,
      c.has_gpos_in.ensures,
      c.has_stat_in.ensures,
      c.number_in-glyph_count.ensures,
      c.row_metrics.ensures,
      c.em_in.ensures,
      c.glyph_count_in-maxp.ensures,
      c.long_metric_count_in.ensures,
      c.units_per_em_in.ensures,
      c.characters_in.ensures,
      c.classes_in.ensures,
      c.names_in.ensures,
    )
    refl
