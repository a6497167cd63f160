use Rattle.std.proofs.Common.{◌∙◌, ap}
use Rattle.std.specs.List.{filter}
use Rattle.aat_findings.specs.Glyphs.{is_of}
use Rattle.aat_findings.proofs.glyphs.pairs_of.Goals as goal

pub returns : goal.returns
returns c =
    c.in_ok-found.ensures ∙ ap (filter (is_of c.args.kind c.args.glyph_count)) (c.as_slice-of_pairs.ensures.value ∙ c.in_ok-pairs.ensures)
