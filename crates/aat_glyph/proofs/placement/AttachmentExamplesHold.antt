-- The examples of attachments, by computing.
use Rattle.std.proofs.Common.{refl}
use Rattle.aat_glyph.specs.placement.Attachments.{drawn_offset}
use Rattle.aat_glyph.specs.placement.AttachmentExamples.{AttachmentExamples}

pub attachment_examples : AttachmentExamples
unfolding drawn_offset
attachment_examples = record {
  mark_on_base = refl;
  mark_backward = refl;
  mark_before_base = refl;
  mark_on_mark = refl;
  mark_across_a_glyph = refl;
  cursive_forward = refl;
  cursive_backward = refl;
  cursive_to_behind = refl;
  cursive_downward = refl;
  mark_in_column = refl;
  mark_on_cursive = refl;
  wraps = refl;
  chain_leaves = refl;
  other_type = refl;
}
