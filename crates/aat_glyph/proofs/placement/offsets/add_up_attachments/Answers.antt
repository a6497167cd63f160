use Rattle.std.proofs.Common.{sym}
use Rattle.aat_glyph.proofs.placement.AttachmentLawsHold.{unattached_lines_stay}
use Rattle.aat_glyph.proofs.placement.offsets.add_up_attachments.Goals as goal

pub returns-then-is_unattached-clause-ok : goal.returns-then-is_unattached-clause-ok
returns-then-is_unattached-clause-ok g c =
    sym (unattached_lines_stay c.args.direction c.args.positions.now (c.is_unattached.ensures.0 c.if-is_unattached.true))
