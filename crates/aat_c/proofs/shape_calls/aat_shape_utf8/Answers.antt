use Rattle.aat_c.specs.Handles.{held_in}
use Rattle.aat_c.proofs.Ends.{without_font}
use Rattle.aat_c.proofs.shape_calls.aat_shape_utf8.Goals as goal

pub returns-in-None-clause-refused : goal.returns-in-None-clause-refused
returns-in-None-clause-refused c =
    without_font _ (held_in c.args.font.now) c.finish-in-None.result c.in-None.ensures.taken c.finish-in-None.ensures.number
