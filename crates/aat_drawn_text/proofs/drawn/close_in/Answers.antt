use Rattle.std.proofs.Common.{refl}
use Rattle.aat_buffer.specs.Buffer.{position_list}
use Rattle.aat_shaped_text.proofs.Chained.{closes_none}
use Rattle.aat_drawn_text.proofs.drawn.close_in.Goals as goal

pub returns-then-is_unattached : goal.returns-then-is_unattached
returns-then-is_unattached g c =
    let alone = c.if-is_unattached.ensures refl in
    record {
      closed = λ long. closes_none c.args.buffer.now.direction (position_list c.args.buffer.now) c.args.places.now alone;
      attached = alone;
    }
