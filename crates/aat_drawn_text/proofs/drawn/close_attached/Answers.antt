use Rattle.std.proofs.Common.{◌∙◌, sym}
use Rattle.aat_buffer.specs.Buffer.{position_list}
use Rattle.aat_shaped_text.proofs.Chained.{closes_none}
use Rattle.aat_drawn_text.proofs.TextLines.{alone_by}
use Rattle.aat_drawn_text.proofs.drawn.close_attached.Goals as goal

pub returns-then-is_some : goal.returns-then-is_some
returns-then-is_some g c =
    let alone =
    alone_by c.buffer.inside.placed_by c.buffer.inside.buffer c.args.buffer.now c.buffer.view_is (sym c.is_some.ensures ∙ c.if-is_some.true) in
    record {
      closed = λ long. closes_none c.args.buffer.now.direction (position_list c.args.buffer.now) c.args.places.now alone;
      attached = alone;
    }
