use Rattle.aat_read_outlines.proofs.Bounds.{product_within}
use Rattle.aat_read_outlines.proofs.components.product.Goals as goal

pub returns-clause-within : goal.returns-clause-within
returns-clause-within c = product_within c.args.a c.args.b c.ranges.a c.ranges.b
