use Rattle.std.proofs.Common.{refl}
use Rattle.aat_font.proofs.SummedWords.{tells_nothing}
use Rattle.aat_font.proofs.wakers.summary_where_memory.Goals as goal

pub returns : goal.returns
returns c = tells_nothing (record { everywhere = 18446744073709551615; words = c.new.result }) c.args.blocks.now refl
