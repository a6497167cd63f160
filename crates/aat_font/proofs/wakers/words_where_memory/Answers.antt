use Rattle.aat_font.proofs.Numbered.{no_words}
use Rattle.aat_font.proofs.wakers.words_where_memory.Goals as goal
use Rattle.aat_font.proofs.wakers.words_where_memory.Goals.{in-Ok, in-Err}

pub returns : goal.returns
returns c =
    elim c.match-words_of_chains.branch [
      | in-Ok w ↦ rw w.blocks-is w.in-Ok.ensures
      | in-Err w ↦ rw (w.blocks-is, w.new-blocks.ensures.items) (no_words c.args.chains.now)
    ]
