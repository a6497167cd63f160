use Rattle.aat_write_machine.proofs.Rows.{entry_is_appended}
use Rattle.aat_write_machine.proofs.machine.append_entries.Goals as goal

pub loop-rule-preserved : goal.loop-rule-preserved
loop-rule-preserved g c =
    entry_is_appended g.T.EntryWrite.words_of c.args.rules.now c.loop-rule.rule-index c.rule-item.result c.args.out.now.items
    c.loop-rule.out.items c.append_words.new.out.items c.append.new.out.items c.loop-rule-test.true c.rule-item.is
    c.loop-rule.invariant c.in_ok-append_words.ensures c.in_ok-append.ensures
