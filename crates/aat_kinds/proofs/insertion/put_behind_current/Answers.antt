use Rattle.std.proofs.Common.{rules}
use Rattle.aat_kinds.proofs.Putting.{put_behind_by, room_behind, small_put_behind}
use Rattle.aat_kinds.proofs.insertion.put_behind_current.Goals as goal

pub cur_mut-requires : goal.cur_mut-requires
cur_mut-requires g c =
    let b = c.args.buffer.now in
    rw (c.in_ok-insert_glyphs_at.ensures.ok, c.backtrack_len-place.ensures.place) (room_behind b.line b.cursor c.cur-model.result.now c.requires.current)

pub returns-clause-ok : goal.returns-clause-ok
returns-clause-ok g c =
    put_behind_by c.args.buffer.now c.insert_glyphs_at.new.self c.args.run.now c.backtrack_len-place.result c.from.result (record { 0 = 0 }) c.cur-model.result.now c.cur_mut.result.now
    c.requires.one c.requires.current c.backtrack_len-place.ensures.place c.cur-model.ensures.read c.in_ok-insert_glyphs_at.ensures.ok c.cur_mut.ensures.read c.from.ensures

pub returns-clause-ids : goal.returns-clause-ids
returns-clause-ids g c =
    small_put_behind c.args.buffer.now c.insert_glyphs_at.new.self c.backtrack_len-place.result c.from.result c.cur-model.result.now c.cur_mut.result.now
    c.requires.ids c.requires.current c.cur-model.ensures.read c.in_ok-insert_glyphs_at.ensures.ok (search rules)
