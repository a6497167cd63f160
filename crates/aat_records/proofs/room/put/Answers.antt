use Rattle.std.proofs.Common.{rules}
use Rattle.aat_records.specs.Places.{placed}
use Rattle.aat_records.specs.Records.{glyph_record}
use Rattle.aat_records.proofs.Filled.{put_all_of, put_more_of}
use Rattle.aat_records.proofs.room.put.Goals as goal

pub loop-i-preserved : goal.loop-i-preserved
loop-i-preserved c = search (rules, put_more_of (glyph_record (placed c.args.places.now)))

pub returns : goal.returns
returns c = search (rules, put_all_of (glyph_record (placed c.args.places.now)))
