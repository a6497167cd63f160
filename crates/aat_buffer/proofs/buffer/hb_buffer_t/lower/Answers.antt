use Rattle.std.proofs.Common.{arith, ap, ◌≡◌, ◌-◌, set}
use Rattle.aat_buffer.specs.Buffer.{Buffer, glyph_at, with_line}
use Rattle.aat_buffer.specs.Removal.{with_cluster_and_flags}
use Rattle.aat_buffer.specs.inside.Pending.{run_written, with_place}
use Rattle.aat_buffer.proofs.Steps.{lower_written, lower_pending, made_like, set_and_places, set_and_run}
use Rattle.aat_buffer.proofs.buffer.hb_buffer_t.lower.Goals as goal

pub returns-then-last-first-lt2-clause-after : goal.returns-then-last-first-lt2-clause-after
returns-then-last-first-lt2-clause-after g c =
    let old : Buffer = c.args.self.now in
    let j = c.backtrack_len-last.result - 1 in
    let q = c.reached-first.result.0 in
    let y = c.with_cluster_and_flags.result in
    let made : y ≡ with_cluster_and_flags c.args.glyph (glyph_at old.line j) = made_like c.args.glyph c.glyph.result y old.line j c.glyph.ensures c.with_cluster_and_flags.ensures in
    let wrote : c.write_run.new.self ≡ with_line old (run_written q j (set old.line j y)) = set_and_run old c.set_glyph.new.self c.write_run.new.self q j y c.set_glyph.ensures c.write_run.ensures.after in
    (lower_written old c.write_run.new.self c.args.runs.count c.args.runs.last q c.reached-first.result.1.count c.reached-first.result.1.last j c.args.glyph y c.requires.kept (ap (λ p. p - 1) c.backtrack_len-last.ensures.place) c.requires.pending c.reached-first.ensures.reached c.reached-first.ensures.ends made wrote).0

pub returns-then-last-first-lt2-clause-pending : goal.returns-then-last-first-lt2-clause-pending
returns-then-last-first-lt2-clause-pending g c =
    let old : Buffer = c.args.self.now in
    let j = c.backtrack_len-last.result - 1 in
    let q = c.reached-first.result.0 in
    let y = c.with_cluster_and_flags.result in
    let made : y ≡ with_cluster_and_flags c.args.glyph (glyph_at old.line j) = made_like c.args.glyph c.glyph.result y old.line j c.glyph.ensures c.with_cluster_and_flags.ensures in
    let wrote : c.write_run.new.self ≡ with_line old (run_written q j (set old.line j y)) = set_and_run old c.set_glyph.new.self c.write_run.new.self q j y c.set_glyph.ensures c.write_run.ensures.after in
    (lower_written old c.write_run.new.self c.args.runs.count c.args.runs.last q c.reached-first.result.1.count c.reached-first.result.1.last j c.args.glyph y c.requires.kept (ap (λ p. p - 1) c.backtrack_len-last.ensures.place) c.requires.pending c.reached-first.ensures.reached c.reached-first.ensures.ends made wrote).1

pub returns-clause-after : goal.returns-clause-after
returns-clause-after g c =
    let old : Buffer = c.args.self.now in
    let j = c.backtrack_len-last.result - 1 in
    let q = c.reached-first.result.0 in
    let m = c.reached-first.result.1.last in
    let y = c.with_cluster_and_flags.result in
    let made : y ≡ with_cluster_and_flags c.args.glyph (glyph_at old.line j) = made_like c.args.glyph c.glyph.result y old.line j c.glyph.ensures c.with_cluster_and_flags.ensures in
    let wrote : c.set_place-2.new.self ≡ with_line old (with_place (with_place (set old.line j y) (j - 1) q) q m) = set_and_places old c.set_glyph.new.self c.set_place.new.self c.set_place-2.new.self q m (j - 1) j y c.set_glyph.ensures c.set_place.ensures c.set_place-2.ensures in
    (lower_pending old c.set_place-2.new.self c.args.runs.count c.args.runs.last q c.reached-first.result.1.count m j c.args.glyph y c.requires.kept (ap (λ p. p - 1) c.backtrack_len-last.ensures.place) (omega arith) c.requires.pending c.reached-first.ensures.reached c.reached-first.ensures.ends made wrote).0

pub returns-clause-pending : goal.returns-clause-pending
returns-clause-pending g c =
    let old : Buffer = c.args.self.now in
    let j = c.backtrack_len-last.result - 1 in
    let q = c.reached-first.result.0 in
    let m = c.reached-first.result.1.last in
    let y = c.with_cluster_and_flags.result in
    let made : y ≡ with_cluster_and_flags c.args.glyph (glyph_at old.line j) = made_like c.args.glyph c.glyph.result y old.line j c.glyph.ensures c.with_cluster_and_flags.ensures in
    let wrote : c.set_place-2.new.self ≡ with_line old (with_place (with_place (set old.line j y) (j - 1) q) q m) = set_and_places old c.set_glyph.new.self c.set_place.new.self c.set_place-2.new.self q m (j - 1) j y c.set_glyph.ensures c.set_place.ensures c.set_place-2.ensures in
    (lower_pending old c.set_place-2.new.self c.args.runs.count c.args.runs.last q c.reached-first.result.1.count m j c.args.glyph y c.requires.kept (ap (λ p. p - 1) c.backtrack_len-last.ensures.place) (omega arith) c.requires.pending c.reached-first.ensures.reached c.reached-first.ensures.ends made wrote).1
