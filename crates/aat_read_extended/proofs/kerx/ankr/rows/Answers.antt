use Rattle.std.proofs.Common.{◌≡◌, ℕ, ◌+◌, ◌<◌, length, get_or, sym, ap, ◌∙◌, arith}
use Rattle.aat_read_extended.specs.kerx.Anchors.{points_within, row_size, rows_within}
use Rattle.aat_read_extended.proofs.kerx.AnchorRows.{rise, step}
use Rattle.aat_read_extended.proofs.kerx.ankr.rows.Goals as goal

pub loop-i-preserved : goal.loop-i-preserved
loop-i-preserved c =
    let points = c.in_ok-points.points in
    let few = c.in_ok-points.ensures.few in
    let long = points.ok.0 in
    let sized : c.row_size-used.result ≡ row_size (length points.items) = omega (arith, c.row_size-used.ensures, long) in
    let before = c.loop-i.invariant.small in
    let count = c.count_of-i-end.ensures.count in
    let inside = c.loop-i-test.true in
    let below : c.loop-i.i < length c.args.glyphs.now = omega (arith, count, inside) in
    let offset : ℕ = (get_or c.args.glyphs.now c.loop-i.i (0, 0)).1 in
    record {
      behind = step c.args.bytes.now c.loop-i.rows.items c.push.new.self.items c.loop-i.used c.row_size-used.result
          c.loop-i.i c.args.glyphs.now points (rows_within c.args.bytes.now 0 c.args.glyphs.now) below
          (ap (λ (n : ℕ). points_within c.args.bytes.now c.loop-i.used (n + offset)) (sym c.be32-start.ensures)
          ∙ c.in_ok-points.ensures.gives)
          c.in_ok-push.ensures.items sized
          c.loop-i.invariant.behind;
      small = omega (arith, c.row_size-used.ensures, few, before);
    }

pub returns-clause-rising : goal.returns-clause-rising
returns-clause-rising c =
    let past = c.loop-i-test.false in
    let count = c.count_of-i-end.ensures.count in
    rise c.args.bytes.now c.loop-i.rows.items c.loop-i.used c.loop-i.i c.args.glyphs.now c.requires.rising
    (omega (arith, past, count)) c.loop-i.invariant.behind
