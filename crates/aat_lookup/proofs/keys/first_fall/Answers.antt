use Rattle.std.proofs.Common.{◌≤◌, length, arith}
use Rattle.aat_lookup.proofs.Falls.{no_more}
use Rattle.aat_lookup.proofs.keys.first_fall.Goals as goal

pub returns : goal.returns
returns g c =
    let past : length c.args.rows.now ≤ c.loop-i.i = omega (arith, c.loop-i-test.false) in
    no_more g.R.Keyed.key_of c.loop-i.i c.args.rows.now past c.loop-i.invariant
