use Rattle.std.proofs.Common.{eqb}
use Rattle.std.proofs.lemmas.List.Filters.{dedup_is}
use Rattle.aat_map.proofs.StartLemmas.{starts_made}
use Rattle.aat_map.proofs.starts.starts_of.Goals as goal

pub returns-clause-ok : goal.returns-clause-ok
returns-clause-ok g c =
    let moved = rw c.in_ok-starts.ensures.ok at c.in_ok-sort.ensures.permutation in
    rw (dedup_is eqb c.sort.new.self.items c.dedup.new.self.items c.dedup.ensures.filtered) (starts_made c.args.ordered.now c.args.ending.now c.sort.new.self.items moved c.in_ok-sort.ensures.sorted)
