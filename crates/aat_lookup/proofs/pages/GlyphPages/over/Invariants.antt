use Rattle.std.proofs.Common.{◌≡◌, ℕ, ◌+◌, ◌*◌, ◌<◌, ◌≤◌, length, get_or, None}
use Rattle.aat_lookup.specs.Keys.{first, value_in}
use Rattle.aat_lookup.specs.inside.Dense.{on_page, AreKept}
use Rattle.aat_lookup.specs.inside.Walks.{AreBelow}
use Rattle.aat_lookup.proofs.pages.GlyphPages.over.Given as goal

abbrev pub invariant-loop-page : goal.invariant-loop-page
invariant-loop-page g l = record {
  long : length l.starts.items ≡ l.page;
  room : length l.cells.items ≤ l.page * 256;
  passed : AreBelow first l.fn.pairs l.at (l.page * 256);
  kept : AreKept l.starts.items l.cells.items;
  values : (p k : ℕ) → p < l.page → k < 256 → on_page l.cells.items (get_or l.starts.items p None) k ≡ value_in l.fn.pairs (p * 256 + k);
}
