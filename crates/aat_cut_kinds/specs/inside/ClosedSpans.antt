-- A span of a line that is closed.
use Rattle.std.specs.Prelude.{◌≡◌, ℕ, ◌<◌, ◌≤◌, Bool, List, false, get_or}
use Rattle.aat_cut_kinds.specs.declared.kerning_opens.ClosedSpan.{ClosedSpan}

-- each place of a span is closed
abbrev pub AreClosed : List Bool → ClosedSpan → Type 0
AreClosed opens span = (q : ℕ) → span.behind < q → q ≤ span.up_to → get_or opens q false ≡ false
