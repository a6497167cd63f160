-- Acts on a line once more. (No chapter of the manual.)
use Rattle.std.specs.Prelude.{ℕ, ◌++◌, ◌&&◌, Bool, List, Option, Some, None, drop, fold, length, nat_eq, nat_le, option_and_then, reverse, take, if◌then◌else◌}
use Rattle.std.specs.Cmp.Lexicographic.{pointwise}
use Rattle.aat_trace.specs.declared.traced.TracedAct.{TracedAct}

-- the ids of a line in the order in which a subtable takes them
abbrev pub in_run_order : Bool → List ℕ → List ℕ
in_run_order is_reversed line = if is_reversed then reverse line else line

-- the line has, at the place of an act, what the act takes
abbrev pub has_taken : TracedAct → List ℕ → Bool
has_taken act line =
    nat_le act.place (length line)
    && pointwise nat_eq (take (length act.taken.items) (drop act.place line)) act.taken.items

-- what an act leaves of a line: what it puts stands in place of what it takes; none where the line has not that
abbrev pub changed_by : TracedAct → List ℕ → Option (List ℕ)
changed_by act line =
    if has_taken act line
    then Some (take act.place line ++ (act.put.items ++ drop (length act.taken.items) (drop act.place line)))
    else None

-- what acts leave of a line, one behind another
abbrev pub replayed : List TracedAct → List ℕ → Option (List ℕ)
replayed acts line = fold (λ left act. option_and_then (changed_by act) left) (Some line) acts
