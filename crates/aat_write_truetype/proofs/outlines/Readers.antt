-- Types of the reader that have no name outside its crate, by what takes them.
use Rattle.std.specs.Prelude.{[]}
use Rattle.aat_read_outlines.specs.Flags.{next_run}
use Rattle.aat_read_outlines.specs.Points.{point_at}

-- what a function takes
abbrev domain : {A B : Type 0} → (A → B) → Type 0
domain {A = A} {B = B} f = A

-- a flag, and how often it is still repeated
abbrev pub FlagRun : Type 0
FlagRun = domain (next_run [])

-- where a pen is, and the places of its next steps
abbrev pub Pen : Type 0
Pen = domain point_at
