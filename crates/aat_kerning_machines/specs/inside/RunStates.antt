-- The rest of a kerning machine's turn.
use Rattle.std.specs.Prelude.{◌+◌, Bool, length, nat_lt, if◌then◌else◌}
use Rattle.aat_run.specs.Context.{Config}
use Rattle.aat_run.specs.Machine.{Turn, Ends}
use Rattle.aat_kerning_machines.specs.KerningMachine.{KerningMachine, kerning_acted, looked_ahead}

module _ {R E : Type 0} (m : KerningMachine R E) (e : E) (c : Config R) where
  -- the rest of an entry's turn, behind the marks before the cursor: the look ahead where two glyphs or more are left
  abbrev pub behind_marks : Turn (Config R)
  behind_marks =
      if nat_lt (c.buffer.cursor + 1) (length c.buffer.line)
      then looked_ahead m e (m.entry c.state 0) c
      else kerning_acted m e c

  -- the act of an entry, if the run comes to it
  abbrev pub acted_if : Bool → Turn (Config R)
  acted_if does_act = if does_act then kerning_acted m e c else Ends c
