-- The formula of a safe turn, as the branches that a body takes: SafeBranches of the facts shows that they are the
-- formula.
use Rattle.std.specs.Prelude.{◌==◌, ◌&&◌, not, Bool, true, false, Option, Some, None, length, if◌then◌else◌}
use Rattle.aat_lookup.specs.Truth.{is_alike}
use Rattle.aat_run.specs.Context.{Machine, Config}

module _ {R E : Type 0} (m : Machine R E) (c : Config R) where
  abbrev pub acts : E → Bool
  acts e = m.actionable e c.registers c.buffer.cursor (length c.buffer.line)

  -- an entry that does as e does, without an act
  unfoldable pub does_alike : E → Option E → Bool
  does_alike e None = false
  does_alike e (Some f) =
      if m.next f == m.next e then (if acts f then false else is_alike (m.advances f) (m.advances e)) else false

  -- an entry for the end of the text that does not act
  abbrev pub is_idle_at_end : Option E → Bool
  is_idle_at_end None = false
  is_idle_at_end (Some f) = not (acts f)

  -- e stays, and goes to the first state
  abbrev pub stays_for_start : E → Bool
  stays_for_start e = not (m.advances e) && (m.next e == 0)

  -- the first state; or e stays and goes there; or state 0 does alike
  abbrev pub restarts_alike : E → Option E → Bool
  restarts_alike e from_start =
      if c.state == 0 then true
      else (if stays_for_start e then true else does_alike e from_start)

  -- the branches: the first state leads on as e does; e acts; the entry for the end acts
  abbrev pub safe_branches : E → Option E → Option E → Bool
  safe_branches e from_start at_end =
      if restarts_alike e from_start then (if acts e then false else is_idle_at_end at_end) else false
