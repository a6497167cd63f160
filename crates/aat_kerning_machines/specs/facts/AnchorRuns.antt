-- Runs of a driver that holds anchor points, in the words of the definition.
use Rattle.std.proofs.Common.{◌≡◌, ℕ, Bool, true, List, Option, refl, ap, sym}
use Rattle.aat_buffer.specs.Buffer.{Buffer}
use Rattle.aat_kerning_tables.specs.AnchorPoints.{Points}
use Rattle.aat_machine_tables.specs.Table.{TableValue}
use Rattle.aat_machine_tables.specs.declared.entries.EntryData.{EntryData}
use Rattle.aat_machine_tables.specs.declared.state_table.GenericStateEntry.{GenericStateEntry}
use Rattle.aat_run.specs.Context.{Config, start}
use Rattle.aat_run.specs.Driven.{outcome_of}
use Rattle.aat_run.specs.facts.Runs.{OnGoes, mapped}
use Rattle.aat_kerning_machines.specs.Anchors.{Held, anchor_act, anchor_driver, held_act, held_fresh}
use Rattle.aat_kerning_machines.specs.KerningMachine.{driver_from, driver_run, kerning_machine_of, kerning_turn, has_action}
use Rattle.aat_kerning_machines.specs.facts.KerningViews.{kerning_is_seen, turn_is_seen, turn_stays_good}

module _ (points : Option Points) (pairs : List (ℕ × ℕ)) where
  -- what is held of a font is this
  Holds : Held → Type 0
  Holds h = h.points ≡ points

  same_act :
      (e : GenericStateEntry EntryData) (h : Held) (b : Buffer) → Holds h
      → anchor_act points pairs e h.mark b
      ≡ record { registers = (held_act pairs e h b).registers.mark; buffer = (held_act pairs e h b).buffer }
  unfolding Holds
  same_act e h b holds = sym (ap (λ (ps : Option Points). anchor_act ps pairs e h.mark b) holds)

  stays_held :
      (e : GenericStateEntry EntryData) (h : Held) (b : Buffer) → Holds h → Holds (held_act pairs e h b).registers
  unfolding Holds
  stays_held e h b holds = holds

  -- what a driver runs that holds anchor points is the run of an anchor subtable
  pub anchors_are_driven :
      (pays_first : Bool) (table : TableValue (GenericStateEntry EntryData)) (b : Buffer)
      → driver_run pays_first table (driver_from has_action (held_act pairs) (held_fresh points)) b
      ≡ driver_run pays_first table (anchor_driver points pairs) b
  unfolding driver_run Holds
  anchors_are_driven pays_first table b =
      sym (ap outcome_of (kerning_is_seen (kerning_machine_of pays_first table (anchor_driver points pairs)) (held_act pairs)
      (λ h. h.mark) Holds same_act stays_held (start true b (held_fresh points)) refl))

  -- where such a driver stands, as the definition sees it
  abbrev pub unheld : Config Held → Config (Option ℕ)
  unheld c = record { buffer = c.buffer; registers = c.registers.mark; state = c.state; last = c.last; turns = c.turns }

  module _ (pays_first : Bool) (table : TableValue (GenericStateEntry EntryData)) where
    -- its turns are those of the definition, and go on holding the points
    pub anchors_turn_alike :
        (c : Config Held) → c.registers.points ≡ points
        → kerning_turn (kerning_machine_of pays_first table (anchor_driver points pairs)) (unheld c)
        ≡ mapped unheld (kerning_turn (kerning_machine_of pays_first table (driver_from has_action (held_act pairs) (held_fresh points))) c)
    unfolding Holds
    anchors_turn_alike c holds =
        turn_is_seen (kerning_machine_of pays_first table (anchor_driver points pairs)) (held_act pairs) (λ h. h.mark) Holds same_act stays_held c holds

    pub anchors_stay_held :
        (c : Config Held) → c.registers.points ≡ points
        → OnGoes (λ d. d.registers.points ≡ points)
        (kerning_turn (kerning_machine_of pays_first table (driver_from has_action (held_act pairs) (held_fresh points))) c)
    unfolding Holds
    anchors_stay_held c holds =
        turn_stays_good (kerning_machine_of pays_first table (anchor_driver points pairs)) (held_act pairs) (λ h. h.mark) Holds same_act stays_held c holds
