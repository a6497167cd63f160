-- Anchors over registers that hold the points of the font: what they change, and where their runs leave a line open.
use Rattle.std.proofs.Common.{◌≡◌, ◌∙◌, ℕ, zero, suc, ◌+◌, ◌==◌, ◌&&◌, Bool, true, false, cond, List, Option, Some, None, refl, ap, sym}
use Rattle.std.specs.Prelude.{option_map}
use Rattle.aat_buffer.specs.Buffer.{Buffer}
use Rattle.aat_kerning_tables.specs.AnchorPoints.{Points}
use Rattle.aat_lookup.specs.Truth.{is_some_and}
use Rattle.aat_machine_tables.specs.Table.{TableValue}
use Rattle.aat_machine_tables.specs.declared.entries.EntryData.{EntryData}
use Rattle.aat_machine_tables.specs.declared.state_table.GenericStateEntry.{GenericStateEntry}
use Rattle.aat_run.specs.Budget.{potential}
use Rattle.aat_run.specs.Context.{Config, start}
use Rattle.aat_run.specs.Laws.{FitsAlways}
use Rattle.aat_run.specs.Machine.{Ends, Goes, OnGoes, Turn}
use Rattle.aat_run.specs.facts.Runs.{mapped}
use Rattle.aat_kerning_machines.specs.Anchors.{Held, anchor_driver, held_act, held_fresh}
use Rattle.aat_kerning_machines.specs.KerningLaws.{ChangesPositionsAlone}
use Rattle.aat_kerning_machines.specs.KerningMachine.{driver_from, has_action, kerning_machine_of, kerning_turn}
use Rattle.aat_kerning_machines.specs.facts.AnchorRuns.{anchors_stay_held, anchors_turn_alike, unheld}
use Rattle.aat_cut_kinds.specs.KerningClosing.{anchor_touching, first_at, goes_as_from_start, is_apart, is_open, passes_each, rests_if_over}
use Rattle.aat_cut_kinds.specs.facts.AnchorParts.{anchors_keep_places}
use Rattle.aat_cut_kinds.specs.inside.OpenRuns.{held_touching}

pub held_keeps_places : (pairs : List (ℕ × ℕ)) → ChangesPositionsAlone (held_act pairs) FitsAlways
held_keeps_places pairs e h b fit = anchors_keep_places h.points pairs 0 e h.mark b fit

-- turns over registers that say more, seen by less
module _ {R S : Type 0} (plain : Config R → Turn (Config R)) (full : Config S → Turn (Config S)) (seen : Config S → Config R)
    (Good : Config S → Type 0) (same_cursor : (c : Config S) → (seen c).buffer.cursor ≡ c.buffer.cursor)
    (turns : (c : Config S) → Good c → plain (seen c) ≡ mapped seen (full c)) (stays : (c : Config S) → Good c → OnGoes Good (full c))
  where
    passes_behind :
        (test : Config R → Bool) (n : ℕ) (t : Turn (Config S)) → OnGoes Good t
        → ((c : Config S) → Good c → passes_each plain test n (seen c) ≡ passes_each full (λ d. test (seen d)) n c)
        → elim (mapped seen t) as (λ _. Bool) [ Ends d ↦ true | Goes d ↦ passes_each plain test n d ]
        ≡ elim t as (λ _. Bool) [ Ends d ↦ true | Goes d ↦ passes_each full (λ d. test (seen d)) n d ]
    passes_behind test n (Ends d) good more = refl
    passes_behind test n (Goes d) good more = more d good

    pub passes_seen : (test : Config R → Bool) (n : ℕ) (c : Config S) → Good c → passes_each plain test n (seen c) ≡ passes_each full (λ d. test (seen d)) n c
    unfolding passes_each
    passes_seen test zero c good = refl
    passes_seen test (suc n) c good =
        ap (λ (t : Turn (Config R)). test (seen c) && elim t as (λ _. Bool) [ Ends d ↦ true | Goes d ↦ passes_each plain test n d ]) (turns c good)
        ∙ ap (λ (x : Bool). test (seen c) && x) (passes_behind test n (full c) (stays c good) (passes_seen test n))

    -- what is found first, tested
    module _ (test : Config R → Bool) (held : Config S → Bool) (alike : (c : Config S) → Good c → test (seen c) ≡ held c) where
      first_behind :
          (q n : ℕ) (t : Turn (Config S)) → OnGoes Good t
          → ((c : Config S) → Good c → is_some_and (first_at plain q n (seen c)) test ≡ is_some_and (first_at full q n c) held)
          → is_some_and (elim (mapped seen t) as (λ _. Option (Config R)) [ Ends d ↦ None | Goes d ↦ first_at plain q n d ]) test
          ≡ is_some_and (elim t as (λ _. Option (Config S)) [ Ends d ↦ None | Goes d ↦ first_at full q n d ]) held
      first_behind q n (Ends d) good more = refl
      first_behind q n (Goes d) good more = more d good

      chosen_first :
          (t u : Bool) (c : Config S) (o : Option (Config R)) (p : Option (Config S)) → t ≡ u → Good c → is_some_and o test ≡ is_some_and p held
          → is_some_and (cond t (Some (seen c)) o) test ≡ is_some_and (cond u (Some c) p) held
      chosen_first true true c o p is good rest = alike c good
      chosen_first false false c o p is good rest = rest
      chosen_first true false c o p is good rest = absurd (let h = is in cc)
      chosen_first false true c o p is good rest = absurd (let h = is in cc)

      pub first_seen : (q n : ℕ) (c : Config S) → Good c → is_some_and (first_at plain q n (seen c)) test ≡ is_some_and (first_at full q n c) held
      unfolding first_at
      first_seen q zero c good = refl
      first_seen q (suc n) c good =
          ap (λ (t : Turn (Config R)). is_some_and (cond ((seen c).buffer.cursor == q) (Some (seen c)) (elim t as (λ _. Option (Config R)) [ Ends d ↦ None | Goes d ↦ first_at plain q n d ])) test) (turns c good)
          ∙ chosen_first ((seen c).buffer.cursor == q) (c.buffer.cursor == q) c _ _ (ap (λ (p : ℕ). p == q) (same_cursor c)) good
          (first_behind q n (full c) (stays c good) (first_seen q n))

-- a place is open to the run that holds the points where it is open to that of the definition
pub held_opens :
    (pays_first : Bool) (points : Option Points) (pairs : List (ℕ × ℕ)) (table : TableValue (GenericStateEntry EntryData)) (q : ℕ) (b : Buffer)
    → is_open held_touching table pays_first (driver_from has_action (held_act pairs) (held_fresh points)) q b
    ≡ is_open anchor_touching table pays_first (anchor_driver points pairs) q b
unfolding is_open
held_opens pays_first points pairs table q b =
    let plain = kerning_turn (kerning_machine_of pays_first table (anchor_driver points pairs)) in
    let full = kerning_turn (kerning_machine_of pays_first table (driver_from has_action (held_act pairs) (held_fresh points))) in
    let first = start true b (held_fresh points) in
    let turns = anchors_turn_alike points pairs pays_first table in
    let stays = anchors_stay_held points pairs pays_first table in
    let apart : (n : ℕ) (c : Config Held) → c.registers.points ≡ points
    → passes_each plain (is_apart anchor_touching table q) n (unheld points pairs c) ≡ passes_each full (is_apart held_touching table q) n c =
    λ n c good. passes_seen plain full (unheld points pairs) (λ d. d.registers.points ≡ points) (λ d. refl) turns stays (is_apart anchor_touching table q) n c good in
    sym (
    first_seen plain full (unheld points pairs) (λ d. d.registers.points ≡ points) (λ d. refl) turns stays
    (λ c. goes_as_from_start anchor_touching table c && (rests_if_over anchor_touching table c && passes_each plain (is_apart anchor_touching table q) (potential c.buffer + 1) c))
    (λ c. goes_as_from_start held_touching table c && (rests_if_over held_touching table c && passes_each full (is_apart held_touching table q) (potential c.buffer + 1) c))
    (λ c good. ap (λ (x : Bool). goes_as_from_start held_touching table c && (rests_if_over held_touching table c && x)) (apart (potential c.buffer + 1) c good))
    q (potential first.buffer + 1) first refl
    )
