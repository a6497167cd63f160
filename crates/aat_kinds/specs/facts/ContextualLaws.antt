-- The laws of the contextual act.
use Rattle.std.proofs.Common.{◌≡◌, ℕ, ◌+◌, ◌<◌, true, min, List, length, Option, Some, None, refl, ◌∙◌, arith, length-set}
use Rattle.aat_buffer.specs.Buffer.{Buffer, glyph_at}
use Rattle.aat_buffer.specs.Marks.{unsafe_to_break}
use Rattle.aat_machine_tables.specs.Entries.{has_flag}
use Rattle.aat_run.specs.Context.{Moved}
use Rattle.aat_run.specs.Laws.{KeepsFit, PassesFit, FitsFresh, Pays, Bounded, Lengthens, KeepsLength, KeepsCursor, KeepsPositions, KeepsSettings, SameSettings}
use Rattle.aat_kinds.specs.Contextual.{Entry, Registers, IsFit, act, answer_of, changed_by, looked_up, at_mark, at_cursor, behind_mark, behind_cursor, replaced_at, with_mark, can_act, fresh}
use Rattle.aat_run.specs.facts.InPlace.{Keeps, KeepsAll, pays_in_place, bounded_in_place, lengthens_in_place}
use Rattle.aat_buffer.specs.facts.Cases.{chosen}
use Rattle.aat_buffer.specs.facts.Lines.{length_unsafe}

-- P of the buffer, if there is one
OnSomeBuffer : (Buffer → Type 0) → Option Buffer → Type 0
OnSomeBuffer P None = Unit {0}
OnSomeBuffer P (Some d) = P d

pub fits_fresh : FitsFresh IsFit fresh
fits_fresh n = (λ h. grind (arith, h), λ h. refl)

pub passes_fit : PassesFit IsFit
passes_fit r p n fit below = fit

module _ (classes : Option (List (ℕ × ℕ))) (lookups : List (List (ℕ × ℕ))) where
  -- each value that an answer may give is good
  unfoldable pub OnValue : (ℕ → Type 0) → Option (Option ℕ) → Type 0
  OnValue Good None = Unit {0}
  OnValue Good (Some None) = Unit {0}
  OnValue Good (Some (Some v)) = Good v

  module _ (P : Buffer → Type 0) (Good : ℕ → Type 0)
      (good : (index g : ℕ) → OnValue Good (answer_of classes lookups index g))
      (on_unsafe : (d : Buffer) (i j : Option ℕ) → P d → P (unsafe_to_break d i j))
      (on_glyph : (d : Buffer) (i v : ℕ) → Good v → P d → P (replaced_at classes lookups i v d))
    where
      of_answer : (change : ℕ → Buffer) (b : Buffer) (o : Option (Option ℕ)) → P b → OnValue Good o → ((v : ℕ) → Good v → P (change v)) → OnSomeBuffer P (changed_by classes lookups o change b)
      unfolding OnSomeBuffer OnValue
      of_answer change b None same is_good more = tt
      of_answer change b (Some None) same is_good more = same
      of_answer change b (Some (Some v)) same is_good more = more v is_good

      of_looked_up : (index i : ℕ) (change : ℕ → Buffer) (b : Buffer) → P b → ((v : ℕ) → Good v → P (change v)) → OnSomeBuffer P (looked_up classes lookups index i change b)
      of_looked_up index i change b same more = of_answer change b (answer_of classes lookups index (glyph_at b.line i).glyph_id) same (good index (glyph_at b.line i).glyph_id) more

      of_mark : (e : Entry) (r : Registers) (b : Buffer) → P b → OnSomeBuffer P (at_mark classes lookups e r b)
      unfolding at_mark
      of_mark e r b p = of_looked_up _ _ _ b p (λ v is_good. on_glyph _ r.mark v is_good (on_unsafe b (Some r.mark) (Some (min (b.cursor + 1) (length b.line))) p))

      of_cursor : (e : Entry) (b : Buffer) → P b → OnSomeBuffer P (at_cursor classes lookups e b)
      unfolding at_cursor
      of_cursor e b p = of_looked_up _ _ _ b p (λ v is_good. on_glyph b _ v is_good p)

      of_behind_cursor : (e : Entry) (r : Registers) (b : Buffer) (o : Option Buffer) → P b → OnSomeBuffer P o → P (behind_cursor classes lookups e r b o).buffer
      unfolding OnSomeBuffer
      of_behind_cursor e r b None p q = p
      of_behind_cursor e r b (Some d) p q = q

      of_behind_mark : (e : Entry) (r : Registers) (b : Buffer) (o : Option Buffer) → P b → OnSomeBuffer P o → P (behind_mark classes lookups e r b o).buffer
      unfolding OnSomeBuffer
      of_behind_mark e r b None p q = p
      of_behind_mark e r b (Some d) p q = of_behind_cursor e r d (at_cursor classes lookups e d) q (of_cursor e d q)

      -- what marking and replacing by good values keep, an act keeps
      pub of_good_act : (e : Entry) (r : Registers) (b : Buffer) → P b → P (act classes lookups e r b).buffer
      unfolding act
      of_good_act e r b p =
          chosen (λ (n : Moved Registers). P n.buffer) (can_act r b.cursor (length b.line)) (behind_mark classes lookups e r b (at_mark classes lookups e r b)) (record { registers = r; buffer = b })
          (λ _. of_behind_mark e r b (at_mark classes lookups e r b) p (of_mark e r b p)) (λ _. p)

  pub any_value : (o : Option (Option ℕ)) → OnValue (λ v. Unit {0}) o
  unfolding OnValue
  any_value None = tt
  any_value (Some None) = tt
  any_value (Some (Some v)) = tt

  -- what marking and replacing keep, an act keeps
  pub of_act : (P : Buffer → Type 0) → ((d : Buffer) (i j : Option ℕ) → P d → P (unsafe_to_break d i j)) → ((d : Buffer) (i v : ℕ) → P d → P (replaced_at classes lookups i v d))
      → (e : Entry) (r : Registers) (b : Buffer) → P b → P (act classes lookups e r b).buffer
  of_act P on_unsafe on_glyph e r b p = of_good_act P (λ v. Unit {0}) (λ index g. any_value (answer_of classes lookups index g)) on_unsafe (λ d i v _. on_glyph d i v) e r b p

  pub keeps : KeepsAll (act classes lookups) IsFit
  keeps e r b fit =
      of_act (Keeps (act classes lookups) IsFit b)
      (λ d i j k. record { length = length_unsafe d i j ∙ k.length; cursor = k.cursor; budget = k.budget })
      (λ d i v k. record { length = length-set d.line i _ ∙ k.length; cursor = k.cursor; budget = k.budget })
      e r b (record { length = refl; cursor = refl; budget = refl })

  -- the registers stay, or the cursor is marked
  regs_of : (e : Entry) (r : Registers) (p n : ℕ) → IsFit r p n → p < n → IsFit (with_mark e r p) p n
  regs_of e r p n fit below = chosen (λ s. IsFit s p n) (has_flag e 0x8000) (record { mark = p; is_set = true }) r (λ _. (λ _. below, λ h. grind (arith, h))) (λ _. fit)

  regs_behind_cursor : (e : Entry) (r : Registers) (b : Buffer) (o : Option Buffer) (n : ℕ) → OnSomeBuffer (λ d. d.cursor ≡ b.cursor) o → IsFit r b.cursor n → b.cursor < n → IsFit (behind_cursor classes lookups e r b o).registers b.cursor n
  unfolding OnSomeBuffer
  regs_behind_cursor e r b None n same fit below = fit
  regs_behind_cursor e r b (Some d) n same fit below = rw same (regs_of e r b.cursor n fit below)

  regs_behind_mark : (e : Entry) (r : Registers) (b : Buffer) (o : Option Buffer) (n : ℕ) → OnSomeBuffer (λ d. d.cursor ≡ b.cursor) o → IsFit r b.cursor n → b.cursor < n → IsFit (behind_mark classes lookups e r b o).registers b.cursor n
  unfolding OnSomeBuffer
  regs_behind_mark e r b None n same fit below = fit
  regs_behind_mark e r b (Some d) n same fit below =
      regs_behind_cursor e r d (at_cursor classes lookups e d) n (of_cursor (λ x. x.cursor ≡ d.cursor) (λ v. Unit {0}) (λ index g. any_value (answer_of classes lookups index g)) (λ x i j k. k) (λ x i v _ k. k) e d refl) fit (rw same below)

  regs_of_act : (e : Entry) (r : Registers) (b : Buffer) → IsFit r b.cursor (length b.line) → b.cursor < length b.line → IsFit (act classes lookups e r b).registers b.cursor (length b.line)
  unfolding act
  regs_of_act e r b fit inside =
      chosen (λ (n : Moved Registers). IsFit n.registers b.cursor (length b.line)) (can_act r b.cursor (length b.line)) (behind_mark classes lookups e r b (at_mark classes lookups e r b)) (record { registers = r; buffer = b })
      (λ _. regs_behind_mark e r b (at_mark classes lookups e r b) (length b.line) (of_mark (λ x. x.cursor ≡ b.cursor) (λ v. Unit {0}) (λ index g. any_value (answer_of classes lookups index g)) (λ x i j k. k) (λ x i v _ k. k) e r b refl) fit inside)
      (λ _. fit)

  pub keeps_fit : KeepsFit (act classes lookups) IsFit
  keeps_fit e r b fit below =
      let k = keeps e r b fit in
      rw k.length (regs_of_act e r b fit (rw (k.cursor, k.length) at below))

  pub pays : Pays (act classes lookups) IsFit
  pays = pays_in_place _ _ keeps

  pub bounded : Bounded (act classes lookups) IsFit
  bounded = bounded_in_place _ _ keeps

  pub lengthens : Lengthens (act classes lookups) IsFit
  lengthens = lengthens_in_place _ _ keeps

  pub keeps_length : KeepsLength (act classes lookups) IsFit
  keeps_length e r b fit = (keeps e r b fit).length

  pub keeps_cursor : KeepsCursor (act classes lookups) IsFit
  keeps_cursor e r b fit = (keeps e r b fit).cursor

  pub keeps_positions : KeepsPositions (act classes lookups) IsFit
  keeps_positions e r b fit = of_act (λ d. d.positions ≡ b.positions) (λ d i j k. k) (λ d i v k. k) e r b refl

  pub keeps_settings : KeepsSettings (act classes lookups) IsFit
  keeps_settings e r b fit =
      of_act (SameSettings b) (λ d i j k. record { direction = k.direction; cluster_level = k.cluster_level; flags = k.flags; scratch_flags = k.scratch_flags; max_len = k.max_len; successful = k.successful })
      (λ d i v k. record { direction = k.direction; cluster_level = k.cluster_level; flags = k.flags; scratch_flags = k.scratch_flags; max_len = k.max_len; successful = k.successful })
      e r b (record { direction = refl; cluster_level = refl; flags = refl; scratch_flags = refl; max_len = refl; successful = refl })
