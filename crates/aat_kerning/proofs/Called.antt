-- What the calls of kerning leave, from what their loops leave.
use Rattle.std.proofs.Common.{◌≡◌, ◌∙◌, ap, sym, subst, refl, ℕ, Bool, true, false, true≢false, List, [], Option, Some, None, map}
use Rattle.std.specs.Bool.{OnTrue}
use Rattle.std.proofs.lemmas.Slice.Zip.{AllZip-long}
use Rattle.std.specs.Prelude.{IsNone, IsSome, is_some}
use Rattle.aat_buffer.specs.Buffer.{Buffer}
use Rattle.aat_buffer.specs.Marks.{unsafe_to_concat}
use Rattle.aat_kerning_tables.specs.AnchorPoints.{Points}
use Rattle.aat_font.specs.Face.{kern_in, kerx_in}
use Rattle.aat_kerning_tables.specs.declared.kern.KernSubtable.{KernSubtable}
use Rattle.aat_kerning_tables.specs.declared.kerx.KerxSubtable.{KerxSubtable}
use Rattle.aat_run.specs.Outcome.{Outcome, untouched}
use Rattle.aat_kerning_machines.specs.KerningLaws.{IsKernedFrom, IsMarkedFrom}
use Rattle.aat_kerning.specs.Positioning.{Kerning, kerning_of_kern_subtable, kern_positioning, kerning_of_kerx_subtable, kerx_positioning, positioning}
use Rattle.aat_kerning_machines.specs.Positions.{IsPlaced}
use Rattle.aat_kerning.proofs.Positioned.{none_positioned}

kern_none : (o : Option (List KernSubtable)) → IsNone o → kern_in o ≡ []
kern_none None e = refl
kern_none (Some x) e = cc

kerx_none : (o : Option (List KerxSubtable)) → IsNone o → kerx_in o ≡ []
kerx_none None e = refl
kerx_none (Some x) e = cc

-- positions that stand are as many as the glyphs
pub placed_as_asked :
    (b : Buffer) (asked : Bool) → asked ≡ is_some b.positions → OnTrue asked (IsPlaced b) → IsSome b.positions → IsPlaced b
placed_as_asked b true e placed some = placed
placed_as_asked b false e placed some = absurd (true≢false (sym (e ∙ some)))

-- and they still are where a line was kerned
pub still_placed : (b d : Buffer) → IsKernedFrom b d → IsPlaced b → IsPlaced d
still_placed b d kept placed = kept.text.positions ∙ (placed ∙ sym (AllZip-long IsMarkedFrom b.line d.line kept.line))

-- what holds of the line that a kerning leaves, or of all that it leaves, holds of what a call of it left
module _ (kern : Buffer → Outcome) (b d : Buffer) (n : ℕ) (ran : record { buffer = d; turns = n } ≡ kern b) where
  pub of_left : (P : Buffer → Type 0) → P (kern b).buffer → P d
  of_left P = subst P (sym (ap (λ (o : Outcome). o.buffer) ran))

  pub of_outcome : (P : Outcome → Type 0) → P (kern b) → P (record { buffer = d; turns = n })
  of_outcome P = subst P (sym ran)

-- a table that is missing has no subtables, and these leave the line as it was
none_called :
    {X : Type 0} (requested : Bool) (kerning : X → Kerning) (subtables : List X) (b d : Buffer) (n : ℕ) → subtables ≡ []
    → record { buffer = d; turns = n } ≡ positioning requested (map kerning subtables) b → (n ≡ 0) × (d ≡ b)
none_called {X} requested kerning subtables b d n none ran =
    let is : record { buffer = d; turns = n } ≡ untouched b = ran
    ∙ ap (λ (ss : List X). positioning requested (map kerning ss) b) none ∙ sym (none_positioned requested kerning b) in
    (ap (λ (o : Outcome). o.turns) is, ap (λ (o : Outcome). o.buffer) is)

module _ (requested : Bool) (kern_mask : ℕ) (table : Option (List KernSubtable)) (b d : Buffer) (n : ℕ) where
  pub kern_called :
      (subtables : List KernSubtable) → subtables ≡ kern_in table
      → record { buffer = d; turns = n } ≡ positioning requested (map (kerning_of_kern_subtable kern_mask) subtables) b
      → record { buffer = d; turns = n } ≡ kern_positioning requested kern_mask (kern_in table) b
  unfolding kern_positioning
  kern_called subtables listed ran =
      ran ∙ ap (λ (ss : List KernSubtable). positioning requested (map (kerning_of_kern_subtable kern_mask) ss) b) listed

  pub kern_without_table :
      IsNone table → record { buffer = d; turns = n } ≡ kern_positioning requested kern_mask (kern_in table) b
      → (n ≡ 0) × (d ≡ b)
  unfolding kern_positioning
  kern_without_table missing = none_called requested (kerning_of_kern_subtable kern_mask) (kern_in table) b d n (kern_none table missing)

module _ (requested : Bool) (kern_mask : ℕ) (points : Option Points) (table : Option (List KerxSubtable)) (b d : Buffer) (n : ℕ) where
  pub kerx_called :
      (given : Option Points) (subtables : List KerxSubtable) (marked : Buffer) → given ≡ points → subtables ≡ kerx_in table
      → marked ≡ unsafe_to_concat b None None
      → record { buffer = d; turns = n } ≡ positioning requested (map (kerning_of_kerx_subtable kern_mask given) subtables) marked
      → record { buffer = d; turns = n } ≡ kerx_positioning requested kern_mask points (kerx_in table) b
  unfolding kerx_positioning
  kerx_called given subtables marked same listed is ran =
      ran
      ∙ ap (λ (ps : Option Points). positioning requested (map (kerning_of_kerx_subtable kern_mask ps) subtables) marked) same
      ∙ ap (λ (ss : List KerxSubtable). positioning requested (map (kerning_of_kerx_subtable kern_mask points) ss) marked) listed
      ∙ ap (positioning requested (map (kerning_of_kerx_subtable kern_mask points) (kerx_in table))) is

  pub kerx_without_table :
      IsNone table → record { buffer = d; turns = n } ≡ kerx_positioning requested kern_mask points (kerx_in table) b
      → (n ≡ 0) × (d ≡ unsafe_to_concat b None None)
  unfolding kerx_positioning
  kerx_without_table missing =
      none_called requested (kerning_of_kerx_subtable kern_mask points) (kerx_in table) (unsafe_to_concat b None None) d n (kerx_none table missing)
