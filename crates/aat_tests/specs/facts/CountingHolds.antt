-- The laws of the context that counts.
use Rattle.std.proofs.Common.{◌≡◌, ℕ, ◌+◌, ◌≤◌, true, length, refl, ◌∙◌, arith, length-set, min}
use Rattle.aat_buffer.specs.Buffer.{Buffer}
use Rattle.aat_buffer.specs.facts.Cases.{chosen}
use Rattle.aat_buffer.specs.facts.Order.{Kept, kept_refl, kept_set}
use Rattle.aat_run.specs.Context.{Moved}
use Rattle.aat_run.specs.Laws.{FitsAlways, FitsWhereFresh, KeepsFit, PassesFit, Pays, Bounded, Lengthens, KeepsPlaceWhere, KeepsLengthWhere, MakesNoPositions, KeepsSettings, SameSettings, KeepsClusterOrder}
use Rattle.aat_run.specs.facts.InPlace.{Keeps, KeepsAll, pays_in_place, bounded_in_place, lengthens_in_place}
use Rattle.aat_tests.specs.Counting.{Entry, IsFresh, actionable, masked, act}
use Rattle.aat_tests.specs.declared.counting.CountingCtx.{CountingCtx}

of_act : (P : Buffer → Type 0) (e : Entry) (r : CountingCtx) (b : Buffer) → P b → P (masked b) → P (act e r b).buffer
of_act P e r b p q = chosen (λ (m : Moved CountingCtx). P m.buffer) (actionable e r b.cursor (length b.line)) (record { registers = record { count = min (r.count + 1) 0xFFFFFFFF }; buffer = masked b }) (record { registers = r; buffer = b }) (λ _. q) (λ _. p)

pub keeps : KeepsAll act FitsAlways
keeps e r b fit = of_act (Keeps act FitsAlways b) e r b (record { length = refl; cursor = refl; budget = refl }) (record { length = length-set b.line b.cursor _; cursor = refl; budget = refl })

pub fits_fresh : FitsWhereFresh IsFresh FitsAlways
fits_fresh r fresh n = tt

pub keeps_fit : KeepsFit act FitsAlways
keeps_fit e r b fit below = tt

pub passes_fit : PassesFit {R = CountingCtx} FitsAlways
passes_fit r p n fit below = tt

pub pays : Pays act FitsAlways
pays = pays_in_place _ _ keeps

pub bounded : Bounded act FitsAlways
bounded = bounded_in_place _ _ keeps

pub lengthens : Lengthens act FitsAlways
lengthens = lengthens_in_place _ _ keeps

positions : (e : Entry) (r : CountingCtx) (b : Buffer) → (act e r b).buffer.positions ≡ b.positions
positions e r b = of_act (λ d. d.positions ≡ b.positions) e r b refl refl

pub keeps_place : KeepsPlaceWhere act FitsAlways true
keeps_place _ = record { length = λ e r b fit. (keeps e r b fit).length; cursor = λ e r b fit. (keeps e r b fit).cursor; positions = λ e r b fit. positions e r b }

pub keeps_count : KeepsLengthWhere act FitsAlways true
keeps_count _ e r b fit = (keeps e r b fit).length

pub makes_no_positions : MakesNoPositions act FitsAlways
makes_no_positions e r b fit none = positions e r b ∙ none

same_settings : (b : Buffer) → SameSettings b b
same_settings b = record { direction = refl; cluster_level = refl; flags = refl; scratch_flags = refl; max_len = refl; successful = refl }

pub keeps_settings : KeepsSettings act FitsAlways
keeps_settings e r b fit = of_act (SameSettings b) e r b (same_settings b) (record { direction = refl; cluster_level = refl; flags = refl; scratch_flags = refl; max_len = refl; successful = refl })

kept : (R : ℕ → ℕ → Type 0) (same : (x y : ℕ) → x ≡ y → R x y) (e : Entry) (r : CountingCtx) (b : Buffer) → Kept R same b (act e r b).buffer
kept R same e r b = of_act (Kept R same b) e r b (kept_refl R same b) (kept_set R same b b b.cursor _ refl (kept_refl R same b))

pub keeps_order : KeepsClusterOrder act FitsAlways
keeps_order = record {
  rising = λ e r b fit merge. (kept (λ x y. x ≤ y) (λ x y q. omega (arith, q)) e r b).ordered merge;
  falling = λ e r b fit merge. (kept (λ x y. y ≤ x) (λ x y q. omega (arith, q)) e r b).ordered merge;
  clusters = λ e r b fit. (kept (λ x y. x ≤ y) (λ x y q. omega (arith, q)) e r b).from;
}
