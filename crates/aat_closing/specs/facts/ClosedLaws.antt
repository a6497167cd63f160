-- A closing act meets the laws of an act where the act itself does: marks change masks alone.
use Rattle.std.proofs.Common.{◌≡◌, ◌∙◌, ℕ, ◌+◌, ◌≤◌, Bool, false, length, min, nat_le, Some, refl, arith}
use Rattle.std.proofs.lemmas.Bool.Decides.{nat_tests}
use Rattle.aat_buffer.specs.Buffer.{Buffer}
use Rattle.aat_buffer.specs.Marks.{unsafe_to_break}
use Rattle.aat_buffer.specs.facts.Lines.{length_unsafe}
use Rattle.aat_buffer.specs.facts.Order.{kept_refl, kept_unsafe, same_unsafe}
use Rattle.aat_run.specs.Context.{Moved}
use Rattle.aat_run.specs.Laws.{Bounded, KeepsClusterOrder, KeepsFit, KeepsLengthWhere, KeepsPlaceWhere, KeepsSettings, Lengthens, MakesNoPositions, Pays}
use Rattle.aat_closing.specs.Closing.{closed_from, closing}

-- a span of one glyph gets no marks
pub one_glyph : (b : Buffer) (p : ℕ) → unsafe_to_break b (Some p) (Some (p + 1)) ≡ b
one_glyph b p = let short : nat_le (p + 2) (min (p + 1) (length b.line)) ≡ false = grind (arith, nat_tests) in rw short refl

-- the closed line keeps its length
pub length_closed : (i : ℕ) (b : Buffer) → length (closed_from i b).line ≡ length b.line
length_closed i b = length_unsafe b (Some i) (Some (b.cursor + 1))

module _ {R E : Type 0} (fits : R → ℕ → ℕ → Type 0) (act : E → R → Buffer → Moved R) (from : E → R → Buffer → ℕ) where
  fit_closed : (e : E) (r : R) (b : Buffer) → fits r b.cursor (length b.line) → fits r b.cursor (length (closed_from (from e r b) b).line)
  fit_closed e r b fit = rw (length_closed (from e r b) b) fit

  pub keeps_fit : KeepsFit act fits → KeepsFit (closing from act) fits
  keeps_fit law e r b fit below = law e r (closed_from (from e r b) b) (fit_closed e r b fit) below

  pub pays : Pays act fits → Pays (closing from act) fits
  pays law e r b fit = rw (length_closed (from e r b) b) at (law e r (closed_from (from e r b) b) (fit_closed e r b fit))

  pub bounded : Bounded act fits → Bounded (closing from act) fits
  bounded law e r b fit = rw (length_closed (from e r b) b) at (law e r (closed_from (from e r b) b) (fit_closed e r b fit))

  pub lengthens : Lengthens act fits → Lengthens (closing from act) fits
  lengthens law e r b fit =
      let long = length_closed (from e r b) b in
      let more = law e r (closed_from (from e r b) b) (fit_closed e r b fit) in
      omega (arith, long, more)

  pub makes_no_positions : MakesNoPositions act fits → MakesNoPositions (closing from act) fits
  makes_no_positions law e r b fit none = law e r (closed_from (from e r b) b) (fit_closed e r b fit) none

  pub keeps_settings : KeepsSettings act fits → KeepsSettings (closing from act) fits
  keeps_settings law e r b fit =
      let kept = law e r (closed_from (from e r b) b) (fit_closed e r b fit) in
      record { direction = kept.direction; cluster_level = kept.cluster_level; flags = kept.flags; scratch_flags = kept.scratch_flags; max_len = kept.max_len; successful = kept.successful }

  pub keeps_count : {keeps : Bool} → KeepsLengthWhere act fits keeps → KeepsLengthWhere (closing from act) fits keeps
  keeps_count law is e r b fit = law is e r (closed_from (from e r b) b) (fit_closed e r b fit) ∙ length_closed (from e r b) b

  pub keeps_place : {in_place : Bool} → KeepsPlaceWhere act fits in_place → KeepsPlaceWhere (closing from act) fits in_place
  keeps_place law is =
      let place = law is in
      record {
        length = λ e r b fit. place.length e r (closed_from (from e r b) b) (fit_closed e r b fit) ∙ length_closed (from e r b) b;
        cursor = λ e r b fit. place.cursor e r (closed_from (from e r b) b) (fit_closed e r b fit);
        positions = λ e r b fit. place.positions e r (closed_from (from e r b) b) (fit_closed e r b fit);
      }

  pub keeps_order : KeepsClusterOrder act fits → KeepsClusterOrder (closing from act) fits
  keeps_order law = record {
    rising = λ e r b fit level ordered.
        law.rising e r (closed_from (from e r b) b) (fit_closed e r b fit) level ((kept_unsafe (λ x y. x ≤ y) (λ x y same. omega (arith, same)) b b (Some (from e r b)) (Some (b.cursor + 1)) (kept_refl (λ x y. x ≤ y) (λ x y same. omega (arith, same)) b)).ordered level ordered);
    falling = λ e r b fit level ordered.
        law.falling e r (closed_from (from e r b) b) (fit_closed e r b fit) level ((kept_unsafe (λ x y. y ≤ x) (λ x y same. omega (arith, same)) b b (Some (from e r b)) (Some (b.cursor + 1)) (kept_refl (λ x y. y ≤ x) (λ x y same. omega (arith, same)) b)).ordered level ordered);
    clusters = λ e r b fit k within.
        let source = law.clusters e r (closed_from (from e r b) b) (fit_closed e r b fit) k within in
        (source.0, rw (length_closed (from e r b) b) at source.1, source.2 ∙ same_unsafe b (Some (from e r b)) (Some (b.cursor + 1)) source.0);
  }
