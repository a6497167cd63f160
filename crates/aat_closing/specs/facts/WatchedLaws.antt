-- A closing context meets the laws of a context where the one that it holds does.
use Rattle.std.proofs.Common.{◌≡◌, ◌∙◌, ℕ, Bool, ap}
use Rattle.aat_buffer.specs.Buffer.{Buffer}
use Rattle.aat_run.specs.Context.{Moved}
use Rattle.aat_run.specs.Laws.{Bounded, FitsWhereFresh, KeepsClusterOrder, KeepsFit, KeepsLengthWhere, KeepsPlaceWhere, KeepsSettings, Lengthens, MakesNoPositions, PassesFit, Pays, RestsBy}
use Rattle.aat_closing.specs.Closing.{closed_from}
use Rattle.aat_closing.specs.Laws.{RestsOpen}
use Rattle.aat_closing.specs.Watched.{Watched, watched_act, watched_actionable, watched_fit}
use Rattle.aat_closing.specs.facts.ClosedLaws as closed
use Rattle.aat_closing.specs.facts.ClosedLaws.{one_glyph}

module _ {S R E : Type 0} (fits : R → ℕ → ℕ → Type 0) (act : E → R → Buffer → Moved R) (from : S → E → R → Buffer → ℕ) where
  -- the act over what is held
  lifted : E → Watched S R → Buffer → Moved (Watched S R)
  lifted e w b = let left = act e w.inner b in record { registers = record w { inner = left.registers }; buffer = left.buffer }

  start_of : E → Watched S R → Buffer → ℕ
  start_of e w b = from w.subtable e w.inner b

  pub rests_alone : {resting : E → Bool} {actionable acting : E → R → ℕ → ℕ → Bool} → RestsBy resting actionable act → RestsOpen resting acting from
      → RestsBy resting (watched_actionable acting) (watched_act from act)
  rests_alone alone is_open = record {
    unactionable = λ e rests w p n. is_open.unactionable e rests w.inner p n;
    stays = λ e rests w b.
        let same : closed_from (from w.subtable e w.inner b) b ≡ b = ap (λ (i : ℕ). closed_from i b) (is_open.stays_open e rests w.subtable w.inner b) ∙ one_glyph b b.cursor in
        let left : act e w.inner (closed_from (from w.subtable e w.inner b) b) ≡ record { registers = w.inner; buffer = b } = ap (act e w.inner) same ∙ alone.stays e rests w.inner b in
        ap (λ (m : Moved R). record { registers = record w { inner = m.registers }; buffer = m.buffer }) left;
  }

  pub fits_fresh : (is_fresh : R → Type 0) → FitsWhereFresh is_fresh fits → FitsWhereFresh (λ (w : Watched S R). is_fresh w.inner) (watched_fit fits)
  fits_fresh is_fresh law w fresh n = law w.inner fresh n

  pub keeps_fit : KeepsFit act fits → KeepsFit (watched_act from act) (watched_fit fits)
  unfolding lifted start_of
  keeps_fit law = closed.keeps_fit (watched_fit fits) lifted start_of (λ e w b fit below. law e w.inner b fit below)

  pub passes_fit : PassesFit fits → PassesFit (watched_fit {S = S} fits)
  passes_fit law w p n fit below = law w.inner p n fit below

  pub pays : Pays act fits → Pays (watched_act from act) (watched_fit fits)
  unfolding lifted start_of
  pays law = closed.pays (watched_fit fits) lifted start_of (λ e w b fit. law e w.inner b fit)

  pub bounded : Bounded act fits → Bounded (watched_act from act) (watched_fit fits)
  unfolding lifted start_of
  bounded law = closed.bounded (watched_fit fits) lifted start_of (λ e w b fit. law e w.inner b fit)

  pub lengthens : Lengthens act fits → Lengthens (watched_act from act) (watched_fit fits)
  unfolding lifted start_of
  lengthens law = closed.lengthens (watched_fit fits) lifted start_of (λ e w b fit. law e w.inner b fit)

  pub makes_no_positions : MakesNoPositions act fits → MakesNoPositions (watched_act from act) (watched_fit fits)
  unfolding lifted start_of
  makes_no_positions law = closed.makes_no_positions (watched_fit fits) lifted start_of (λ e w b fit none. law e w.inner b fit none)

  pub keeps_settings : KeepsSettings act fits → KeepsSettings (watched_act from act) (watched_fit fits)
  unfolding lifted start_of
  keeps_settings law =
      closed.keeps_settings (watched_fit fits) lifted start_of
      (λ e w b fit. let kept = law e w.inner b fit in record { direction = kept.direction; cluster_level = kept.cluster_level; flags = kept.flags; scratch_flags = kept.scratch_flags; max_len = kept.max_len; successful = kept.successful })

  pub keeps_count : {keeps : Bool} → KeepsLengthWhere act fits keeps → KeepsLengthWhere (watched_act from act) (watched_fit fits) keeps
  unfolding lifted start_of
  keeps_count law = closed.keeps_count (watched_fit fits) lifted start_of (λ is e w b fit. law is e w.inner b fit)

  pub keeps_place : {in_place : Bool} → KeepsPlaceWhere act fits in_place → KeepsPlaceWhere (watched_act from act) (watched_fit fits) in_place
  unfolding lifted start_of
  keeps_place law =
      closed.keeps_place (watched_fit fits) lifted start_of
      (λ is. let place = law is in record { length = λ e w b fit. place.length e w.inner b fit; cursor = λ e w b fit. place.cursor e w.inner b fit; positions = λ e w b fit. place.positions e w.inner b fit })

  pub keeps_order : KeepsClusterOrder act fits → KeepsClusterOrder (watched_act from act) (watched_fit fits)
  unfolding lifted start_of
  keeps_order law =
      closed.keeps_order (watched_fit fits) lifted start_of
      (record { rising = λ e w b fit level ordered. law.rising e w.inner b fit level ordered; falling = λ e w b fit level ordered. law.falling e w.inner b fit level ordered; clusters = λ e w b fit. law.clusters e w.inner b fit })
