-- What a run of a lawful context leaves of the clusters.
use Rattle.std.proofs.Common.{◌≡◌, ℕ, ◌+◌, ◌-◌, ◌≤◌, Bool, true, false, length, Some, refl, ap, sym, ◌∙◌, arith}
use Rattle.aat_buffer.specs.Buffer.{Buffer}
use Rattle.aat_buffer.specs.Marks.{clusters_stay_apart}
use Rattle.aat_buffer.specs.facts.Order.{Kept, kept_refl, kept_same, kept_unsafe, comes_trans}
use Rattle.aat_machine_tables.specs.Table.{TableValue}
use Rattle.aat_machine_tables.specs.declared.state_table.GenericStateEntry.{GenericStateEntry}
use Rattle.aat_run.specs.Context.{Context, Config, Machine, machine_of, start}
use Rattle.aat_run.specs.Driven.{machine_run, outcome_of}
use Rattle.aat_run.specs.Laws.{KeepsFit, PassesFit, Pays, KeepsSettings, KeepsClusterOrder, HasOrderOf}
use Rattle.aat_run.specs.Machine.{run_to_end}
use Rattle.aat_run.specs.facts.MachineRuns.{buffer_kept}

module _ {T Q : Type 0} (on : ℕ → Bool) (table : TableValue (GenericStateEntry T)) (x : Context Q (GenericStateEntry T)) (fits : Q → ℕ → ℕ → Type 0)
    (keeps : KeepsFit x.act fits) (passes : PassesFit fits) (pays : Pays x.act fits) (b : Buffer) (fit : fits x.fresh 0 (length b.line))
  where
    module _ (R : ℕ → ℕ → Type 0) (same : (x y : ℕ) → x ≡ y → R x y)
        (each : (e : GenericStateEntry T) (s : Q) (d : Buffer) → fits s d.cursor (length d.line) → Kept R same d (x.act e s d).buffer)
      where
        kept_trans : (a d e : Buffer) → Kept R same a d → Kept R same d e → Kept R same a e
        kept_trans a d e f g = record {
          level = g.level ∙ f.level;
          from = comes_trans a.line d.line e.line f.from g.from;
          ordered = λ level ordered. g.ordered (λ two. level (ap clusters_stay_apart (sym f.level) ∙ two)) (f.ordered level ordered);
        }

        -- what acts keep of the clusters, a run keeps
        pub run_keeps_clusters : Kept R same b (machine_run on table x b).buffer
        unfolding machine_run
        run_keeps_clusters = by_place x.in_place
          where
            m : Machine Q (GenericStateEntry T)
            m = machine_of on table x

            from_here : (c : Config Q) → fits c.registers c.buffer.cursor (length c.buffer.line) → Kept R same b c.buffer → Kept R same b (outcome_of (run_to_end m c)).buffer
            from_here c stands begun =
                kept_same R same b (run_to_end m c).buffer _ refl refl (λ n low. refl)
                (buffer_kept m fits keeps passes pays (Kept R same b)
                (λ d k. kept_unsafe R same b d (Some (d.cursor - 1)) (Some (d.cursor + 1)) k)
                (λ e s d fit k. kept_trans b d (x.act e s d).buffer k (each e s d fit))
                (λ d k. kept_same R same b d _ refl refl (λ n low. refl) k)
                (λ d k. kept_same R same b d _ refl refl (λ n low. refl) k) c stands begun)

            by_place : (p : Bool) → Kept R same b (outcome_of (run_to_end m (start p b x.fresh))).buffer
            by_place true = from_here (start true b x.fresh) fit (kept_same R same b b _ refl refl (λ n low. refl) (kept_refl R same b))
            by_place false = from_here (start false b x.fresh) fit (kept_same R same b b _ refl refl (λ n low. refl) (kept_refl R same b))

    -- clusters in an order along the line stay in it, and come from it
    pub run_keeps_order : KeepsSettings x.act fits → KeepsClusterOrder x.act fits → HasOrderOf b (machine_run on table x b).buffer
    run_keeps_order settings order =
        let rises = run_keeps_clusters (λ n k. n ≤ k) (λ n k e. omega (arith, e))
        (λ e s d fits_here. record {
          level = (settings e s d fits_here).cluster_level;
          from = order.clusters e s d fits_here;
          ordered = λ level ordered. order.rising e s d fits_here level ordered;
        }) in
        let falls = run_keeps_clusters (λ n k. k ≤ n) (λ n k e. omega (arith, e))
        (λ e s d fits_here. record {
          level = (settings e s d fits_here).cluster_level;
          from = order.clusters e s d fits_here;
          ordered = λ level ordered. order.falling e s d fits_here level ordered;
        }) in
        record { rising = rises.ordered; falling = falls.ordered; clusters = rises.from }
