-- What acts keep, the closing acts and their runs keep: the order of the clusters, the settings and the budget; and they
-- open no cluster of a line in order.
use Rattle.std.proofs.Common.{◌≡◌, ℕ, ◌+◌, ◌-◌, ◌≤◌, Bool, true, false, length, Option, Some, refl, arith}
use Rattle.aat_buffer.specs.Buffer.{Buffer, with_cursor, without_positions}
use Rattle.aat_buffer.specs.Clusters.{ClustersMerge, IsOrdered}
use Rattle.aat_buffer.specs.Marks.{unsafe_to_break}
use Rattle.aat_buffer.specs.facts.Order.{Kept, kept_refl, kept_unsafe}
use Rattle.aat_machine_tables.specs.Table.{TableValue}
use Rattle.aat_machine_tables.specs.declared.state_table.GenericStateEntry.{GenericStateEntry}
use Rattle.aat_run.specs.Budget.{operations_left, paid}
use Rattle.aat_run.specs.Context.{Config, Context, Machine, Moved, machine_of, start}
use Rattle.aat_run.specs.Driven.{machine_run, outcome_of}
use Rattle.aat_run.specs.Laws.{FitsFresh, KeepsClusterOrder, KeepsFit, KeepsSettings, PassesFit, Pays, SameSettings}
use Rattle.aat_run.specs.Machine.{break_marked_at, run_to_end}
use Rattle.aat_run.specs.facts.MachineRuns.{buffer_kept, paid_less}
use Rattle.aat_run.specs.facts.OrderedRuns.{run_keeps_order}
use Rattle.aat_run.specs.facts.Settings.{settings_stay, settings_then}
use Rattle.aat_cut_kinds.specs.facts.Opens.{unsafe_open}
use Rattle.aat_closing.specs.Closing.{closed_from, closing}
use Rattle.aat_closing.specs.ClosingRuns.{told_run}
use Rattle.aat_closing.specs.facts.ToldKeeps.{KeepsTold, OpensNone}
use Rattle.aat_closing.specs.facts.ClosedLaws as closed

module _ {R E : Type 0} (act : E → R → Buffer → Moved R) (fits : R → ℕ → ℕ → Type 0) where
  -- no act adds to the budget
  abbrev pub Spends : Type 0
  Spends = (e : E) (r : R) (b : Buffer) → fits r b.cursor (length b.line) → operations_left (act e r b).buffer.max_ops ≤ operations_left b.max_ops

  -- none opens a cluster of a line in this order
  abbrev pub OpensNoneAlong : (ℕ → ℕ → Type 0) → Type 0
  OpensNoneAlong Order = (e : E) (r : R) (b : Buffer) → fits r b.cursor (length b.line) → ClustersMerge b.cluster_level → IsOrdered Order b.line → OpensNone b (act e r b).buffer

  -- what a run asks of an act
  pub record IsKeeping (splits : Bool) : Type 0 where
    pub keeps_fit : KeepsFit act fits
    pub passes_fit : PassesFit fits
    pub pays : Pays act fits
    pub keeps_settings : KeepsSettings act fits
    pub keeps_order : KeepsClusterOrder act fits
    pub spends : Spends
    pub rising : OpensNoneAlong (λ x y. x ≤ y)
    pub falling : splits ≡ false → OpensNoneAlong (λ x y. y ≤ x)

  -- an order that an act keeps, of any sort
  pub order_kept : ((Order : ℕ → ℕ → Type 0) (same : (x y : ℕ) → x ≡ y → Order x y) (e : E) (r : R) (b : Buffer) → fits r b.cursor (length b.line) → Kept Order same b (act e r b).buffer) → KeepsClusterOrder act fits
  order_kept each = record {
    rising = λ e r b fit level ordered. (each (λ x y. x ≤ y) (λ x y same. omega (arith, same)) e r b fit).ordered level ordered;
    falling = λ e r b fit level ordered. (each (λ x y. y ≤ x) (λ x y same. omega (arith, same)) e r b fit).ordered level ordered;
    clusters = λ e r b fit. (each (λ x y. x ≤ y) (λ x y same. omega (arith, same)) e r b fit).from;
  }

-- marks keep an order
marked_in_order : (Order : ℕ → ℕ → Type 0) (same : (x y : ℕ) → x ≡ y → Order x y) (b : Buffer) (i j : Option ℕ) → ClustersMerge b.cluster_level → IsOrdered Order b.line → IsOrdered Order (unsafe_to_break b i j).line
marked_in_order Order same b i j level ordered = (kept_unsafe Order same b b i j (kept_refl Order same b)).ordered level ordered

-- an act over a line that is closed before it
module _ {R E : Type 0} (fits : R → ℕ → ℕ → Type 0) (act : E → R → Buffer → Moved R) (from : E → R → Buffer → ℕ) where
  fit_closed : (e : E) (r : R) (b : Buffer) → fits r b.cursor (length b.line) → fits r b.cursor (length (closed_from (from e r b) b).line)
  fit_closed e r b fit = rw (closed.length_closed (from e r b) b) fit

  opens_closed : (Order : ℕ → ℕ → Type 0) (same : (x y : ℕ) → x ≡ y → Order x y) → OpensNoneAlong act fits Order → OpensNoneAlong (closing from act) fits Order
  opens_closed Order same law e r b fit level ordered c is =
      let i : ℕ = from e r b in
      unsafe_open c b (Some i) (Some (b.cursor + 1))
      (law e r (closed_from i b) (fit_closed e r b fit) level (marked_in_order Order same b (Some i) (Some (b.cursor + 1)) level ordered) c is)

  pub keeping_closed : {splits : Bool} → IsKeeping act fits splits → IsKeeping (closing from act) fits splits
  keeping_closed law = record {
    keeps_fit = closed.keeps_fit fits act from law.keeps_fit;
    passes_fit = law.passes_fit;
    pays = closed.pays fits act from law.pays;
    keeps_settings = closed.keeps_settings fits act from law.keeps_settings;
    keeps_order = closed.keeps_order fits act from law.keeps_order;
    spends = λ e r b fit. law.spends e r (closed_from (from e r b) b) (fit_closed e r b fit);
    rising = opens_closed (λ x y. x ≤ y) (λ x y same. omega (arith, same)) law.rising;
    falling = λ whole. opens_closed (λ x y. y ≤ x) (λ x y same. omega (arith, same)) (law.falling whole);
  }

-- the run of a context whose act keeps all this
module _ {T Q : Type 0} (on : ℕ → Bool) (table : TableValue (GenericStateEntry T)) (x : Context Q (GenericStateEntry T)) (fits : Q → ℕ → ℕ → Type 0) (splits : Bool)
    (law : IsKeeping x.act fits splits) (fresh : FitsFresh fits x.fresh)
  where
    -- what holds of a buffer, wherever its cursor is and whatever its positions, holds behind the run where its parts keep it
    run_keeps : (P : Buffer → Type 0) → ((d : Buffer) → P d → P (break_marked_at d)) → ((e : GenericStateEntry T) (r : Q) (d : Buffer) → fits r d.cursor (length d.line) → P d → P (x.act e r d).buffer)
        → ((d : Buffer) (p : ℕ) → P d → P (with_cursor d p)) → ((d : Buffer) → P d → P (without_positions d)) → ((d : Buffer) → P d → P (paid 1 d)) → (b : Buffer) → P b → P (machine_run on table x b).buffer
    unfolding machine_run
    run_keeps P on_mark on_act on_cursor on_drop on_pay b begun = by_place x.in_place
      where
        m : Machine Q (GenericStateEntry T)
        m = machine_of on table x

        from_here : (c : Config Q) → fits c.registers c.buffer.cursor (length c.buffer.line) → P c.buffer → P (outcome_of (run_to_end m c)).buffer
        from_here c stands p =
            on_cursor (run_to_end m c).buffer 0
            (buffer_kept m fits law.keeps_fit law.passes_fit law.pays P on_mark on_act (λ d k. on_cursor d (d.cursor + 1) k) on_pay c stands p)

        by_place : (t : Bool) → P (outcome_of (run_to_end m (start t b x.fresh))).buffer
        by_place true = from_here (start true b x.fresh) (fresh (length b.line)) (on_cursor b 0 begun)
        by_place false = from_here (start false b x.fresh) (fresh (length b.line)) (on_cursor (without_positions b) 0 (on_drop b begun))

    run_settings : (b : Buffer) → SameSettings b (machine_run on table x b).buffer
    run_settings b =
        run_keeps (SameSettings b)
        (λ d k. settings_then b d (break_marked_at d) k (record { direction = refl; cluster_level = refl; flags = refl; scratch_flags = refl; max_len = refl; successful = refl }))
        (λ e r d fit k. settings_then b d (x.act e r d).buffer k (law.keeps_settings e r d fit))
        (λ d p k. settings_then b d (with_cursor d p) k (record { direction = refl; cluster_level = refl; flags = refl; scratch_flags = refl; max_len = refl; successful = refl }))
        (λ d k. settings_then b d (without_positions d) k (record { direction = refl; cluster_level = refl; flags = refl; scratch_flags = refl; max_len = refl; successful = refl }))
        (λ d k. settings_then b d (paid 1 d) k (record { direction = refl; cluster_level = refl; flags = refl; scratch_flags = refl; max_len = refl; successful = refl }))
        b (settings_stay b)

    run_spends : (b : Buffer) → operations_left (machine_run on table x b).buffer.max_ops ≤ operations_left b.max_ops
    run_spends b =
        run_keeps (λ d. operations_left d.max_ops ≤ operations_left b.max_ops) (λ d k. k)
        (λ e r d fit k. let less = law.spends e r d fit in omega (arith, less, k)) (λ d p k. k) (λ d k. k)
        (λ d k. let less = paid_less 1 d.max_ops in omega (arith, less, k)) b (omega arith)

    -- a line in order at a level at which clusters merge, on which no cluster has opened
    record StaysClosed (Order : ℕ → ℕ → Type 0) (b d : Buffer) : Type 0 where
      level : ClustersMerge d.cluster_level
      ordered : IsOrdered Order d.line
      opens : OpensNone b d

    run_opens : (Order : ℕ → ℕ → Type 0) (same : (x y : ℕ) → x ≡ y → Order x y)
        → ((e : GenericStateEntry T) (r : Q) (d : Buffer) → fits r d.cursor (length d.line) → ClustersMerge d.cluster_level → IsOrdered Order d.line → IsOrdered Order (x.act e r d).buffer.line)
        → OpensNoneAlong x.act fits Order → (b : Buffer) → IsOrdered Order b.line → ClustersMerge b.cluster_level → OpensNone b (machine_run on table x b).buffer
    run_opens Order same orders opens b ordered level =
        (run_keeps (StaysClosed Order b)
        (λ d k. record {
          level = k.level;
          ordered = marked_in_order Order same d (Some (d.cursor - 1)) (Some (d.cursor + 1)) k.level k.ordered;
          opens = λ c is. k.opens c (unsafe_open c d (Some (d.cursor - 1)) (Some (d.cursor + 1)) is);
        })
        (λ e r d fit k. record {
          level = rw (law.keeps_settings e r d fit).cluster_level k.level;
          ordered = orders e r d fit k.level k.ordered;
          opens = λ c is. k.opens c (opens e r d fit k.level k.ordered c is);
        })
        (λ d p k. record { level = k.level; ordered = k.ordered; opens = k.opens })
        (λ d k. record { level = k.level; ordered = k.ordered; opens = k.opens })
        (λ d k. record { level = k.level; ordered = k.ordered; opens = k.opens })
        b (record { level = level; ordered = ordered; opens = λ c is. is })).opens

    pub told_keeps : KeepsTold splits (told_run on table x)
    unfolding told_run machine_run
    told_keeps = record {
      order = λ b. run_keeps_order on table x fits law.keeps_fit law.passes_fit law.pays b (fresh (length b.line)) law.keeps_settings law.keeps_order;
      settings = run_settings;
      cursor = λ b front. refl;
      budget = run_spends;
      rising = run_opens (λ x y. x ≤ y) (λ x y same. omega (arith, same)) (λ e r d fit level ordered. law.keeps_order.rising e r d fit level ordered) law.rising;
      falling = λ whole. run_opens (λ x y. y ≤ x) (λ x y same. omega (arith, same)) (λ e r d fit level ordered. law.keeps_order.falling e r d fit level ordered) (law.falling whole);
    }
