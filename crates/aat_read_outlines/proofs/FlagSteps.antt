-- Flags that a loop reads, one after the other.
use Rattle.std.proofs.Common.{◌≡◌, ◌∙◌, ap, refl, sym, ℕ, suc, ◌+◌, ◌-◌, ◌<◌, List, [], ◌∷◌, ◌++◌, Option, Some, None, append_assoc, arith}
use Rattle.std.specs.Prelude.{option_and_then, option_map}
use Rattle.std.proofs.lemmas.List.{append-nil}
use Rattle.aat_read_outlines.specs.Flags.{FlagList, behind, flags_from, next_run}
use Rattle.aat_read_outlines.specs.declared.flags.FlagRun.{FlagRun}

-- flags in front of others
abbrev pub in_front : List ℕ → FlagList → FlagList
in_front flags list = record list { flags = flags ++ list.flags }

pub none_in_front : (o : Option FlagList) → option_map (in_front []) o ≡ o
none_in_front None = refl
none_in_front (Some list) = refl

one_in_front :
    (flags : List ℕ) (flag : ℕ) (o : Option FlagList)
    → option_map (in_front flags) (option_map (behind flag) o) ≡ option_map (in_front (flags ++ flag ∷ [])) o
one_in_front flags flag None = refl
one_in_front flags flag (Some list) =
    ap (λ (all : List ℕ). Some (record list { flags = all })) (sym (append_assoc flags (flag ∷ []) list.flags))

-- the flags that a loop still has to read behind those it has, of so many
abbrev pub still : List ℕ → List ℕ → FlagRun → ℕ → Option FlagList
still bytes flags run count = option_map (in_front flags) (flags_from bytes run count)

-- none of them
pub still_none :
    (bytes flags : List ℕ) (run : FlagRun) → still bytes flags run 0 ≡ Some (record { flags = flags; place = run.place })
still_none bytes flags run = ap (λ (all : List ℕ). Some (record { flags = all; place = run.place })) (append-nil flags)

module _ (bytes flags : List ℕ) (run : FlagRun) (count i : ℕ) (below : i < count) (o : Option FlagRun)
    (is : o ≡ next_run bytes run) where
  -- what is left, of which one is next
  left : still bytes flags run (count - i)
      ≡ option_map (in_front flags)
      (option_and_then (λ next. option_map (behind next.flag) (flags_from bytes next (count - (i + 1)))) o)
  left =
      let more : count - i ≡ suc (count - (i + 1)) = omega arith in
      ap (still bytes flags run) more
      ∙ ap (λ (p : Option FlagRun). option_map (in_front flags) (option_and_then (λ next. option_map (behind next.flag) (flags_from bytes next (count - (i + 1)))) p)) (sym is)

  -- one more, if there is one
  pub still_pushed :
      (next : FlagRun) (new : List ℕ) (all : Option FlagList)
      → o ≡ Some next
      → new ≡ flags ++ next.flag ∷ []
      → still bytes flags run (count - i) ≡ all
      → still bytes new next (count - (i + 1)) ≡ all
  still_pushed next new all there pushed was =
      ap (λ (fs : List ℕ). still bytes fs next (count - (i + 1))) pushed
      ∙ sym (one_in_front flags next.flag (flags_from bytes next (count - (i + 1))))
      ∙ sym (ap (λ (p : Option FlagRun). option_map (in_front flags) (option_and_then (λ r. option_map (behind r.flag) (flags_from bytes r (count - (i + 1)))) p)) there)
      ∙ sym left
      ∙ was

  pub still_missing : (all : Option FlagList) → o ≡ None → still bytes flags run (count - i) ≡ all → None ≡ all
  still_missing all missing was =
      sym (ap (λ (p : Option FlagRun). option_map (in_front flags) (option_and_then (λ r. option_map (behind r.flag) (flags_from bytes r (count - (i + 1)))) p)) missing)
      ∙ sym left
      ∙ was
