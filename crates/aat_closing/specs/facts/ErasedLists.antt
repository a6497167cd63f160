-- What closing runs one after another leave, but for the flags of the glyphs: what the runs leave.
use Rattle.std.proofs.Common.{◌≡◌, ◌∙◌, ℕ, ◌+◌, Bool, true, false, cond, List, [], ◌∷◌, reverse, ap, sym, arith}
use Rattle.std.specs.Prelude.{fold}
use Rattle.aat_buffer.specs.Buffer.{Buffer, reversed}
use Rattle.aat_machine_tables.specs.declared.morx.Coverage.{Coverage}
use Rattle.aat_machine_tables.specs.declared.morx.SubtableKind.{SubtableKind}
use Rattle.aat_run.specs.Outcome.{Outcome, in_order, then_run, untouched}
use Rattle.aat_kinds.specs.Kinds.{Sizes, is_reversed, kind_run, ordered_run, reversed_run}
use Rattle.aat_closing.specs.ClosingRuns.{Told, closing_ordered, closing_run, may_split, told_in_order, turned}
use Rattle.aat_closing.specs.Unflagged.{IsBlindTold, ListsFlagAlone, SameButFlags, ToldAlike}
use Rattle.aat_closing.specs.facts.BlindLines.{bare_reverse}
use Rattle.aat_closing.specs.facts.ErasedClosing.{closing_runs_alike}

-- lists
module _ {X : Type 0} (run : X → Buffer → Told) (other : X → Buffer → Outcome) (blind : (x : X) → IsBlindTold (run x) (other x)) where
  alike_behind : (xs : List X) (a : Buffer) (o : Outcome) → SameButFlags a o.buffer
      → SameButFlags (told_in_order run xs a).buffer (fold (λ (n : Outcome) x. then_run n (other x)) o xs).buffer
      × (o.turns + (told_in_order run xs a).turns ≡ (fold (λ (n : Outcome) x. then_run n (other x)) o xs).turns)
  unfolding told_in_order
  alike_behind [] a o same = (same, omega arith)
  alike_behind (x ∷ xs) a o same =
      let here = blind x a o.buffer same in
      let rest = alike_behind xs (run x a).buffer (then_run o (other x)) here.buffer in
      (rest.0, let first = here.turns in let later = rest.1 in omega (arith, first, later))

  pub in_order_alike : (xs : List X) → IsBlindTold (told_in_order run xs) (in_order other xs)
  in_order_alike xs a b same = let left = alike_behind xs a (untouched b) same in record { buffer = left.0; turns = let turns = left.1 in omega (arith, turns) }

-- lines that are turned round
same_reversed : (a b : Buffer) → SameButFlags a b → SameButFlags (reversed a) (reversed b)
same_reversed a b same = record {
  line = bare_reverse a.line ∙ (ap reverse same.line ∙ sym (bare_reverse b.line));
  rest = ap reversed same.rest;
}

turned_alike : (splits : Bool) (run : Buffer → Told) (other : Buffer → Outcome) → IsBlindTold run other → IsBlindTold (turned splits run) (reversed_run other)
turned_alike splits run other blind a b same =
    let left = blind (reversed a) (reversed b) (same_reversed a b same) in
    record { buffer = same_reversed (run (reversed a)).buffer (other (reversed b)).buffer left.buffer; turns = left.turns }

-- the order of a coverage
pub ordered_alike : (z : Sizes) (on : ℕ → Bool) (coverage : Coverage) (kind : SubtableKind) → IsBlindTold (closing_ordered z on coverage kind) (ordered_run coverage (kind_run z on kind))
ordered_alike z on coverage kind a b same =
    by_order (is_reversed coverage a.direction) (is_reversed coverage b.direction) (ap (λ (d : Buffer). is_reversed coverage d.direction) same.rest)
  where
    by_order : (t u : Bool) → t ≡ u → ToldAlike (cond t (turned (may_split kind) (closing_run z on kind) a) (closing_run z on kind a)) (cond u (reversed_run (kind_run z on kind) b) (kind_run z on kind b))
    by_order true true e = turned_alike (may_split kind) (closing_run z on kind) (kind_run z on kind) (closing_runs_alike z on kind) a b same
    by_order false false e = closing_runs_alike z on kind a b same
    by_order true false e = absurd (cc)
    by_order false true e = absurd (cc)

pub lists_alike : ListsFlagAlone
lists_alike z subtables =
    in_order_alike (λ (s : (ℕ → Bool) × Coverage × SubtableKind). closing_ordered z s.0 s.1 s.2) (λ s. ordered_run s.1 (kind_run z s.0 s.2))
    (λ s. ordered_alike z s.0 s.1 s.2) subtables
