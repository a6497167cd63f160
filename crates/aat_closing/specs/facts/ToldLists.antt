-- Runs that are steady leave the parts of a line of text one after another, and the same with other limits.
use Rattle.std.proofs.Common.{◌≡◌, ◌∙◌, ℕ, ◌+◌, ◌<◌, ◌≤◌, ◌&&◌, Bool, true, List, [], ◌∷◌, ◌++◌, length, take, drop, None, refl, ap, sym, arith, length-append, length-drop, length-take}
use Rattle.std.proofs.lemmas.Bool.{and_parts}
use Rattle.std.proofs.lemmas.List.Elements.{All-head, All-tail}
use Rattle.std.proofs.lemmas.List.{drop_at, take-append-drop, take_at}
use Rattle.std.specs.Prelude.{All}
use Rattle.aat_buffer.specs.Buffer.{Buffer, with_max_ops}
use Rattle.aat_buffer.specs.Clusters.{ClustersMerge, ComesFrom, IsRisingLine}
use Rattle.aat_buffer.specs.Marks.{clusters_stay_apart}
use Rattle.aat_glyph.specs.declared.glyph.hb_glyph_info_t.{hb_glyph_info_t}
use Rattle.aat_run.specs.Budget.{operations_left}
use Rattle.aat_cut_kinds.specs.Open.{is_open}
use Rattle.aat_cut_kinds.specs.Parts.{back_part, front_part}
use Rattle.aat_cut_kinds.specs.facts.CutSides.{all_from}
use Rattle.aat_closing.specs.ClosingRuns.{Told, told_in_order}
use Rattle.aat_closing.specs.facts.Limited.{LeavesAlike, LimitedTold, with_limits}
use Rattle.aat_closing.specs.facts.Steady.{IsSteady}
use Rattle.aat_closing.specs.ToldParts.{HasBetween, IsRise, PartsOfText, TellsOpen, ToldInParts}

-- a line of text, and the parts of it in buffers that are else the same, with no smaller budgets
record IsSplit (c : ℕ) (whole front back : Buffer) : Type 0 where
  line : whole.line ≡ front.line ++ back.line
  front_rest : front ≡ record whole { line = front.line; max_ops = front.max_ops }
  back_rest : back ≡ record whole { line = back.line; max_ops = back.max_ops }
  front_budget : operations_left whole.max_ops ≤ operations_left front.max_ops
  back_budget : operations_left whole.max_ops ≤ operations_left back.max_ops
  some_front : 0 < length front.line
  some_back : 0 < length back.line
  before : All (λ (g : hb_glyph_info_t). g.cluster < c) front.line
  behind : All (λ (g : hb_glyph_info_t). c ≤ g.cluster) back.line
  ordered : IsRisingLine whole.line
  merges : ClustersMerge whole.cluster_level
  cursor : whole.cursor ≡ 0
  positions : whole.positions ≡ None

module _ (low c : ℕ) (run : Buffer → Told) (steady : IsSteady low c run) (w f g : Buffer) (split : IsSplit c w f g) (between : HasBetween low c (run w).buffer.line) (tells : TellsOpen c (run w)) where
  q : ℕ
  q = length f.line

  is_front : take q w.line ≡ f.line
  unfolding q
  is_front = ap (take (length f.line)) split.line ∙ take_at f.line g.line (length f.line) refl

  is_back : drop q w.line ≡ g.line
  unfolding q
  is_back = ap (drop (length f.line)) split.line ∙ drop_at f.line g.line (length f.line) refl

  rise : IsRise c q w
  unfolding q
  rise = record {
    behind_first = split.some_front;
    before_end = (let some = split.some_back in omega (arith, some, ap length split.line, length-append f.line g.line));
    before = rw is_front split.before;
    behind = rw is_back split.behind;
    ordered = split.ordered;
    merges = split.merges;
  }

  -- the parts, with the budget of the whole
  parts : ToldInParts (run w) (run (front_part q w)) (run (back_part q w))
  parts = steady.parts q w rise between tells

  front_is : f ≡ with_max_ops (front_part q w) f.max_ops
  front_is = split.front_rest ∙ ap (λ (line : List hb_glyph_info_t). record w { line = line; max_ops = f.max_ops }) (sym is_front)

  back_is : g ≡ with_max_ops (back_part q w) g.max_ops
  back_is = split.back_rest ∙ ap (λ (line : List hb_glyph_info_t). record w { line = line; max_ops = g.max_ops }) (sym is_back)

  -- what a part with its own budget leaves
  record Left (part : Buffer) (d : Buffer) : Type 0 where
    line : (run d).buffer.line ≡ (run part).buffer.line
    told : (run d).is_told ≡ (run part).is_told
    budget : operations_left (run part).buffer.max_ops ≤ operations_left (run d).buffer.max_ops

  left_of : (part d : Buffer) → d ≡ with_max_ops part d.max_ops → operations_left part.max_ops ≤ operations_left d.max_ops → 0 < operations_left (run part).buffer.max_ops → Left part d
  left_of part d is more some =
      let it = steady.limited part d.max_ops part.max_len some (omega (arith, more, some)) in
      let same = ap run is in
      record {
        line = ap (λ (o : Told). o.buffer.line) same ∙ it.0;
        told = ap (λ (o : Told). o.is_told) same ∙ it.1;
        budget = (let budget = it.2 in let ops = ap (λ (o : Told). operations_left o.buffer.max_ops) same in omega (arith, more, budget, ops));
      }

  left_front : Left (front_part q w) f
  left_front = left_of (front_part q w) f front_is split.front_budget (let some = tells.budget in let less = parts.parts.front_budget in omega (arith, some, less))

  left_back : Left (back_part q w) g
  left_back = left_of (back_part q w) g back_is split.back_budget (let some = tells.budget in let less = parts.parts.back_budget in omega (arith, some, less))

  -- of one part: its buffer behind the run is that of the whole but for line and budget
  rest_of : (d : Buffer) → d ≡ record w { line = d.line; max_ops = d.max_ops } → (run d).buffer ≡ record (run w).buffer { line = (run d).buffer.line; max_ops = (run d).buffer.max_ops }
  rest_of d is =
      let a = steady.settings d in
      let b = steady.settings w in
      let at_front : d.cursor ≡ 0 = ap (λ (x : Buffer). x.cursor) is ∙ split.cursor in
      let none : d.positions ≡ None = ap (λ (x : Buffer). x.positions) is ∙ split.positions in
      let cursor : (run d).buffer.cursor ≡ (run w).buffer.cursor = steady.cursor d at_front ∙ sym (steady.cursor w split.cursor) in
      let positions : (run d).buffer.positions ≡ (run w).buffer.positions = steady.positions d none ∙ sym (steady.positions w split.positions) in
      let direction : (run d).buffer.direction ≡ (run w).buffer.direction = a.direction ∙ (ap (λ (x : Buffer). x.direction) is ∙ sym b.direction) in
      let cluster_level : (run d).buffer.cluster_level ≡ (run w).buffer.cluster_level = a.cluster_level ∙ (ap (λ (x : Buffer). x.cluster_level) is ∙ sym b.cluster_level) in
      let flags : (run d).buffer.flags ≡ (run w).buffer.flags = a.flags ∙ (ap (λ (x : Buffer). x.flags) is ∙ sym b.flags) in
      let scratch_flags : (run d).buffer.scratch_flags ≡ (run w).buffer.scratch_flags = a.scratch_flags ∙ (ap (λ (x : Buffer). x.scratch_flags) is ∙ sym b.scratch_flags) in
      let max_len : (run d).buffer.max_len ≡ (run w).buffer.max_len = a.max_len ∙ (ap (λ (x : Buffer). x.max_len) is ∙ sym b.max_len) in
      let successful : (run d).buffer.successful ≡ (run w).buffer.successful = a.successful ∙ (ap (λ (x : Buffer). x.successful) is ∙ sym b.successful) in
      λ i. record {
        line = (run d).buffer.line;
        cursor = cursor i;
        positions = positions i;
        direction = direction i;
        cluster_level = cluster_level i;
        flags = flags i;
        scratch_flags = scratch_flags i;
        max_ops = (run d).buffer.max_ops;
        max_len = max_len i;
        successful = successful i;
      }

  -- the split behind the run, where both parts tell what is open
  next : IsSplit c (run w).buffer (run f).buffer (run g).buffer × ((run f).is_told ≡ true) × ((run g).is_told ≡ true)
  next =
      let fl = left_front in
      let gl = left_back in
      let front_less = parts.parts.front_budget in
      let back_less = parts.parts.back_budget in
      let front_more = fl.budget in
      let back_more = gl.budget in
      let longer_front = steady.longer f in
      let longer_back = steady.longer g in
      let some_front = split.some_front in
      let some_back = split.some_back in
      let level = (steady.settings w).cluster_level in (
        record {
          line = parts.parts.line ∙ (ap (λ (line : List hb_glyph_info_t). line ++ (run (back_part q w)).buffer.line) (sym fl.line) ∙ ap (λ (line : List hb_glyph_info_t). (run f).buffer.line ++ line) (sym gl.line));
          front_rest = rest_of f split.front_rest;
          back_rest = rest_of g split.back_rest;
          front_budget = omega (arith, front_less, front_more);
          back_budget = omega (arith, back_less, back_more);
          some_front = omega (arith, some_front, longer_front);
          some_back = omega (arith, some_back, longer_back);
          before = all_from (λ n. n < c) f.line (run f).buffer.line (steady.order f).clusters split.before;
          behind = all_from (λ n. c ≤ n) g.line (run g).buffer.line (steady.order g).clusters split.behind;
          ordered = (steady.order w).rising split.merges split.ordered;
          merges = λ two. split.merges (ap clusters_stay_apart (sym level) ∙ two);
          cursor = steady.cursor w split.cursor;
          positions = steady.positions w split.positions;
        },
        fl.told ∙ parts.front_told,
        gl.told ∙ parts.back_told,
      )

-- a glyph that is between two clusters was on the old line too
pub between_came : (low c : ℕ) (old new : List hb_glyph_info_t) → ComesFrom old new → HasBetween low c new → HasBetween low c old
between_came low c old new from it =
    let source = from it.0 it.1 in
    let high = it.2 in
    let below = it.3 in
    let same = source.2 in
    (source.0, source.1, omega (arith, high, same), omega (arith, below, same))

-- what runs one after another add to no budget, open no cluster, and leave parts
module _ {X : Type 0} (run : X → Buffer → Told) (low c : ℕ) where
  abbrev AllSteady : List X → Type 0
  AllSteady xs = All (λ x. IsSteady low c (run x)) xs

  first : (x : X) (xs : List X) → AllSteady (x ∷ xs) → IsSteady low c (run x)
  first x xs all = All-head (λ y. IsSteady low c (run y)) x xs all

  rest : (x : X) (xs : List X) → AllSteady (x ∷ xs) → AllSteady xs
  rest x xs all = All-tail (λ y. IsSteady low c (run y)) x xs all

  lower : (xs : List X) → AllSteady xs → (b : Buffer) → operations_left (told_in_order run xs b).buffer.max_ops ≤ operations_left b.max_ops
  unfolding told_in_order
  lower [] all b = omega arith
  lower (x ∷ xs) all b = let here = (first x xs all).budget b in let later = lower xs (rest x xs all) (run x b).buffer in omega (arith, here, later)

  -- The runs one after another leave the same with another budget that they do not use up, and any greatest length.
  pub limited_in_order : (xs : List X) → AllSteady xs → LimitedTold (told_in_order run xs)
  unfolding told_in_order
  limited_in_order [] all b y n some fewer = (refl, refl, omega arith, refl, refl)
  limited_in_order (x ∷ xs) all b y n some fewer =
      let less = lower xs (rest x xs all) (run x b).buffer in
      let here : LeavesAlike b y n (run x b) (run x (with_limits y n b)) = (first x xs all).limited b y n (omega (arith, some, less)) (omega (arith, fewer, less)) in
      let taken = here.2 in
      let made : Buffer = (run x (with_limits y n b)).buffer in
      let old : Told = told_in_order run xs (run x b).buffer in
      let new : Told = told_in_order run xs (with_limits made.max_ops n (run x b).buffer) in
      let later : LeavesAlike (run x b).buffer made.max_ops n old new = limited_in_order xs (rest x xs all) (run x b).buffer made.max_ops n some (omega (arith, fewer, taken)) in
      let behind = later.2 in
      let same : told_in_order run xs made ≡ new = ap (told_in_order run xs) here.3 in
      let left : operations_left (told_in_order run xs made).buffer.max_ops ≡ operations_left new.buffer.max_ops = ap (λ (o : Told). operations_left o.buffer.max_ops) same in (
        ap (λ (o : Told). o.buffer.line) same ∙ later.0,
        ap (λ (t : Bool). t && (told_in_order run xs made).is_told) here.1 ∙ ap (λ (t : Bool). (run x b).is_told && t) (ap (λ (o : Told). o.is_told) same ∙ later.1),
        omega (arith, taken, behind, left),
        ap (λ (o : Told). o.buffer) same ∙ (later.3 ∙ ap (λ (o : Told). with_limits o.buffer.max_ops n old.buffer) (sym same)),
        ap (λ (t : ℕ). t + (told_in_order run xs made).turns) here.4 ∙ ap (λ (t : ℕ). (run x b).turns + t) (ap (λ (o : Told). o.turns) same ∙ later.4),
      )

  opens : (xs : List X) → AllSteady xs → (b : Buffer) → IsRisingLine b.line → ClustersMerge b.cluster_level → (told_in_order run xs b).is_told ≡ true → is_open c (told_in_order run xs b).buffer.line ≡ true → is_open c b.line ≡ true
  unfolding told_in_order
  opens [] all b ordered merges told is = is
  opens (x ∷ xs) all b ordered merges told is =
      let steady = first x xs all in
      let level = (steady.settings b).cluster_level in
      let flags = and_parts (run x b).is_told (told_in_order run xs (run x b).buffer).is_told told in
      steady.opens c b ordered merges flags.0 (opens xs (rest x xs all) (run x b).buffer ((steady.order b).rising merges ordered) (λ two. merges (ap clusters_stay_apart (sym level) ∙ two)) flags.1 is)

  between : (xs : List X) → AllSteady xs → (b : Buffer) → HasBetween low c (told_in_order run xs b).buffer.line → HasBetween low c b.line
  unfolding told_in_order
  between [] all b it = it
  between (x ∷ xs) all b it = between_came low c b.line (run x b).buffer.line ((first x xs all).order b).clusters (between xs (rest x xs all) (run x b).buffer it)

  in_parts : (xs : List X) → AllSteady xs → (w f g : Buffer) → IsSplit c w f g → TellsOpen c (told_in_order run xs w) → HasBetween low c (told_in_order run xs w).buffer.line
      → ToldInParts (told_in_order run xs w) (told_in_order run xs f) (told_in_order run xs g)
  unfolding told_in_order
  in_parts [] all w f g split tells has = record {
    parts = record { line = split.line; front_budget = split.front_budget; back_budget = split.back_budget };
    front_told = refl;
    back_told = refl;
  }
  in_parts (x ∷ xs) all w f g split tells has =
      let steady = first x xs all in
      let flags = and_parts (run x w).is_told (told_in_order run xs (run x w).buffer).is_told tells.told in
      let level = (steady.settings w).cluster_level in
      let some = tells.budget in
      let less = lower xs (rest x xs all) (run x w).buffer in
      let here : TellsOpen c (run x w) = record {
        told = flags.0;
        opens = opens xs (rest x xs all) (run x w).buffer ((steady.order w).rising split.merges split.ordered) (λ two. split.merges (ap clusters_stay_apart (sym level) ∙ two)) flags.1 tells.opens;
        budget = omega (arith, some, less);
      } in
      let behind = next low c (run x) steady w f g split (between xs (rest x xs all) (run x w).buffer has) here in
      let later = in_parts xs (rest x xs all) (run x w).buffer (run x f).buffer (run x g).buffer behind.0 (record { told = flags.1; opens = tells.opens; budget = tells.budget }) has in
      record {
        parts = record { line = later.parts.line; front_budget = later.parts.front_budget; back_budget = later.parts.back_budget };
        front_told = rw behind.1 later.front_told;
        back_told = rw behind.2 later.back_told;
      }

  pub steady_leave_parts : (xs : List X) → AllSteady xs → PartsOfText low c (told_in_order run xs)
  steady_leave_parts xs all q b cursor none rise tells has =
      let within = rise.before_end in
      let some = rise.behind_first in
      in_parts xs all b (front_part q b) (back_part q b)
      (record {
        line = sym (take-append-drop q b.line);
        front_rest = refl;
        back_rest = refl;
        front_budget = omega arith;
        back_budget = omega arith;
        some_front = omega (arith, some, within, length-take q b.line);
        some_back = omega (arith, within, length-drop q b.line);
        before = rise.before;
        behind = rise.behind;
        ordered = rise.ordered;
        merges = rise.merges;
        cursor = cursor;
        positions = none;
      }) tells has
