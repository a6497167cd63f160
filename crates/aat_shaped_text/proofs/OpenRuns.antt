-- Runs that kern a line and tell which of its places they leave open, one after another.
use Rattle.std.proofs.Common.{◌≡◌, ◌∙◌, sym, ap, refl, ℕ, ◌+◌, ◌-◌, ◌<◌, ◌≤◌, ◌&&◌, ◌||◌, not, Bool, true, false, cond, List, [], ◌∷◌, map, drop, length, get_or, subst, arith, pos, negsuc}
use Rattle.std.proofs.lemmas.List.{drop_all, drop_more, length-reverse}
use Rattle.std.specs.Prelude.{Option}
use Rattle.aat_buffer.specs.Buffer.{Buffer, reversed}
use Rattle.aat_cut_kinds.specs.KernedTables.{KernedSubtable, by_kerx_format, of_kern, of_kerx, runs_over, turned_where}
use Rattle.aat_cut_kinds.specs.KerningCuts.{KeepsParts, KernedRun, attaching, kerned_by_all}
use Rattle.aat_cut_kinds.specs.OpenPlaces.{KernsOpenly}
use Rattle.aat_cut_kinds.specs.facts.KernedTables.{kern_kept, kerx_kept}
use Rattle.aat_glyph.specs.Directions.{is_backward}
use Rattle.aat_glyph.specs.declared.glyph.Direction.{Direction}
use Rattle.aat_kerning.specs.Positioning.{cursively_attached, is_for_direction, is_turned_round, turned_round}
use Rattle.aat_kerning_tables.specs.AnchorPoints.{Points}
use Rattle.aat_kerning_tables.specs.declared.kern.KernSubtable.{KernSubtable}
use Rattle.aat_kerning_tables.specs.declared.kerx.KerxSubtable.{KerxSubtable}
use Rattle.aat_shaped_text.specs.inside.KernedRuns.{Kerns, is_attached_behind, runs_of}

-- a line turned round is as long
pub turned_count : (t : Bool) (b : Buffer) → length (turned_round t b).line ≡ length b.line
turned_count true b = length-reverse b.line
turned_count false b = refl

and_then : (a b c : Bool) → ((a && b) && c) ≡ (a && (b && c))
and_then true b c = refl
and_then false b c = refl

and_true : (a : Bool) → a ≡ (a && true)
and_true true = refl
and_true false = refl

and_alone : (a b : Bool) → (a && b) ≡ (a && (b && true))
and_alone a b = ap (λ t. a && t) (and_true b)

-- no run
pub kerns_none : (b : Buffer) (old : List Bool) → Kerns (kerned_by_all []) b old b old
kerns_none b old = record {
  left = refl;
  direction = refl;
  count = refl;
  long = refl;
  first = refl;
  opens = λ q more inside. and_true (get_or old q false);
}

-- one run, and then another
abbrev in_turn : KernedRun → KernedRun → KernedRun
in_turn r rest = record { left = λ b. rest.left (r.left b); opens = λ q b. r.opens q b && rest.opens q (r.left b) }

kerns_more :
    (r rest : KernedRun) (b c d : Buffer) (old mid new : List Bool) → Kerns r b old c mid → Kerns rest c mid d new → Kerns (in_turn r rest) b old d new
kerns_more r rest b c d old mid new one more = record {
  left = more.left ∙ ap rest.left one.left;
  direction = more.direction ∙ one.direction;
  count = more.count ∙ one.count;
  long = more.long ∙ one.long;
  first = more.first ∙ one.first;
  opens = λ q behind inside.
      more.opens q behind (omega (arith, inside, one.count))
      ∙ (ap (λ (t : Bool). t && rest.opens q c) (one.opens q behind inside)
      ∙ (and_then (get_or old q false) (r.opens q b) (rest.opens q c)
      ∙ ap (λ (x : Buffer). get_or old q false && (r.opens q b && rest.opens q x)) one.left));
}

-- what is known of a run, of another one that is like it over a line
kerns_as :
    (r s : KernedRun) (b c : Buffer) (old new : List Bool) → r.left b ≡ s.left b → ((q : ℕ) → r.opens q b ≡ s.opens q b)
    → Kerns r b old c new → Kerns s b old c new
kerns_as r s b c old new left opens known = record {
  left = known.left ∙ left;
  direction = known.direction;
  count = known.count;
  long = known.long;
  first = known.first;
  opens = λ q more inside. known.opens q more inside ∙ ap (λ (t : Bool). get_or old q false && t) (opens q);
}

-- The runs of a list are those of its first subtable, and then those of the rest.
module _ (requested : Bool) (d : Direction) (a : Bool) (s : KernedSubtable) (ss : List KernedSubtable) (b : Buffer) where
  abbrev attach : KernedRun
  attach = attaching 2 (cond (is_backward d) (pos 1) (negsuc 0))

  abbrev later : Bool → List KernedRun
  later t = runs_over requested d t ss

  abbrev behind : Bool
  behind = a || s.kerning.has_cross_stream

  first_left :
      (kerned_by_all (later (is_attached_behind d a s))).left ((kerned_by_all (runs_of requested d a s)).left b)
      ≡ (kerned_by_all (runs_over requested d a (s ∷ ss))).left b
  first_left = by (is_for_direction s.kerning d) (s.kerning.is_pairs && not requested) (s.kerning.has_cross_stream && not a)
    where
      by :
          (t p c : Bool)
          → (kerned_by_all (later (cond t behind a))).left ((kerned_by_all (cond t (cond c (attach ∷ cond p [] (s.run ∷ [])) (cond p [] (s.run ∷ []))) [])).left b)
          ≡ (kerned_by_all (cond t (cond c (attach ∷ cond p (later behind) (s.run ∷ later behind)) (cond p (later behind) (s.run ∷ later behind))) (later a))).left b
      by false p c = refl
      by true true true = refl
      by true true false = refl
      by true false true = refl
      by true false false = refl

  one_then : (r x : Bool) → ((r && true) && x) ≡ (r && x)
  one_then true x = refl
  one_then false x = refl

  first_opens :
      (q : ℕ)
      → ((kerned_by_all (runs_of requested d a s)).opens q b && (kerned_by_all (later (is_attached_behind d a s))).opens q ((kerned_by_all (runs_of requested d a s)).left b))
      ≡ (kerned_by_all (runs_over requested d a (s ∷ ss))).opens q b
  first_opens q = by (is_for_direction s.kerning d) (s.kerning.is_pairs && not requested) (s.kerning.has_cross_stream && not a)
    where
      by :
          (t p c : Bool)
          → ((kerned_by_all (cond t (cond c (attach ∷ cond p [] (s.run ∷ [])) (cond p [] (s.run ∷ []))) [])).opens q b
          && (kerned_by_all (later (cond t behind a))).opens q ((kerned_by_all (cond t (cond c (attach ∷ cond p [] (s.run ∷ [])) (cond p [] (s.run ∷ []))) [])).left b))
          ≡ (kerned_by_all (cond t (cond c (attach ∷ cond p (later behind) (s.run ∷ later behind)) (cond p (later behind) (s.run ∷ later behind))) (later a))).opens q b
      by false p c = refl
      by true true true = refl
      by true true false = refl
      by true false true = one_then (s.run.opens q (attach.left b)) ((kerned_by_all (later behind)).opens q (s.run.left (attach.left b)))
      by true false false = one_then (s.run.opens q b) ((kerned_by_all (later behind)).opens q (s.run.left b))

-- A list of subtables.
module _ {X : Type 0} (requested : Bool) (d : Direction) (f : X → KernedSubtable) (Goal : Buffer → List Bool → Type 0) (xs : List X) (i : ℕ) where
  -- what is known of the rest of a list, one subtable later
  pub kerns_rest :
      (x : X) (a noted : Bool) (b c : Buffer) (before mid : List Bool)
      → drop i xs ≡ x ∷ drop (i + 1) xs → noted ≡ is_attached_behind d a (f x)
      → ((e : Buffer) (new : List Bool) → Kerns (kerned_by_all (runs_over requested d a (map f (drop i xs)))) b before e new → Goal e new)
      → Kerns (kerned_by_all (runs_of requested d a (f x))) b before c mid
      → (e : Buffer) (new : List Bool) → Kerns (kerned_by_all (runs_over requested d noted (map f (drop (i + 1) xs)))) c mid e new → Goal e new
  kerns_rest x a noted b c before mid split noted_is known one e new later =
      let rest = map f (drop (i + 1) xs) in
      let first = kerned_by_all (runs_of requested d a (f x)) in
      let others = kerned_by_all (runs_over requested d (is_attached_behind d a (f x)) rest) in
      let more : Kerns others c mid e new =
      subst (λ (t : Bool). Kerns (kerned_by_all (runs_over requested d t rest)) c mid e new) noted_is later in
      known e new
      (subst (λ (ys : List X). Kerns (kerned_by_all (runs_over requested d a (map f ys))) b before e new) (sym split)
      (kerns_as (in_turn first others) (kerned_by_all (runs_over requested d a (f x ∷ rest))) b e before new
      (first_left requested d a (f x) rest b) (first_opens requested d a (f x) rest b)
      (kerns_more first others b c e before mid new one more)))

  -- and at the end of it
  pub kerns_end :
      (a : Bool) (b : Buffer) (before : List Bool) → length xs ≤ i
      → ((e : Buffer) (new : List Bool) → Kerns (kerned_by_all (runs_over requested d a (map f (drop i xs)))) b before e new → Goal e new) → Goal b before
  kerns_end a b before end known =
      known b before
      (subst (λ (ys : List X). Kerns (kerned_by_all (runs_over requested d a (map f ys))) b before b before) (sym (drop_all i xs end)) (kerns_none b before))

-- a list from a place on
pub split_at : {X : Type 0} (xs : List X) (i : ℕ) (x : X) → i < length xs → x ≡ get_or xs i x → drop i xs ≡ x ∷ drop (i + 1) xs
split_at xs i x low is = drop_more xs i x low ∙ ap (λ y. y ∷ drop (i + 1) xs) (sym is)

-- One subtable in its turn.
module _ (requested : Bool) (a : Bool) (s : KernedSubtable) (b : Buffer) (old : List Bool) where
  -- it is not for the text
  pub passed_over : is_for_direction s.kerning b.direction ≡ false → Kerns (kerned_by_all (runs_of requested b.direction a s)) b old b old
  passed_over away = rw away (kerns_none b old)

  pub unnoted : is_for_direction s.kerning b.direction ≡ false → a ≡ is_attached_behind b.direction a s
  unnoted away = rw away refl

  -- it is
  module _ (across noted : Bool) (c : Buffer) (for : is_for_direction s.kerning b.direction ≡ true)
      (crosses : across ≡ s.kerning.has_cross_stream) (attached : c ≡ cond (across && not a) (cursively_attached b) b) where
    pub noted_so : noted ≡ (a || across) → noted ≡ is_attached_behind b.direction a s
    noted_so is = rw for (is ∙ ap (λ (t : Bool). a || t) crosses)

    attached_is : c ≡ cond (s.kerning.has_cross_stream && not a) (cursively_attached b) b
    attached_is = attached ∙ ap (λ (t : Bool). cond (t && not a) (cursively_attached b) b) crosses

    abbrev attach_all : KernedRun
    attach_all = attaching 2 (cond (is_backward b.direction) (pos 1) (negsuc 0))

    -- but it is left out
    pub left_out : (s.kerning.is_pairs && not requested) ≡ true → Kerns (kerned_by_all (runs_of requested b.direction a s)) b old c old
    left_out out =
        rw for (rw out (subst (λ (x : Buffer). Kerns (kerned_by_all (cond (s.kerning.has_cross_stream && not a) (attach_all ∷ []) [])) b old x old) (sym attached_is)
        (by (s.kerning.has_cross_stream && not a))))
      where
        by : (t : Bool) → Kerns (kerned_by_all (cond t (attach_all ∷ []) [])) b old (cond t (cursively_attached b) b) old
        by false = kerns_none b old
        by true = record {
          left = refl;
          direction = refl;
          count = refl;
          long = refl;
          first = refl;
          opens = λ q more inside. and_true (get_or old q false);
        }

    -- and it runs
    pub taken :
        (e : Buffer) (new : List Bool) → (s.kerning.is_pairs && not requested) ≡ false → Kerns s.run c old e new
        → Kerns (kerned_by_all (runs_of requested b.direction a s)) b old e new
    taken e new stays kerns =
        rw for (rw stays (by (s.kerning.has_cross_stream && not a) (subst (λ (x : Buffer). Kerns s.run x old e new) attached_is kerns)))
      where
        by :
            (t : Bool) → Kerns s.run (cond t (cursively_attached b) b) old e new
            → Kerns (kerned_by_all (cond t (attach_all ∷ s.run ∷ []) (s.run ∷ []))) b old e new
        by false k = record {
          left = k.left;
          direction = k.direction;
          count = k.count;
          long = k.long;
          first = k.first;
          opens = λ q more inside. k.opens q more inside ∙ and_alone (get_or old q false) (s.run.opens q b);
        }
        by true k = record {
          left = k.left;
          direction = k.direction;
          count = k.count;
          long = k.long;
          first = k.first;
          opens = λ q more inside. k.opens q more inside ∙ and_alone (get_or old q false) (s.run.opens q (cursively_attached b));
        }

-- A run over the line, turned round where asked, closes the places that it does not leave open.
turned_kerns :
    (r : KernedRun) (t : Bool) (b c : Buffer) (old told new : List Bool)
    → KeepsParts 8 (turned_where t r) → KernsOpenly r (turned_round t b) c told → length old ≡ length b.line
    → length new ≡ length old → get_or new 0 false ≡ get_or old 0 false
    → ((q : ℕ) → 0 < q → q < length old → get_or new q false ≡ (get_or old q false && get_or told (cond t (length old - q) q) false))
    → Kerns (turned_where t r) b old (turned_round t c) new
turned_kerns r false b c old told new keeps kerns count long first closed = record {
  left = kerns.left;
  direction = ap (λ (x : Buffer). x.direction) kerns.left ∙ keeps.direction b;
  count = ap (λ (x : Buffer). length x.line) kerns.left ∙ keeps.long b;
  long = long;
  first = first;
  opens = λ q more inside.
      closed q more (omega (arith, inside, count)) ∙ ap (λ (x : Bool). get_or old q false && x) (kerns.opens q more inside);
}
turned_kerns r true b c old told new keeps kerns count long first closed =
    let turned_long : length (reversed b).line ≡ length b.line = turned_count true b in
    let left : reversed c ≡ reversed (r.left (reversed b)) = ap reversed kerns.left in
    record {
      left = left;
      direction = ap (λ (x : Buffer). x.direction) left ∙ keeps.direction b;
      count = ap (λ (x : Buffer). length x.line) left ∙ keeps.long b;
      long = long;
      first = first;
      opens = λ q more inside.
          closed q more (omega (arith, inside, count))
          ∙ (ap (λ (n : ℕ). get_or old q false && get_or told (n - q) false) count
          ∙ ap (λ (x : Bool). get_or old q false && x)
          (kerns.opens (length b.line - q) (omega (arith, inside)) (omega (arith, more, inside, turned_long))));
    }

pub kerx_kerns :
    (points : Option Points) (s : KerxSubtable) (t : Bool) (b turned kerned back : Buffer) (old told lent new : List Bool)
    → t ≡ is_turned_round s.is_last_to_first s.format → turned ≡ turned_round t b
    → KernsOpenly (by_kerx_format 8 points s.has_cross_stream s.tuple_count s.format) turned kerned told → back ≡ turned_round t kerned
    → lent ≡ told → length old ≡ length b.line → length new ≡ length old → get_or new 0 false ≡ get_or old 0 false
    → ((q : ℕ) → 0 < q → q < length old → get_or new q false ≡ (get_or old q false && get_or lent (cond t (length old - q) q) false))
    → Kerns (of_kerx 8 points s).run b old back new
kerx_kerns points s t b turned kerned back old told lent new turns turned_is kerns back_is lent_is count long first closed =
    let r = by_kerx_format 8 points s.has_cross_stream s.tuple_count s.format in
    let keeps : KeepsParts 8 (turned_where t r) = subst (λ (u : Bool). KeepsParts 8 (turned_where u r)) (sym turns) (kerx_kept 8 refl points s).keeps in
    subst (λ (u : Bool). Kerns (turned_where u r) b old back new) turns
    (subst (λ (x : Buffer). Kerns (turned_where t r) b old x new) (sym back_is)
    (turned_kerns r t b kerned old lent new keeps
    (subst (λ (told : List Bool). KernsOpenly r (turned_round t b) kerned told) (sym lent_is) (subst (λ (x : Buffer). KernsOpenly r x kerned told) turned_is kerns)) count long first closed))

pub kern_kerns :
    (s : KernSubtable) (b c : Buffer) (old told lent new : List Bool) → KernsOpenly (of_kern 8 s).run b c told
    → lent ≡ told → length old ≡ length b.line → length new ≡ length old → get_or new 0 false ≡ get_or old 0 false
    → ((q : ℕ) → 0 < q → q < length old → get_or new q false ≡ (get_or old q false && get_or lent q false))
    → Kerns (of_kern 8 s).run b old c new
kern_kerns s b c old told lent new kerns lent_is count long first closed =
    turned_kerns (of_kern 8 s).run false b c old lent new (kern_kept 8 refl s).keeps
    (subst (λ (told : List Bool). KernsOpenly (of_kern 8 s).run b c told) (sym lent_is) kerns) count long first closed
