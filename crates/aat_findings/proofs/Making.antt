-- Marks of the sums that come to a place.
use Rattle.std.proofs.Common.{◌≡◌, ℕ, zero, suc, ◌+◌, ◌<◌, ◌≤◌, ◌⊎◌, inl, inr, ◌||◌, ◌==◌, Bool, true, false, not, cond, Some, List, ◌++◌, length, get_or, take, subst, sym, ap, ◌∙◌, refl, ltb, ltb-true, lt-ltb, eqb-true, eq-eqb, arith}
use Rattle.std.proofs.Math.ListN.{get_or-eq_default}
use Rattle.std.specs.Prelude.{slice_get}
use Rattle.std.specs.List.{Contains}
use Rattle.std.proofs.lemmas.Bool.{cases_lt, or_cases}
use Rattle.std.proofs.lemmas.List.{get_or_default}
use Rattle.std.proofs.lemmas.Option.{same_Some, slice_get_within}
use Rattle.aat_lookup.specs.declared.glyph_id.GlyphId.{GlyphId}
use Rattle.aat_machine_tables.specs.Entries.{has_flag}
use Rattle.aat_machine_tables.specs.Subtables.{LigatureTables}
use Rattle.aat_machine_tables.specs.Table.{Rule}
use Rattle.aat_machine_tables.specs.declared.state_table.GenericStateEntry.{GenericStateEntry}
use Rattle.aat_findings.specs.Growth.{taken_as}
use Rattle.aat_findings.specs.Ligatures.{ComesTo, HasWay, IsBegun, IsBehind, IsHeld, IsMade, IsNamed, is_last, is_store, value_of}
use Rattle.aat_findings.specs.Reached.{AreExactly}
use Rattle.aat_findings.specs.inside.Making.{AreMadeMarks, AreMarksOf, AreMore, AreNone, IsAfter, IsAmong, IsCarried, IsStored, IsSummed, IsTold, is_held}
use Rattle.aat_findings.specs.inside.Marks.{AreReachMarks, is_marked}
use Rattle.aat_findings.proofs.Exactly.{exactly_same}
use Rattle.aat_findings.proofs.Marking.{written_back}
use Rattle.aat_findings.proofs.Naming.{and_both, and_first, and_second}

module _ {X : Type 0} (xs : List X) (i : ℕ) (x : X) (within : i < length xs) (at : get_or xs i x ≡ x) where
  new_by : (fact : ℕ → X → Type 0) (a : IsAmong xs (i + 1) fact) → (a.place < i) ⊎ (i ≤ a.place)
      → IsAmong xs i fact ⊎ fact i x
  new_by fact a (inl lt) =
      inl (record { place = a.place; item = a.item; before = lt; within = a.within; is = a.is; holds = a.holds })
  new_by fact a (inr le) =
      let same : a.place ≡ i = omega (arith, a.before) in
      let here : get_or xs i a.item ≡ x = get_or_default xs i a.item x within ∙ at in
      let there : get_or xs i a.item ≡ a.item = ap (λ (n : ℕ). get_or xs n a.item) (sym same) ∙ a.is in
      inr (subst (λ (n : ℕ). fact n x) same (subst (λ (y : X). fact a.place y) (sym there ∙ here) a.holds))

  -- of one element more, it holds of that one or of one before it
  among_cases : (fact : ℕ → X → Type 0) → IsAmong xs (i + 1) fact → IsAmong xs i fact ⊎ fact i x
  among_cases fact a = new_by fact a (cases_lt a.place i)

  among_kept : (fact : ℕ → X → Type 0) → IsAmong xs i fact → IsAmong xs (i + 1) fact
  among_kept fact a = record {
    place = a.place;
    item = a.item;
    before = omega (arith, a.before);
    within = a.within;
    is = a.is;
    holds = a.holds;
  }

  among_new : (fact : ℕ → X → Type 0) → fact i x → IsAmong xs (i + 1) fact
  among_new fact holds =
      record { place = i; item = x; before = omega arith; within = within; is = at; holds = holds }

  module _ (fact : ℕ → ℕ → X → Type 0) (start old new : List ℕ)
      (before : AreMore start (λ n. IsAmong xs i (fact n)) old) (here : AreMore old (λ n. fact n i x) new) where
    step_sound : (n : ℕ) → (is_marked old n ≡ true) ⊎ fact n i x
        → (is_marked start n ≡ true) ⊎ IsAmong xs (i + 1) (fact n)
    step_sound n (inl is) = kept_by n (before.marks.sound n is) where
      kept_by : (n : ℕ) → (is_marked start n ≡ true) ⊎ IsAmong xs i (fact n)
          → (is_marked start n ≡ true) ⊎ IsAmong xs (i + 1) (fact n)
      kept_by n (inl is) = inl is
      kept_by n (inr a) = inr (among_kept (fact n) a)
    step_sound n (inr holds) = inr (among_new (fact n) holds)

    step_by : (n : ℕ) → n < length new → IsAmong xs i (fact n) ⊎ fact n i x → is_marked new n ≡ true
    step_by n below (inl a) =
        here.marks.each n below (inl (before.marks.each n (omega (arith, here.long, below)) (inr a)))
    step_by n below (inr holds) = here.marks.each n below (inr holds)

    step_each : (n : ℕ) → n < length new → (is_marked start n ≡ true) ⊎ IsAmong xs (i + 1) (fact n)
        → is_marked new n ≡ true
    step_each n below (inl is) =
        here.marks.each n below (inl (before.marks.each n (omega (arith, here.long, below)) (inl is)))
    step_each n below (inr a) = step_by n below (among_cases (fact n) a)

    -- marks go on by those of one element more
    pub more_step : AreMore start (λ n. IsAmong xs (i + 1) (fact n)) new
    more_step = record {
      long = here.long ∙ before.long;
      marks = record { sound = λ n is. step_sound n (here.marks.sound n is); each = step_each };
    }

more_by : (old : List ℕ) (P W Q : ℕ → Type 0) (n : ℕ) → AreMarksOf P old → (P n → Q n) → (W n → Q n)
    → (is_marked old n ≡ true) ⊎ W n → Q n
more_by old P W Q n marks kept added (inl is) = kept (marks.sound n is)
more_by old P W Q n marks kept added (inr w) = added w

more_back : (old : List ℕ) (P W : ℕ → Type 0) (n : ℕ) → AreMarksOf P old → n < length old → P n ⊎ W n
    → (is_marked old n ≡ true) ⊎ W n
more_back old P W n marks below (inl p) = inl (marks.each n below p)
more_back old P W n marks below (inr w) = inr w

-- marks of what holds go on to those of what holds more often
pub marks_more : (old new : List ℕ) (P W Q : ℕ → Type 0) → AreMarksOf P old → AreMore old W new
    → ((n : ℕ) → P n → Q n) → ((n : ℕ) → W n → Q n) → ((n : ℕ) → n < length old → Q n → P n ⊎ W n) → AreMarksOf Q new
marks_more old new P W Q marks more kept added split = record {
  sound = λ n is. more_by old P W Q n marks (kept n) (added n) (more.marks.sound n is);
  each = λ n below q.
      let within : n < length old = omega (arith, below, more.long) in
      more.marks.each n below (more_back old P W n marks within (split n within q));
}

-- marks of which none is set
pub marks_of_none : (marks : List ℕ) (P : ℕ → Type 0) → ((n : ℕ) → get_or marks n 0 ≡ 0) → ((n : ℕ) → P n → ⊥)
    → AreMarksOf P marks
marks_of_none marks P clear never = record {
  sound = λ n is. absurd (omega (arith, clear n, ltb-true 0 (get_or marks n 0) is));
  each = λ n below p. absurd (never n p);
}

-- what is added to them is all
pub marks_after : (old new : List ℕ) (W : ℕ → Type 0) → ((n : ℕ) → get_or old n 0 ≡ 0) → AreMore old W new
    → AreMarksOf W new
marks_after old new W clear more =
    marks_more old new (λ n. ⊥) W W (marks_of_none old (λ n. ⊥) clear (λ n p. p)) more (λ n p. absurd p) (λ n w. w) (λ n below w. inr w)

-- marks that were written back into a vector of their number
pub marks_back : (P : ℕ → Type 0) (count : ℕ) (new rest read : List ℕ) → length new ≡ count
    → read ≡ take count (new ++ rest) → AreMarksOf P new → AreMarksOf P read
marks_back P count new rest read long is are =
    subst (λ (l : List ℕ). AreMarksOf P l) (sym is) (written_back (λ (l : List ℕ). AreMarksOf P l) count new rest long are)

-- marks of which none is set, as a call reads them
pub none_read : (count : ℕ) (items read : List ℕ) → length items ≡ count → ((n : ℕ) → get_or items n 0 ≡ 0)
    → read ≡ items → AreNone count read
none_read count items read long clear is =
    record { long = ap length is ∙ long; zero = λ n. ap (λ (l : List ℕ). get_or l n 0) is ∙ clear n }

-- of what holds of the same numbers, they are the same marks
pub marks_same : (marks : List ℕ) (P Q : ℕ → Type 0) → ((n : ℕ) → P n → Q n) → ((n : ℕ) → Q n → P n) → AreMarksOf P marks
    → AreMarksOf Q marks
marks_same marks P Q to from are =
    record { sound = λ n is. to n (are.sound n is); each = λ n below q. are.each n below (from n q) }

below_by : (marks : List ℕ) (n : ℕ) → (n < length marks) ⊎ (length marks ≤ n) → is_marked marks n ≡ true → n < length marks
below_by marks n (inl lt) is = lt
below_by marks n (inr le) is = absurd (omega (arith, get_or-eq_default marks 0 le, ltb-true 0 (get_or marks n 0) is))

-- there is a mark of each marked number
pub marked_below : (marks : List ℕ) (n : ℕ) → is_marked marks n ≡ true → n < length marks
marked_below marks n is = below_by marks n (cases_lt n (length marks)) is

module _ (t : LigatureTables) where
  -- no sum comes to the first place from one before it
  pub carried_none : (marks : List ℕ) → ((n : ℕ) → get_or marks n 0 ≡ 0) → AreMarksOf (IsCarried t 0) marks
  carried_none marks clear = marks_of_none marks (IsCarried t 0) clear (λ n (p, is, b). absurd (omega (arith, is)))

  -- and no action is before it
  pub stored_none : (marks : List ℕ) → ((n : ℕ) → get_or marks n 0 ≡ 0) → AreMarksOf (IsStored t 0) marks
  stored_none marks clear = marks_of_none marks (IsStored t 0) clear (λ n (p, lt, b). absurd (omega (arith, lt)))

  -- the sum 0 comes to where actions begin
  pub begun_comes : (place n : ℕ) → IsBegun t place n → ComesTo t place n
  unfolding ComesTo
  begun_comes zero n begun = begun
  begun_comes (suc place) n begun = inl begun

  carried_next : (p n : ℕ) → IsBehind t (λ action. not (is_last action)) (ComesTo t p) p n → ComesTo t (suc p) n
  unfolding ComesTo
  carried_next p n behind = inr behind

  -- and one that is carried to a place
  pub carried_comes : (place n : ℕ) → IsCarried t place n → ComesTo t place n
  carried_comes place n (p, is, behind) =
      let same : suc p ≡ place = omega (arith, is) in
      subst (λ (m : ℕ). ComesTo t m n) same (carried_next p n behind)

  next_split : (p n : ℕ)
      → IsBegun t (suc p) n ⊎ IsBehind t (λ action. not (is_last action)) (ComesTo t p) p n
      → IsCarried t (suc p) n ⊎ IsBegun t (suc p) n
  next_split p n (inl begun) = inr begun
  next_split p n (inr behind) =
      let same : p + 1 ≡ suc p = omega arith in
      inl (p, same, behind)

  comes_split : (place n : ℕ) → ComesTo t place n → IsCarried t place n ⊎ IsBegun t place n
  unfolding ComesTo
  comes_split zero n begun = inr begun
  comes_split (suc p) n comes = next_split p n comes

  last_by : (place action n : ℕ) → slice_get t.actions place ≡ Some action → is_last action ≡ true
      → IsBegun t (suc place) n ⊎ IsBehind t (λ a. not (is_last a)) (ComesTo t place) place n → IsBegun t (suc place) n
  last_by place action n listed last (inl begun) = begun
  last_by place action n listed last (inr b) =
      let same : b.action ≡ action = same_Some b.action action (sym b.listed ∙ listed) in
      let clash : false ≡ true = sym (ap not (ap is_last same ∙ last)) ∙ b.passes in cc

  -- the last action hands no sum on
  pub last_ends : (place action n : ℕ) → slice_get t.actions place ≡ Some action → is_last action ≡ true
      → ComesTo t (suc place) n → IsBegun t (suc place) n
  unfolding ComesTo
  last_ends place action n listed last comes = last_by place action n listed last comes

  -- the marks of the numbers of ligatures that actions store, up to the last action
  pub made_of : (made : List ℕ) (i : ℕ) → length made ≡ length t.ligatures → length t.actions ≤ i
      → AreMarksOf (IsStored t i) made → AreMadeMarks t made
  made_of made i long end are = record {
    long = long;
    marks = record {
      sound = λ n is.
          let (p, lt, behind) = are.sound n is in
          record { below = omega (arith, long, marked_below made n is); place = p; stored = behind };
      each = λ n below m.
          let within : m.place < length t.actions = slice_get_within t.actions m.place m.stored.action m.stored.listed in
          are.each n below (m.place, omega (arith, within, end), m.stored);
    };
  }

  -- the marked numbers are those of the ligatures that are made
  pub numbers_of : (made numbers : List ℕ) → AreMadeMarks t made
      → AreExactly (λ n. (n < length made) × (is_marked made n ≡ true)) numbers → AreExactly (IsMade t) numbers
  numbers_of made numbers are exactly =
      exactly_same (λ n. (n < length made) × (is_marked made n ≡ true)) (IsMade t) numbers
      (λ n (below, is). are.marks.sound n is)
      (λ n m. (omega (arith, are.long, m.below), are.marks.each n (omega (arith, are.long, m.below)) m)) exactly

  module _ (held starts : List ℕ) (i action : ℕ) (are_held : AreExactly (IsHeld t) held)
      (are_starts : AreMarksOf (IsNamed t 0x2000 (λ r. r.2.extra)) starts) (listed : slice_get t.actions i ≡ Some action)
      (within : i < length starts) where
    starts_split : (n : ℕ) → IsCarried t i n ⊎ IsBegun t i n → IsCarried t i n ⊎ ((is_marked starts i ≡ true) × (0 ≡ n))
    starts_split n (inl carried) = inl carried
    starts_split n (inr (is, named)) = inr (are_starts.each i within named, sym is)

    -- the sums that come to a place are those that are carried there, and 0 where actions begin
    pub comes_marks : (old new : List ℕ) → AreMarksOf (IsCarried t i) old
        → AreMore old (λ n. (is_marked starts i ≡ true) × (0 ≡ n)) new → AreMarksOf (ComesTo t i) new
    comes_marks old new are more =
        marks_more old new (IsCarried t i) (λ n. (is_marked starts i ≡ true) × (0 ≡ n)) (ComesTo t i) are more
        (λ n carried. carried_comes i n carried)
        (λ n (is, none). begun_comes i n (sym none, are_starts.sound i is))
        (λ n below comes. starts_split n (comes_split i n comes))

    module _ (sums : List ℕ) (are : AreMarksOf (ComesTo t i) sums) (test : ℕ → Bool) (n : ℕ) where
      -- what is behind the action by marks is
      pub behind_of : test action ≡ true → IsAfter t.components held action sums n → IsBehind t test (ComesTo t i) i n
      behind_of passes a =
          let (some, of_held) = a.holds in
          let (value, read, sum) = of_held.holds in
          let here : get_or sums a.place 0 ≡ a.item = get_or_default sums a.place 0 a.item a.within ∙ a.is in
          let glyph = subst (λ (g : ℕ). IsHeld t g) of_held.is (are_held.sound of_held.place of_held.item of_held.within) in
          record {
            action = action;
            before = a.place;
            listed = listed;
            passes = passes;
            comes = are.sound a.place (lt-ltb 0 (get_or sums a.place 0) (omega (arith, here, some)));
            added = record { glyph = of_held.item; value = value; held = glyph; read = read; sum = sum };
          }

      -- and the other way round
      pub after_of : n < length sums → IsBehind t test (ComesTo t i) i n
          → (test action ≡ true) × IsAfter t.components held action sums n
      after_of below b =
          let same : b.action ≡ action = same_Some b.action action (sym b.listed ∙ listed) in
          let few : b.before < length sums = omega (arith, b.added.sum, below) in
          let is : is_marked sums b.before ≡ true = are.each b.before few b.comes in
          let (k, inside, at) = are_held.each b.added.glyph b.added.held in
          let read : value_of t.components action b.added.glyph ≡ Some b.added.value = ap (λ (a : ℕ). value_of t.components a b.added.glyph) (sym same) ∙ b.added.read in
          let summed : IsSummed t.components held action b.before n = record {
            place = k;
            item = b.added.glyph;
            before = inside;
            within = inside;
            is = at;
            holds = (b.added.value, read, b.added.sum);
          }
          in (
            ap test (sym same) ∙ b.passes,
            record {
              place = b.before;
              item = get_or sums b.before 0;
              before = few;
              within = few;
              is = get_or_default sums b.before (get_or sums b.before 0) 0 few;
              holds = (ltb-true 0 (get_or sums b.before 0) is, summed);
            },
          )

    module _ (sums : List ℕ) (are : AreMarksOf (ComesTo t i) sums) where
      abbrev Goes : ℕ → Type 0
      Goes n = (not (is_last action) ≡ true) × IsAfter t.components held action sums n

      abbrev Stores : ℕ → Type 0
      Stores n = (is_store action ≡ true) × IsAfter t.components held action sums n

      carried_to : (n : ℕ) → Goes n → IsCarried t (i + 1) n
      carried_to n (passes, a) = (i, refl, behind_of sums are (λ action. not (is_last action)) n passes a)

      carried_from : (n : ℕ) → n < length sums → IsCarried t (i + 1) n → Goes n
      carried_from n below (p, is, b) =
          let same : p ≡ i = omega (arith, is) in
          after_of sums are (λ action. not (is_last action)) n below (subst (λ (q : ℕ). IsBehind t (λ action. not (is_last action)) (ComesTo t q) q n) same b)

      -- the sums behind an action that is not the last are carried on
      pub carried_step : (next : List ℕ) → length next ≡ length sums → AreMarksOf Goes next
          → AreMarksOf (IsCarried t (i + 1)) next
      carried_step next long goes = record {
        sound = λ n is. carried_to n (goes.sound n is);
        each = λ n below c. goes.each n below (carried_from n (omega (arith, long, below)) c);
      }

      stored_by : (n p : ℕ) → n < length sums → (p < i) ⊎ (i ≤ p) → p < i + 1 → IsBehind t is_store (ComesTo t p) p n
          → IsStored t i n ⊎ Stores n
      stored_by n p below (inl lt) within b = inl (p, lt, b)
      stored_by n p below (inr le) within b =
          let same : p ≡ i = omega arith in
          inr (after_of sums are is_store n below (subst (λ (q : ℕ). IsBehind t is_store (ComesTo t q) q n) same b))

      -- those behind one that stores are marked with those before
      pub stored_step : (old new : List ℕ) → length old ≡ length sums → AreMarksOf (IsStored t i) old → AreMore old Stores new
          → AreMarksOf (IsStored t (i + 1)) new
      stored_step old new long stored more =
          marks_more old new (IsStored t i) Stores (IsStored t (i + 1)) stored more
          (λ n (p, lt, b). (p, omega (arith, lt), b))
          (λ n (passes, a). (i, omega arith, behind_of sums are is_store n passes a))
          (λ n below (p, lt, b). stored_by n p (omega (arith, long, below)) (cases_lt p i) lt b)

  module _ (marks : List ℕ) (reach : AreReachMarks t.state marks) (flag : ℕ)
      (number : Rule (GenericStateEntry ℕ) → ℕ) where
    abbrev Told : ℕ → Type 0
    Told n = IsAmong t.state.rules (length t.state.rules) (λ place. IsTold marks flag number n)

    named_of : (n : ℕ) → Told n → IsNamed t flag number n
    named_of n a = record {
      rule = a.item;
      listed = (a.place, a.within, a.is);
      reached = reach.sound a.item.0 (and_first (is_marked marks a.item.0) (has_flag a.item.2 flag) a.holds.0);
      flagged = and_second (is_marked marks a.item.0) (has_flag a.item.2 flag) a.holds.0;
      named = a.holds.1;
    }

    told_of : (n : ℕ) → IsNamed t flag number n → Told n
    told_of n is =
        let (k, within, at) = is.listed in
        record {
          place = k;
          item = is.rule;
          before = within;
          within = within;
          is = at;
          holds = (and_both (is_marked marks is.rule.0) (has_flag is.rule.2 flag) (reach.each is.rule.0 is.reached) is.flagged, is.named);
        }

    -- the rules of marked states that have a flag name the numbers that are named
    pub named_marks : (old new : List ℕ) → ((n : ℕ) → get_or old n 0 ≡ 0) → AreMore old Told new
        → AreMarksOf (IsNamed t flag number) new
    named_marks old new clear more =
        marks_same new Told (IsNamed t flag number) named_of told_of (marks_after old new Told clear more)

  known_small : (count k : ℕ) (b : Bool) → ltb k count ≡ b → count < 65536 → cond b k 1 < 65536
  known_small count k true below few = omega (arith, ltb-true k count below, few)
  known_small count k false below few = omega arith

  module _ (classes ligatures held : List ℕ) (class_long : length classes ≡ 65536)
      (ligature_long : length ligatures ≡ 65536)
      (of_classes : AreMarksOf (IsNamed t 0x8000 (λ r. r.1)) classes)
      (of_ligatures : AreMarksOf (λ n. IsAmong t.ligatures (length t.ligatures) (λ place g. g.0 ≡ n)) ligatures)
      (few : t.state.class_count < 65536) where
    way_by : (g : ℕ) → (is_marked ligatures g ≡ true) ⊎ (is_marked classes (taken_as t.state g) ≡ true) → HasWay t g
    way_by g (inl is) =
        let a = of_ligatures.sound g is in
        let same : a.item ≡ record { 0 = g } = ap (λ (n : ℕ). record { 0 = n }) a.holds in
        inr (inl (subst (λ (x : GlyphId). Contains t.ligatures x) same (a.place, a.within, a.is)))
    way_by g (inr is) = inr (inr (of_classes.sound (taken_as t.state g) is))

    way_of : (g : ℕ)
        → (g == 0xFFFF ≡ true) ⊎ (is_marked ligatures g || is_marked classes (taken_as t.state g) ≡ true) → HasWay t g
    way_of g (inl is) = inl (eqb-true g 0xFFFF is)
    way_of g (inr is) =
        way_by g (or_cases (is_marked ligatures g) (is_marked classes (taken_as t.state g)) is)

    or_first : (a b : Bool) → a ≡ true → a || b ≡ true
    or_first true b is = refl
    or_first false b is = cc

    or_second : (a b : Bool) → b ≡ true → a || b ≡ true
    or_second true b is = refl
    or_second false b is = is

    held_by : (g : ℕ) → g < 65536 → HasWay t g → is_held t.state classes ligatures g ≡ true
    held_by g small (inl same) = or_first (g == 0xFFFF) _ (eq-eqb g 0xFFFF same)
    held_by g small (inr (inl (k, within, at))) =
        let is : is_marked ligatures g ≡ true = of_ligatures.each g (omega (arith, ligature_long, small)) (record {
          place = k;
          item = record { 0 = g };
          before = within;
          within = within;
          is = at;
          holds = refl;
        })
        in
        or_second (g == 0xFFFF) _ (or_first (is_marked ligatures g) (is_marked classes (taken_as t.state g)) is)
    held_by g small (inr (inr named)) =
        let below : taken_as t.state g < 65536 = known_small t.state.class_count _ _ refl few in
        let is : is_marked classes (taken_as t.state g) ≡ true = of_classes.each (taken_as t.state g) (omega (arith, class_long, below)) named in
        or_second (g == 0xFFFF) _ (or_second (is_marked ligatures g) (is_marked classes (taken_as t.state g)) is)

    -- the glyphs that are held by marks are those that may be held
    pub held_of : AreExactly (λ g. (g < 65536) × (is_held t.state classes ligatures g ≡ true)) held
        → AreExactly (IsHeld t) held
    held_of exactly =
        exactly_same (λ g. (g < 65536) × (is_held t.state classes ligatures g ≡ true)) (IsHeld t) held
        (λ g (small, is). record { small = small; way = way_of g (or_cases (g == 0xFFFF) _ is) })
        (λ g is. (is.small, held_by g is.small is.way)) exactly
