-- The stops of a text rise, and end with it.
use Rattle.std.proofs.Common.{◌≡◌, ◌∙◌, ap, refl, sym, subst, None, ℕ, zero, suc, ◌+◌, ◌-◌, ◌<◌, ◌≤◌, Bool, true, false, cond, ◌&&◌, List, [], ◌∷◌, ◌++◌, arith, append_assoc, drop, get_or, length, take}
use Rattle.std.proofs.lemmas.Bool.{and_from, and_parts, le-leb, leb-true, lt-ltb, ltb-false, ltb-true, ne_eqb}
use Rattle.std.proofs.lemmas.List.{append-nil, drop_all, drop_more, get_or_default, take_all, take_more}
use Rattle.std.specs.Prelude.{nat_le, nat_lt}
use Rattle.aat_shaper.specs.Lines.{start_of, stop_at, stops_behind, text_end}
use Rattle.aat_shaper.specs.declared.lines.LineStop.{LineStop}
use Rattle.aat_shaper.specs.inside.Filling.{AreStops}

-- what is read of a stop
abbrev pub zero_stop : LineStop
zero_stop = record { place = 0; hang = None; is_forced = false }

-- a stop that rises, and another one
stops_taken :
    (s n : ℕ) (stop : LineStop) (stops : List LineStop) → s < stop.place → stop.place ≤ n
    → stops_behind s n (stop ∷ stops) ≡ stop ∷ stops_behind stop.place n stops
stops_taken s n stop stops above within =
    let e = and_from (nat_lt s stop.place) (nat_le stop.place n) (lt-ltb s stop.place above)
    (le-leb stop.place n within)
    in
    ap (λ b. cond b (stop ∷ stops_behind stop.place n stops) (stops_behind s n stops)) e

stops_left :
    (s n : ℕ) (stop : LineStop) (stops : List LineStop) → (s < stop.place → stop.place ≤ n → ⊥)
    → stops_behind s n (stop ∷ stops) ≡ stops_behind s n stops
stops_left s n stop stops not = by_way (nat_lt s stop.place && nat_le stop.place n) refl
  where
    by_way :
        (b : Bool) → (nat_lt s stop.place && nat_le stop.place n) ≡ b
        → cond b (stop ∷ stops_behind stop.place n stops) (stops_behind s n stops) ≡ stops_behind s n stops
    by_way true e =
        let both = and_parts (nat_lt s stop.place) (nat_le stop.place n) e in
        absurd (not (ltb-true s stop.place both.0) (leb-true stop.place n both.1))
    by_way false e = refl

module _ (row stops whole : List LineStop) (i s n : ℕ) (d : LineStop) (low : i < length stops)
    (so_far : row ++ stops_behind s n (drop i stops) ≡ whole) where
  pub take_stop :
      s < (get_or stops i d).place → (get_or stops i d).place ≤ n
      → (row ++ (get_or stops i d ∷ [])) ++ stops_behind (get_or stops i d).place n (drop (i + 1) stops) ≡ whole
  take_stop above within =
      let stop = get_or stops i d in
      append_assoc row (stop ∷ []) (stops_behind stop.place n (drop (i + 1) stops))
      ∙ (ap (λ (ts : List LineStop). row ++ ts) (sym (stops_taken s n stop (drop (i + 1) stops) above within))
      ∙ (ap (λ (ts : List LineStop). row ++ stops_behind s n ts) (sym (drop_more stops i d low)) ∙ so_far))

  pub leave_stop :
      (s < (get_or stops i d).place → (get_or stops i d).place ≤ n → ⊥)
      → row ++ stops_behind s n (drop (i + 1) stops) ≡ whole
  leave_stop not =
      ap (λ (ts : List LineStop). row ++ ts)
      (sym (stops_left s n (get_or stops i d) (drop (i + 1) stops) not))
      ∙ (ap (λ (ts : List LineStop). row ++ stops_behind s n ts) (sym (drop_more stops i d low)) ∙ so_far)

-- a stop more that is taken as it is
pub take_next :
    (stops : List LineStop) (i s n : ℕ) → i < length stops
    → take i stops ++ stops_behind s n (drop i stops) ≡ stops_behind 0 n stops → s < (get_or stops i zero_stop).place
    → (get_or stops i zero_stop).place ≤ n
    → take (i + 1) stops ++ stops_behind (get_or stops i zero_stop).place n (drop (i + 1) stops)
    ≡ stops_behind 0 n stops
take_next stops i s n low so_far above within =
    let stop = get_or stops i zero_stop in
    ap (λ (ts : List LineStop). ts ++ stops_behind stop.place n (drop (i + 1) stops)) (take_more stops i zero_stop low)
    ∙ take_stop (take i stops) stops (stops_behind 0 n stops) i s n zero_stop low so_far above within

no_stop_behind : (n : ℕ) (b : Bool) → nat_lt n n ≡ b → cond b (text_end n ∷ []) [] ≡ []
no_stop_behind n true e = absurd (omega (arith, ltb-true n n e))
no_stop_behind n false e = refl

-- all stops are taken as they are, and the last is the text's end
pub all_taken :
    (stops : List LineStop) (i s n : ℕ) → length stops ≤ i
    → take i stops ++ stops_behind s n (drop i stops) ≡ stops_behind 0 n stops → s ≡ n → stops_behind 0 n stops ≡ stops
all_taken stops i s n all so_far end =
    sym so_far
    ∙ (ap (λ (ts : List LineStop). take i stops ++ stops_behind s n ts) (drop_all i stops all)
    ∙ (ap (λ (m : ℕ). take i stops ++ stops_behind m n []) end
    ∙ (ap (λ (ts : List LineStop). take i stops ++ ts) (no_stop_behind n (nat_lt n n) refl)
    ∙ (append-nil (take i stops) ∙ take_all i stops all))))

-- stops rise from s on, up to n
record Rise (s n : ℕ) (row : List LineStop) : Type 0 where
  first : 0 < length row → s < (stop_at row 0).place
  more : (j : ℕ) → suc j < length row → (stop_at row j).place < (stop_at row (suc j)).place
  within : (j : ℕ) → j < length row → (stop_at row j).place ≤ n

rise_none : (s n : ℕ) → Rise s n []
rise_none s n = record {
  first = λ h. absurd (omega (arith, h));
  more = λ j h. absurd (omega (arith, h));
  within = λ j h. absurd (omega (arith, h));
}

rise_more_at :
    (s n : ℕ) (stop : LineStop) (row : List LineStop) → Rise stop.place n row → (j : ℕ) → suc j < length (stop ∷ row)
    → (stop_at (stop ∷ row) j).place < (stop_at (stop ∷ row) (suc j)).place
rise_more_at s n stop row rise zero low = rise.first (omega (arith, low))
rise_more_at s n stop row rise (suc j) low = rise.more j (omega (arith, low))

rise_within_at :
    (s n : ℕ) (stop : LineStop) (row : List LineStop) → stop.place ≤ n → Rise stop.place n row → (j : ℕ)
    → j < length (stop ∷ row) → (stop_at (stop ∷ row) j).place ≤ n
rise_within_at s n stop row within rise zero low = within
rise_within_at s n stop row within rise (suc j) low = rise.within j (omega (arith, low))

rise_cons :
    (s n : ℕ) (stop : LineStop) (row : List LineStop) → s < stop.place → stop.place ≤ n → Rise stop.place n row
    → Rise s n (stop ∷ row)
rise_cons s n stop row above within rise = record {
  first = λ h. above;
  more = rise_more_at s n stop row rise;
  within = rise_within_at s n stop row within rise;
}

rise_end : (s n : ℕ) (b : Bool) → nat_lt s n ≡ b → Rise s n (cond b (text_end n ∷ []) [])
rise_end s n true e = rise_cons s n (text_end n) [] (ltb-true s n e) (omega arith) (rise_none n n)
rise_end s n false e = rise_none s n

rise_stop :
    (s n : ℕ) (stop : LineStop) (taken left : List LineStop) → Rise stop.place n taken → Rise s n left → (b : Bool)
    → (nat_lt s stop.place && nat_le stop.place n) ≡ b → Rise s n (cond b (stop ∷ taken) left)
rise_stop s n stop taken left rise stay true e =
    let both = and_parts (nat_lt s stop.place) (nat_le stop.place n) e in
    rise_cons s n stop taken (ltb-true s stop.place both.0) (leb-true stop.place n both.1) rise
rise_stop s n stop taken left rise stay false e = stay

all_rise : (s n : ℕ) (stops : List LineStop) → Rise s n (stops_behind s n stops)
all_rise s n [] = rise_end s n (nat_lt s n) refl
all_rise s n (stop ∷ stops) =
    rise_stop s n stop (stops_behind stop.place n stops) (stops_behind s n stops) (all_rise stop.place n stops)
    (all_rise s n stops) (nat_lt s stop.place && nat_le stop.place n) refl

pub start_of_next : (row : List LineStop) (j : ℕ) → start_of row (suc j) ≡ (stop_at row j).place
start_of_next row j =
    let same : suc j - 1 ≡ j = omega arith in
    ap (λ (b : Bool). cond b 0 (stop_at row (suc j - 1)).place) (ne_eqb (suc j) 0 (λ e. omega (arith, e)))
    ∙ ap (λ (i : ℕ). (stop_at row i).place) same

start_rises : (n : ℕ) (row : List LineStop) → Rise 0 n row → (j : ℕ) → j < length row → start_of row j < (stop_at row j).place
start_rises n row rise zero low = rise.first (omega (arith, low))
start_rises n row rise (suc j) low =
    subst (λ (m : ℕ). m < (stop_at row (suc j)).place) (sym (start_of_next row j)) (rise.more j low)

-- the stops of a text are stops
pub stops_are : (n : ℕ) (stops : List LineStop) → AreStops n (stops_behind 0 n stops)
stops_are n stops = record {
  rising = start_rises n (stops_behind 0 n stops) (all_rise 0 n stops);
  within = (all_rise 0 n stops).within;
}

-- a later stop is behind an earlier line's start
module _ (n : ℕ) (row : List LineStop) (are : AreStops n row) (q : ℕ) where
  next_stop : (k : ℕ) → suc k < length row → (stop_at row k).place < (stop_at row (suc k)).place
  next_stop k within = subst (λ (m : ℕ). m < (stop_at row (suc k)).place) (start_of_next row k) (are.rising (suc k) within)

  climb : (k : ℕ) → q + k < length row → start_of row q < (stop_at row (q + k)).place
  climb zero within =
      let same : q ≡ q + 0 = omega arith in
      subst (λ (m : ℕ). start_of row q < (stop_at row m).place) same (are.rising q (omega (arith, within)))
  climb (suc k) within =
      let same : suc (q + k) ≡ q + suc k = omega arith in
      let before = climb k (omega (arith, within)) in
      let step = next_stop (q + k) (omega (arith, within)) in
      subst (λ (m : ℕ). start_of row q < (stop_at row m).place) same (omega (arith, before, step))

  pub start_below : (j : ℕ) → q ≤ j → j < length row → start_of row q < (stop_at row j).place
  start_below j le low =
      let same : q + (j - q) ≡ j = omega arith in
      subst (λ (m : ℕ). start_of row q < (stop_at row m).place) same (climb (j - q) (omega (arith, low, same)))

pub stop_read : (row : List LineStop) (j : ℕ) → j < length row → get_or row j zero_stop ≡ stop_at row j
stop_read row j low = get_or_default row j zero_stop (text_end 0) low

-- where the last stop is that rises from s on
last_place : ℕ → List LineStop → ℕ
last_place s [] = s
last_place s (stop ∷ row) = last_place stop.place row

last_of_end : (s n : ℕ) → s ≤ n → (b : Bool) → nat_lt s n ≡ b → last_place s (cond b (text_end n ∷ []) []) ≡ n
unfolding last_place
last_of_end s n le true e = refl
last_of_end s n le false e = omega (arith, le, ltb-false s n e)

last_of_stop :
    (s n : ℕ) (stop : LineStop) (taken left : List LineStop) → (stop.place ≤ n → last_place stop.place taken ≡ n)
    → last_place s left ≡ n → (b : Bool) → (nat_lt s stop.place && nat_le stop.place n) ≡ b
    → last_place s (cond b (stop ∷ taken) left) ≡ n
unfolding last_place
last_of_stop s n stop taken left rise stay true e =
    rise (leb-true stop.place n (and_parts (nat_lt s stop.place) (nat_le stop.place n) e).1)
last_of_stop s n stop taken left rise stay false e = stay

last_of_all : (s n : ℕ) (stops : List LineStop) → s ≤ n → last_place s (stops_behind s n stops) ≡ n
last_of_all s n [] le = last_of_end s n le (nat_lt s n) refl
last_of_all s n (stop ∷ stops) le =
    last_of_stop s n stop (stops_behind stop.place n stops) (stops_behind s n stops)
    (λ within. last_of_all stop.place n stops within) (last_of_all s n stops le)
    (nat_lt s stop.place && nat_le stop.place n) refl

last_read : (stop : LineStop) (row : List LineStop) → (stop_at (stop ∷ row) (length row)).place ≡ last_place stop.place row
unfolding last_place
last_read stop [] = refl
last_read stop (next ∷ row) = last_read next row

start_at_end : (row : List LineStop) → start_of row (length row) ≡ last_place 0 row
unfolding last_place
start_at_end [] = refl
start_at_end (stop ∷ row) = start_of_next (stop ∷ row) (length row) ∙ last_read stop row

-- the last stop of a text is its end
pub stops_end : (n : ℕ) (stops : List LineStop) → start_of (stops_behind 0 n stops) (length (stops_behind 0 n stops)) ≡ n
stops_end n stops = start_at_end (stops_behind 0 n stops) ∙ last_of_all 0 n stops (omega arith)
