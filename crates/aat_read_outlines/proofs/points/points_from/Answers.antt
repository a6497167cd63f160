use Rattle.std.proofs.Common.{◌≡◌, ◌∙◌, ℕ, ◌+◌, ◌*◌, ◌<◌, ◌≤◌, List, [], ◌∷◌, ◌++◌, drop, get_or, length, append_assoc, ap, sym, arith}
use Rattle.std.specs.Prelude.{sum_by}
use Rattle.std.proofs.lemmas.List.{drop_more, length_push}
use Rattle.std.proofs.lemmas.List.Sums.{sum_by-drop_more}
use Rattle.aat_read_outlines.specs.Points.{moved, point_at, points_from, x_size, y_size}
use Rattle.aat_read_outlines.specs.declared.outline.OutlinePoint.{OutlinePoint}
use Rattle.aat_read_outlines.specs.declared.points.Pen.{Pen}
use Rattle.aat_read_outlines.proofs.points.points_from.Goals as goal

-- one more point, behind those that were there
rest_more :
    (bytes flags : List ℕ) (pen now : Pen) (i : ℕ) (points new : List OutlinePoint) (point : OutlinePoint) (all : List OutlinePoint)
    → i < length flags
    → now ≡ moved bytes pen (get_or flags i 0)
    → point ≡ point_at now (get_or flags i 0)
    → new ≡ points ++ point ∷ []
    → points ++ points_from bytes pen (drop i flags) ≡ all
    → new ++ points_from bytes now (drop (i + 1) flags) ≡ all
rest_more bytes flags pen now i points new point all lt is made pushed was =
    let flag = get_or flags i 0 in
    let rest = drop (i + 1) flags in
    ap (λ (list : List OutlinePoint). list ++ points_from bytes now rest) pushed
    ∙ append_assoc points (point ∷ []) (points_from bytes now rest)
    ∙ ap (λ (p : OutlinePoint). points ++ p ∷ points_from bytes now rest) made
    ∙ ap (λ (p : Pen). points ++ point_at p flag ∷ points_from bytes p rest) is
    ∙ ap (λ (fs : List ℕ). points ++ points_from bytes pen fs) (sym (drop_more flags i 0 lt))
    ∙ was

-- the bytes of one step less are still to come
inside_more :
    (size : ℕ → ℕ) (flags : List ℕ) (i place next limit : ℕ)
    → i < length flags
    → next ≡ place + size (get_or flags i 0)
    → place + sum_by size (drop i flags) ≤ limit
    → next + sum_by size (drop (i + 1) flags) ≤ limit
inside_more size flags i place next limit lt is was = omega (arith, sum_by-drop_more size flags i 0 lt)

-- one more step goes no further than one step
near_more : (i far next : ℕ) → next ≤ far + 32768 → far ≤ 32768 * i → next ≤ 32768 * (i + 1)
near_more i far next step was = omega arith

pub loop-flag-preserved : goal.loop-flag-preserved
loop-flag-preserved g c =
    let bytes = c.args.bytes.now in
    let flags = c.args.flags.now in
    let at = c.loop-flag in
    let i = at.flag-index in
    let lt = c.loop-flag-test.true in
    let is = c.moved-now.ensures.pen in
    let pushed = c.in_ok-push.ensures.items in
    record {
      rest = rest_more bytes flags at.now c.moved-now.result i at.points.items c.push.new.self.items c.point_at.result _ lt is c.point_at.ensures pushed at.invariant.rest;
      counted = ap length pushed ∙ length_push at.points.items c.point_at.result ∙ ap (λ (n : ℕ). n + 1) at.invariant.counted;
      x_inside = inside_more x_size flags i at.now.x_place _ _ lt (ap (λ (p : Pen). p.x_place) is) at.invariant.x_inside;
      y_inside = inside_more y_size flags i at.now.y_place _ _ lt (ap (λ (p : Pen). p.y_place) is) at.invariant.y_inside;
      x_near = near_more i _ _ c.moved-now.ensures.x_near at.invariant.x_near;
      y_near = near_more i _ _ c.moved-now.ensures.y_near at.invariant.y_near;
    }
