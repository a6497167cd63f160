use Rattle.std.proofs.Common.{◌≡◌, ◌∙◌, ℕ, ◌+◌, ◌<◌, List, [], ◌∷◌, ◌++◌, get_or, length, map, take, append_assoc, ap, sym}
use Rattle.std.proofs.lemmas.List.{map_more}
use Rattle.aat_read_outlines.proofs.composites.append_ends.Goals as goal

-- one more end, behind those that were there
ends_more :
    (count : ℕ) (before inner ends new : List ℕ) (i : ℕ)
    → i < length inner
    → new ≡ ends ++ (count + get_or inner i 0) ∷ []
    → ends ≡ before ++ map (λ end. count + end) (take i inner)
    → new ≡ before ++ map (λ end. count + end) (take (i + 1) inner)
ends_more count before inner ends new i lt pushed was =
    let f = λ (end : ℕ). count + end in
    let one = f (get_or inner i 0) ∷ [] in
    pushed
    ∙ ap (λ (list : List ℕ). list ++ one) was
    ∙ append_assoc before (map f (take i inner)) one
    ∙ ap (λ (list : List ℕ). before ++ list) (sym (map_more f inner i 0 lt))

pub loop-end-preserved : goal.loop-end-preserved
loop-end-preserved g c =
    ends_more c.args.count c.args.ends.now.items c.args.inner.now c.loop-end.ends.items _ c.loop-end.end-index c.loop-end-test.true c.in_ok-push.ensures.items c.loop-end.invariant
