-- The kinds leave the parts of a line.
use Rattle.std.proofs.Common.{◌-◌, arith, length, take, drop, map, ap, sym, ◌∙◌}
use Rattle.std.proofs.lemmas.List.{map-append, take-append-drop}
use Rattle.aat_buffer.specs.Buffer.{reversed}
use Rattle.aat_kinds.specs.Kinds.{insertion_run, noncontextual_run}
use Rattle.aat_kinds.specs.Values.{with_looked_up_value}
use Rattle.aat_cut_kinds.specs.Cuts.{AnyBackwardInsertionLeavesParts, AnyInsertionLeavesParts, AnyInsertionLeavesPartsAtFall, BackwardInsertionLeavesParts, ContextualLeavesParts, InsertionLeavesParts, InsertionLeavesPartsAtFall, NoncontextualLeavesParts, ReversedLeavesParts}
use Rattle.aat_cut_kinds.specs.facts.BackwardCuts.{fall_of_rise, turned_leaves_parts}
use Rattle.aat_cut_kinds.specs.facts.ButMasks.{any_at_fall, any_at_rise, any_backward}
use Rattle.aat_cut_kinds.specs.facts.ContextualCuts.{leaves_parts}
use Rattle.aat_cut_kinds.specs.facts.InsertionCuts.{leaves_parts_at_fall, leaves_parts_at_rise}

pub contextual_leaves_parts : ContextualLeavesParts
contextual_leaves_parts on classes table lookups q b settled cut =
    leaves_parts classes lookups on table settled.0 settled.1 q b cut

pub noncontextual_leaves_parts : NoncontextualLeavesParts
unfolding noncontextual_run
noncontextual_leaves_parts on classes lookup q b =
    let f = with_looked_up_value on classes lookup in
    record {
      line = ap (map f) (sym (take-append-drop q b.line)) ∙ map-append f (take q b.line) (drop q b.line);
      front_budget = omega arith;
      back_budget = omega arith;
    }

pub insertion_leaves_parts : InsertionLeavesParts
insertion_leaves_parts on table glyphs reached c q b entries plain cut =
    leaves_parts_at_rise glyphs on table reached entries plain c q b cut

pub insertion_leaves_parts_at_fall : InsertionLeavesPartsAtFall
insertion_leaves_parts_at_fall on table glyphs reached c q b entries plain cut =
    leaves_parts_at_fall glyphs on table reached entries plain c q b cut

pub reversed_leaves_parts : ReversedLeavesParts
reversed_leaves_parts = turned_leaves_parts

pub backward_insertion_leaves_parts : BackwardInsertionLeavesParts
backward_insertion_leaves_parts on table glyphs reached c q b entries plain cut =
    let run = insertion_run on table glyphs in
    turned_leaves_parts run q b (leaves_parts_at_fall glyphs on table reached entries plain c (length b.line - q) (reversed b) (fall_of_rise run q b on c cut))

pub any_insertion_leaves_parts : AnyInsertionLeavesParts
any_insertion_leaves_parts on table glyphs reached c q b entries cut = any_at_rise glyphs on table reached entries c q b cut

pub any_insertion_leaves_parts_at_fall : AnyInsertionLeavesPartsAtFall
any_insertion_leaves_parts_at_fall on table glyphs reached c q b entries cut = any_at_fall glyphs on table reached entries c q b cut

pub any_backward_insertion_leaves_parts : AnyBackwardInsertionLeavesParts
any_backward_insertion_leaves_parts on table glyphs reached c q b entries cut = any_backward glyphs on table reached entries c q b cut
