-- An arc without a fault extends those before it that are within the limits, so past the last arc all are within them.
use Rattle.std.proofs.Common.{ℕ, List, All, length, take, subst, ◌≤◌}
use Rattle.std.proofs.lemmas.List.{take_all}
use Rattle.std.proofs.lemmas.List.Elements.{All-more}
use Rattle.ch_graph.specs.declared.arc.InArc.{InArc}
use Rattle.ch_graph.specs.Graph.{IsArcWithin}
use Rattle.ch_graph.proofs.graph.first_arc_fault.Goals as goal

-- if the first n arcs are within the limits and there are no more, all arcs are
all_within : (nodes n : ℕ) (arcs : List InArc) → length arcs ≤ n → All (IsArcWithin nodes) (take n arcs) → All (IsArcWithin nodes) arcs
all_within nodes n arcs past within = subst (All (IsArcWithin nodes)) (take_all n arcs past) within

pub loop-place-preserved : goal.loop-place-preserved
loop-place-preserved c = All-more (IsArcWithin c.args.nodes) _ _ _ c.loop-place-test.true c.loop-place.invariant c.in_default.ensures

pub returns : goal.returns
returns c = all_within _ _ _ c.loop-place-test.false c.loop-place.invariant
