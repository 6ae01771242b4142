-- The least sum of two passes is the least weight.
use Rattle.std.proofs.Common.{◌+◌, None, Some, subst, sym, arith, inl, inr, refl}
use Rattle.ch_query.proofs.two_sides.Distances.{weight_is_distance}
use Rattle.ch_tree.specs.Tree.{AreKnownAbove}
use Rattle.ch_tree.proofs.theory.Ends.{least_of_passes}
use Rattle.ch_tree.proofs.query.distance_between.Goals as goal

pub clear-requires-clause-known : goal.clear-requires-clause-known
clear-requires-clause-known c =
    subst (λ q. AreKnownAbove c.args.parents.now (q + 1) c.sweep_common-least.new.ups.items)
    (sym c.rank.ensures.rank) c.sweep_common-least.ensures.up.known

pub clear-requires-2-clause-known : goal.clear-requires-2-clause-known
clear-requires-2-clause-known c =
    subst (λ q. AreKnownAbove c.args.parents.now (q + 1) c.sweep_common-least.new.downs.items)
    (sym c.rank-2.ensures.rank) c.sweep_common-least.ensures.down.known

pub returns-then-least-eq-NEVER-clause-least : goal.returns-then-least-eq-NEVER-clause-least
returns-then-least-eq-NEVER-clause-least c =
    least_of_passes c.args.hierarchy.now c.nodes-levelled.ensures.levelled c.requires.kept c.args.parents.now c.args.start c.args.end
    c.requires.start
    c.requires.end c.sweep_common-least.new.ups.items c.sweep_common-least.new.downs.items c.sweep_common-least.result
    c.sweep_common-least.ensures.up
    c.sweep_common-least.ensures.down c.sweep_to_meeting-meeting.result c.sweep_to_meeting-meeting.ensures.common
    c.sweep_common-least.ensures.sum
    None (inr (refl, c.if-least-eq-NEVER.true))

pub returns-else-least-eq-NEVER-clause-least : goal.returns-else-least-eq-NEVER-clause-least
returns-else-least-eq-NEVER-clause-least c =
    let small = c.sweep_common-least.ensures.sum.small in
    let away = c.if-least-eq-NEVER.false in
    least_of_passes c.args.hierarchy.now c.nodes-levelled.ensures.levelled c.requires.kept c.args.parents.now c.args.start c.args.end
    c.requires.start
    c.requires.end c.sweep_common-least.new.ups.items c.sweep_common-least.new.downs.items c.sweep_common-least.result
    c.sweep_common-least.ensures.up
    c.sweep_common-least.ensures.down c.sweep_to_meeting-meeting.result c.sweep_to_meeting-meeting.ensures.common
    c.sweep_common-least.ensures.sum
    (Some c.sweep_common-least.result) (inl (refl, omega arith))

pub returns-then-least-eq-NEVER-clause-distance : goal.returns-then-least-eq-NEVER-clause-distance
returns-then-least-eq-NEVER-clause-distance c =
    weight_is_distance c.args.hierarchy.now c.args.start c.args.end None (returns-then-least-eq-NEVER-clause-least c)

pub returns-else-least-eq-NEVER-clause-distance : goal.returns-else-least-eq-NEVER-clause-distance
returns-else-least-eq-NEVER-clause-distance c =
    weight_is_distance c.args.hierarchy.now c.args.start c.args.end (Some c.sweep_common-least.result)
    (returns-else-least-eq-NEVER-clause-least c)
