-- Binary search in an ordered row finds the leg at the node, or the row has none there.
use Rattle.std.proofs.Common.{rules, refl, ◌∙◌, ap}
use Rattle.std.proofs.lemmas.List.Elements.{Contains-get_or}
use Rattle.std.proofs.lemmas.List.Sorted.{answers_always}
use Rattle.ch_graph.proofs.BinarySearch.{found_number, number_not_missed}
use Rattle.ch_hierarchy.specs.declared.leg.Leg.{Leg}
use Rattle.ch_hierarchy.proofs.theory.NoLeg.{no_leg}
use Rattle.ch_query.proofs.checking.leg_costs.cost_in_row.Goals as goal

pub returns-in-Ok : goal.returns-in-Ok
returns-in-Ok c =
    let e = c.in-Ok.ensures in
    let found = found_number (λ (l : Leg). l.node) c.args.row.now c.args.node c.in-Ok.place no_leg
    (e.position (λ l. l.node) (answers_always _ _ _ (λ f a r g called. search rules))) in
    (_, Contains-get_or c.args.row.now c.in-Ok.place no_leg e.bound, found, refl)

pub returns-in-Err : goal.returns-in-Err
returns-in-Err c =
    let e = c.in-Err.ensures in
    λ l has at. number_not_missed (λ (k : Leg). k.node) c.args.row.now c.args.node c.requires has.0 l has.1
    (ap (λ (k : Leg). k.node) has.2 ∙ at) c.in-Err.field-0
    (e.position (λ k. k.node) (answers_always _ _ _ (λ f a r g called. search rules)))
