-- Binary search in an ordered row finds the leg at the node, or the row has none there.
use Rattle.std.proofs.Common.{rules}
use Rattle.std.proofs.lemmas.List.Sorted.{answers_always}
use Rattle.ch_graph.proofs.BinarySearch.{found_number, number_not_missed}
use Rattle.ch_hierarchy.specs.declared.leg.Leg.{Leg}
use Rattle.ch_hierarchy.proofs.theory.NoLeg.{no_leg}
use Rattle.ch_engine.proofs.lines.place_in.Goals as goal

pub returns-in-Ok : goal.returns-in-Ok
returns-in-Ok c =
    let e = c.in-Ok.ensures in (
      e.bound,
      found_number (λ (l : Leg). l.node) c.args.legs.now c.args.node c.in-Ok.place no_leg
          (e.position (λ l. l.node) (answers_always _ _ _ (λ f a r g called. search rules))),
    )

pub returns-in-Err : goal.returns-in-Err
returns-in-Err c =
    let e = c.in-Err.ensures in
    λ k low at. number_not_missed (λ (l : Leg). l.node) c.args.legs.now c.args.node c.requires k no_leg low at c.in-Err.field-0
    (e.position (λ l. l.node) (answers_always _ _ _ (λ f a r g called. search rules)))
