-- The first leg that joins no two nodes, or repeats the nodes of an earlier leg, is found, and without one the legs are in order.
use Rattle.std.proofs.Common.{Contains, take, sym, ap, subst, arith}
use Rattle.ch_hierarchy.specs.declared.fault.CheckFault.TheVariants.{Pair}
use Rattle.ch_hierarchy.specs.Placing.{from_of, to_of}
use Rattle.ch_hierarchy.specs.Doubles.{IsLessened, IsTwin}
use Rattle.ch_hierarchy.proofs.theory.SavedLevels.{sized}
use Rattle.ch_hierarchy.proofs.theory.SavedFaults.{same_refusal}
use Rattle.ch_hierarchy.proofs.code.PairFaults.{fair_joins, placed_below, placed_sorted, first_pair_fault, all_pairs}
use Rattle.ch_hierarchy.proofs.assembling.pairs_of.Goals as goal

pub place_legs-requires : goal.place_legs-requires
place_legs-requires c = λ l h.
    let joins = fair_joins c.args.n c.args.legs.now c.first_not_joining-faulty.result _ c.first_not_joining-faulty.ensures
    c.unwrap_or-end.ensures l h in
    let low = joins.0 in
    let high = joins.1 in
    let size = sized c.args.n c.requires.0 c.args.levels.now c.requires.1 c.requires.2 in
    (omega arith, omega arith)

pub sorted-requires-clause-below : goal.sorted-requires-clause-below
sorted-requires-clause-below c = placed_below from_of to_of c.args.levels.now _ c.args.n _ c.in_ok-placed.ensures.up.0 (λ l h.
    let joins = fair_joins c.args.n c.args.legs.now c.first_not_joining-faulty.result _ c.first_not_joining-faulty.ensures
    c.unwrap_or-end.ensures l h in
    (joins.0, joins.1))

pub sorted-requires-clause-below_down : goal.sorted-requires-clause-below_down
sorted-requires-clause-below_down c = placed_below to_of from_of c.args.levels.now _ c.args.n _ c.in_ok-placed.ensures.down.0 (λ l h.
    let joins = fair_joins c.args.n c.args.legs.now c.first_not_joining-faulty.result _ c.first_not_joining-faulty.ensures
    c.unwrap_or-end.ensures l h in
    (joins.1, joins.0))

pub first_twin-requires-clause-below : goal.first_twin-requires-clause-below
first_twin-requires-clause-below c = λ e h.
    placed_below from_of to_of c.args.levels.now _ c.args.n _ c.in_ok-placed.ensures.up.0 (λ l k.
    let joins = fair_joins c.args.n c.args.legs.now c.first_not_joining-faulty.result _ c.first_not_joining-faulty.ensures
    c.unwrap_or-end.ensures l k in
    (joins.0, joins.1)) e ((c.in_ok-pairs.ensures.0.each e).0 (subst (λ q. Contains q e) c.as_slice.ensures.value h))

pub first_twin-requires-2-clause-below : goal.first_twin-requires-2-clause-below
first_twin-requires-2-clause-below c = λ e h.
    placed_below to_of from_of c.args.levels.now _ c.args.n _ c.in_ok-placed.ensures.down.0 (λ l k.
    let joins = fair_joins c.args.n c.args.legs.now c.first_not_joining-faulty.result _ c.first_not_joining-faulty.ensures
    c.unwrap_or-end.ensures l k in
    (joins.1, joins.0)) e ((c.in_ok-pairs.ensures.1.each e).0 (subst (λ q. Contains q e) c.as_slice-2.ensures.value h))

pub returns-in-Some-clause-fault : goal.returns-in-Some-clause-fault
returns-in-Some-clause-fault c = λ f e.
    let levels = c.args.levels.now in
    let legs = c.args.legs.now in
    let faulty = c.first_not_joining-faulty.result in
    let fair = take c.unwrap_or-end.result legs in (
      c.in-Some.place,
      sym (same_refusal _ (Pair c.in-Some.place) f e),
      first_pair_fault c.args.n c.requires.0 levels c.requires.1 c.requires.2 legs faulty c.in_ok-least.least c.in_ok-place.field-0
          c.first_not_joining-faulty.ensures
          fair (ap (λ k. take k legs) c.unwrap_or-end.ensures) c.in_ok-pairs.pairs.ups.items c.in_ok-pairs.pairs.downs.items
          (placed_sorted from_of to_of levels fair _ _ c.in_ok-placed.ensures.up.0 c.in_ok-pairs.ensures.0)
          (placed_sorted to_of from_of levels fair _ _ c.in_ok-placed.ensures.down.0 c.in_ok-pairs.ensures.1)
          (subst (λ q. IsLessened (IsTwin q) faulty c.in_ok-least.least) c.as_slice.ensures.value c.in_ok-least.ensures)
          (subst (λ q. IsLessened (IsTwin q) c.in_ok-least.least c.in_ok-place.field-0) c.as_slice-2.ensures.value c.in_ok-place.ensures)
          c.in-Some.place c.in-Some.is,
    )

pub returns-in-None-clause-pairs : goal.returns-in-None-clause-pairs
returns-in-None-clause-pairs c =
    let levels = c.args.levels.now in
    let legs = c.args.legs.now in
    let faulty = c.first_not_joining-faulty.result in
    let fair = take c.unwrap_or-end.result legs in
    all_pairs c.args.n c.requires.0 levels c.requires.1 c.requires.2 legs faulty c.in_ok-least.least c.in_ok-place.field-0
    c.first_not_joining-faulty.ensures
    fair (ap (λ k. take k legs) c.unwrap_or-end.ensures) c.in_ok-pairs.pairs.ups.items c.in_ok-pairs.pairs.downs.items
    (placed_sorted from_of to_of levels fair _ _ c.in_ok-placed.ensures.up.0 c.in_ok-pairs.ensures.0)
    (placed_sorted to_of from_of levels fair _ _ c.in_ok-placed.ensures.down.0 c.in_ok-pairs.ensures.1)
    (subst (λ q. IsLessened (IsTwin q) faulty c.in_ok-least.least) c.as_slice.ensures.value c.in_ok-least.ensures)
    (subst (λ q. IsLessened (IsTwin q) c.in_ok-least.least c.in_ok-place.field-0) c.as_slice-2.ensures.value c.in_ok-place.ensures)
    c.in-None.is c.in_ok-pairs.ensures.0.order c.in_ok-pairs.ensures.1.order
