-- One more leg is placed at its lower node on one side, so in the end each leg is placed on the side where it goes up.
use Rattle.std.proofs.Common.{None}
use Rattle.std.proofs.lemmas.List.Elements.{Contains-get_or}
use Rattle.ch_graph.specs.declared.saved.SavedLeg.{SavedLeg}
use Rattle.ch_hierarchy.specs.Placing.{from_of, to_of}
use Rattle.ch_hierarchy.proofs.code.PairFaults.{placed_more, placed_all}
use Rattle.ch_hierarchy.proofs.placing.place_legs.Goals as goal

-- the default leg of a read past the end of the legs
blank : SavedLeg
blank = record { from = 0; to = 0; cost = record { weight = 0; arcs = 0 }; middle = None }

pub push_where_up-requires-clause-lower : goal.push_where_up-requires-clause-lower
unfolding blank
push_where_up-requires-clause-lower c = (c.requires _ (Contains-get_or c.args.legs.now c.loop-place.place blank c.loop-place-test.true)).0

pub push_where_up-requires-clause-higher : goal.push_where_up-requires-clause-higher
unfolding blank
push_where_up-requires-clause-higher c = (c.requires _ (Contains-get_or c.args.legs.now c.loop-place.place blank c.loop-place-test.true)).1

pub push_where_up-requires-in-loop-place-clause-lower : goal.push_where_up-requires-in-loop-place-clause-lower
unfolding blank
push_where_up-requires-in-loop-place-clause-lower c =
    (c.requires _ (Contains-get_or c.args.legs.now c.loop-place.place blank c.loop-place-test.true)).1

pub push_where_up-requires-in-loop-place-clause-higher : goal.push_where_up-requires-in-loop-place-clause-higher
unfolding blank
push_where_up-requires-in-loop-place-clause-higher c =
    (c.requires _ (Contains-get_or c.args.legs.now c.loop-place.place blank c.loop-place-test.true)).0

pub loop-place-preserved : goal.loop-place-preserved
loop-place-preserved c = record {
  up = placed_more from_of to_of c.args.levels.now c.args.legs.now c.loop-place.place _ _ c.loop-place.invariant.up
      c.loop-place-test.true c.in_ok-push_where_up.ensures;
  down = placed_more to_of from_of c.args.levels.now c.args.legs.now c.loop-place.place _ _ c.loop-place.invariant.down
      c.loop-place-test.true c.in_ok-push_where_up-2.ensures;
}

pub returns-clause-up : goal.returns-clause-up
returns-clause-up c =
    placed_all from_of to_of c.args.levels.now c.args.legs.now c.loop-place.place _ c.loop-place-test.false c.loop-place.invariant.up

pub returns-clause-down : goal.returns-clause-down
returns-clause-down c =
    placed_all to_of from_of c.args.levels.now c.args.legs.now c.loop-place.place _ c.loop-place-test.false c.loop-place.invariant.down
