-- The state of least weight is found if the search did not stall at it, and leaves one state fewer to settle.
use Rattle.std.proofs.Common.{◌/◌, List, Option, None, sym, ap, subst, ℕ}
use Rattle.std.specs.Option.{option_map}
use Rattle.ch_query.specs.declared.weights.search.WeightSearch.{WeightSearch}
use Rattle.ch_query.specs.Search.{IsEmpty}
use Rattle.ch_query.specs.Weights.{AreUnstalledOn, weight_cost, by_state, IsWeighingAt}
use Rattle.ch_query.proofs.by_weight.Queues.{least_state}
use Rattle.ch_query.proofs.by_weight.WeighingPops.{pop_weighs}
use Rattle.ch_query.proofs.by_weight.SearchSpaces.{state_here, none_left, settles_popped, still_alone, unsettled_falls}
use Rattle.ch_query.proofs.by_weight.SearchSpaces.{unstalled_skips, unstalled_grows}
use Rattle.ch_query.proofs.weights.search.WeightSearch.explore.Goals as goal

pub settle-requires-clause-weighing : goal.settle-requires-clause-weighing
settle-requires-clause-weighing c v within at =
    let H = c.args.hierarchy.now in
    let x = c.loop-weight.self in
    let side = c.args.side in
    let before = c.loop-weight.invariant in
    let popped = c.in-Some.ensures in
    let l = least_state _ _ popped.least in
    subst (λ (y : WeightSearch). IsWeighingAt H c.args.ends side y v c.in-Some.weight)
    (sym (ap (λ (q : List (Option ℕ)). record x { queue = q }) popped.rest))
    (pop_weighs H c.args.ends side x before.weighing v c.in-Some.weight c.in-Some.state within
    (state_here H side x before.alone v _ _ within at l) l)

pub loop-weight-preserved-in-Continue-1 : goal.loop-weight-preserved-in-Continue-1
loop-weight-preserved-in-Continue-1 c =
    let before = c.loop-weight.invariant in
    let m = before.weighing in
    let popped = c.in-Some.ensures in
    let s = settles_popped _ _ _ c.loop-weight.self c.settle.new.self _ _ _ m before.alone popped.least popped.rest c.settle.ensures.gone in
    record {
      weighing = s.1.gone.weighing;
      alone = still_alone _ _ _ _ _ m _ _ _ s.1 before.alone;
      unstalled = unstalled_grows _ _ _ _ _ m _ _ _ s.1 _ before.unstalled (c.in-Some.state / 2) s.2 _ c.in_ok-push.ensures.items;
    }

pub loop-weight-preserved : goal.loop-weight-preserved
loop-weight-preserved c =
    let before = c.loop-weight.invariant in
    let m = before.weighing in
    let popped = c.in-Some.ensures in
    let after = c.settle.ensures in
    let s = settles_popped _ _ _ c.loop-weight.self c.settle.new.self _ _ _ m before.alone popped.least popped.rest after.gone in
    record {
      weighing = s.1.gone.weighing;
      alone = still_alone _ _ _ _ _ m _ _ _ s.1 before.alone;
      unstalled = unstalled_skips _ _ _ _ _ m _ _ _ s.1 _ before.unstalled (after.stalled c.if-settle.false s.0 s.1.within s.2);
    }

pub loop-weight-smaller-in-Continue-1 : goal.loop-weight-smaller-in-Continue-1
loop-weight-smaller-in-Continue-1 c =
    let before = c.loop-weight.invariant in
    let popped = c.in-Some.ensures in
    let s = settles_popped _ _ _ c.loop-weight.self c.settle.new.self _ _ _ before.weighing before.alone popped.least popped.rest
    c.settle.ensures.gone in
    unsettled_falls _ _ _ _ _ before.weighing _ _ _ s.1

pub loop-weight-smaller : goal.loop-weight-smaller
loop-weight-smaller c =
    let before = c.loop-weight.invariant in
    let popped = c.in-Some.ensures in
    let s = settles_popped _ _ _ c.loop-weight.self c.settle.new.self _ _ _ before.weighing before.alone popped.least popped.rest
    c.settle.ensures.gone in
    unsettled_falls _ _ _ _ _ before.weighing _ _ _ s.1

pub returns-clause-done : goal.returns-clause-done
returns-clause-done c =
    let end = c.in_default.ensures in
    let H = c.args.hierarchy.now in
    subst (λ q. IsEmpty (by_state (option_map weight_cost) H c.args.side q None)) (sym end.rest)
    (none_left H c.args.side c.loop-weight.self.queue end.least)

pub returns-clause-unstalled : goal.returns-clause-unstalled
returns-clause-unstalled c =
    let end = c.in_default.ensures in
    let x = c.loop-weight.self in
    subst (λ (q : List (Option ℕ)). AreUnstalledOn c.args.hierarchy.now c.args.ends c.args.side (record x { queue = q })
    c.loop-weight.found.items) (sym end.rest) c.loop-weight.invariant.unstalled
