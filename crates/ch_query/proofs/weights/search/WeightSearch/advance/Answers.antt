-- The settled state has a sum with the other side, and the lesser of it and the least sum is the least so far.
use Rattle.std.proofs.Common.{◌/◌, ◌+◌, length, arith, ap, sym, ◌∙◌, subst, inl, inr}
use Rattle.std.proofs.lemmas.Bool.{cases_lt}
use Rattle.ch_hierarchy.specs.Hierarchy.{nodes_of}
use Rattle.ch_hierarchy.specs.declared.side.Side.TheVariants.{Up}
use Rattle.ch_hierarchy.specs.Side.{other, state_of}
use Rattle.ch_hierarchy.proofs.code.Ranked.{node_of_rank}
use Rattle.ch_query.specs.declared.weights.search.WeightSearch.{WeightSearch}
use Rattle.ch_query.specs.Weights.{IsWeighingAt, HasGoneOn}
use Rattle.ch_query.proofs.by_weight.States.{state_below}
use Rattle.ch_query.proofs.by_weight.WeighingPops.{key_state, pop_weighs}
use Rattle.ch_query.proofs.by_weight.WeighingSums.{read_there, there_small, least_then, states_fall}
use Rattle.ch_query.proofs.weights.search.WeightSearch.advance.Goals as goal

pub index-there-requires : goal.index-there-requires
index-there-requires c =
    let H = c.args.hierarchy.now in
    let on = c.requires.weighing.sides Up in
    let popped = c.in-Some.ensures in
    let low = key_state c.args.self.now.queue c.in-Some.state c.in-Some.weight popped.0.has in
    let size = on.sizes.queue in
    let below = state_below (other c.of_state-side.result) (c.in-Some.state / 2) (nodes_of H) (omega arith) in
    let at = c.state.ensures ∙ ap (λ side. state_of side (c.in-Some.state / 2)) c.other.ensures in
    let same = ap (λ (y : WeightSearch). length y.known.items) popped.2 in
    let known = on.sizes.known in
    omega arith

pub settle-requires-clause-rank : goal.settle-requires-clause-rank
settle-requires-clause-rank c =
    let low = key_state c.args.self.now.queue c.in-Some.state c.in-Some.weight c.in-Some.ensures.0.has in
    let size = (c.requires.weighing.sides Up).sizes.queue in
    omega arith

pub overflow_add-weight : goal.overflow_add-weight
overflow_add-weight c =
    let H = c.args.hierarchy.now in
    let m = c.requires.weighing in
    let on = m.sides Up in
    let popped = c.in-Some.ensures in
    let low = key_state c.args.self.now.queue c.in-Some.state c.in-Some.weight popped.0.has in
    let size = on.sizes.queue in
    let n = node_of_rank H on.levelled (c.in-Some.state / 2) (omega arith) in
    let at = c.state.ensures ∙ (λ i. state_of (c.other.ensures i) (sym n.2 i)) in
    let read = read_there H c.args.ends c.args.self.now c.pop_below.new.self m c.in-Some.state popped.2 (other c.of_state-side.result) n.0
    c.state.result n.1 at c.index-there.result.now c.index-there.ensures in
    let there = there_small H c.args.ends c.args.self.now m (other c.of_state-side.result) n.0 c.index-there.result.now n.1 read in
    let small = c.requires.small in
    let less = popped.1 in
    omega arith

pub settle-requires-clause-weighing : goal.settle-requires-clause-weighing
settle-requires-clause-weighing c v within at =
    let popped = c.in-Some.ensures in
    let side = c.of_state-side.result in
    subst (λ (y : WeightSearch). IsWeighingAt c.args.hierarchy.now c.args.ends side y v c.in-Some.weight) (sym popped.2)
    (pop_weighs c.args.hierarchy.now c.args.ends side c.args.self.now (c.requires.weighing.sides side) v c.in-Some.weight c.in-Some.state
    within
    (c.of_state-side.ensures ∙ ap (state_of side) (sym at)) popped.0)

pub returns-clause-least : goal.returns-clause-least
returns-clause-least c =
    let H = c.args.hierarchy.now in
    let m = c.requires.weighing in
    let on = m.sides Up in
    let x = c.args.self.now in
    let z = c.settle.new.self in
    let side = c.of_state-side.result in
    let popped = c.in-Some.ensures in
    let after = c.settle.ensures in
    let low = key_state x.queue c.in-Some.state c.in-Some.weight popped.0.has in
    let size = on.sizes.queue in
    let n = node_of_rank H on.levelled (c.in-Some.state / 2) (omega arith) in
    let is = c.of_state-side.ensures ∙ ap (state_of side) (sym n.2) in
    let at = c.state.ensures ∙ (λ i. state_of (c.other.ensures i) (sym n.2 i)) in
    let there = c.index-there.result.now in
    let read = read_there H c.args.ends x c.pop_below.new.self m c.in-Some.state popped.2 (other side) n.0 c.state.result n.1 at there
    c.index-there.ensures in
    let gone = subst (λ y. HasGoneOn H c.args.ends side y z) popped.2 after.gone in
    let min = c.min.ensures in
    least_then H c.args.ends x z c.args.least.now c.requires side n.0 c.in-Some.weight c.in-Some.state n.1 is popped.0 gone there read
    c.min.result (omega arith) (omega arith)
    (elim (cases_lt c.args.least.now (c.in-Some.weight + there)) [ inl lt ↦ inl (omega arith) | inr ge ↦ inr (omega arith) ])

pub returns-clause-less : goal.returns-clause-less
returns-clause-less c _ =
    let H = c.args.hierarchy.now in
    let on = c.requires.weighing.sides Up in
    let side = c.of_state-side.result in
    let popped = c.in-Some.ensures in
    let low = key_state c.args.self.now.queue c.in-Some.state c.in-Some.weight popped.0.has in
    let size = on.sizes.queue in
    let n = node_of_rank H on.levelled (c.in-Some.state / 2) (omega arith) in
    states_fall H c.args.ends c.args.self.now c.settle.new.self c.args.least.now c.requires side n.0 c.in-Some.weight c.in-Some.state n.1
    (c.of_state-side.ensures ∙ ap (state_of side) (sym n.2)) popped.0
    (subst (λ y. HasGoneOn H c.args.ends side y c.settle.new.self) popped.2 c.settle.ensures.gone)
