-- The least sum after a state was settled.
use Rattle.std.proofs.Common.{◌≡◌, ℕ, ◌+◌, ◌<◌, ◌≤◌, Some, None, sym, ◌∙◌, ap, subst, arith, get_or, inl, inr}
use Rattle.std.specs.Prelude.{◌⊎◌}
use Rattle.std.proofs.lemmas.Bool.{cases_eq}
use Rattle.std.proofs.lemmas.List.{get_or_default}
use Rattle.ch_graph.specs.declared.cost.Cost.{Cost}
use Rattle.ch_graph.specs.Cost.{cost_at}
use Rattle.ch_hierarchy.specs.Hierarchy.{LevelsAndLegs, nodes_of}
use Rattle.ch_hierarchy.specs.Ranked.{rank_of}
use Rattle.ch_hierarchy.specs.declared.side.Side.{Side}
use Rattle.ch_hierarchy.specs.declared.side.Side.TheVariants.{Up, Down}
use Rattle.ch_hierarchy.specs.Side.{rows_of, other, state_of}
use Rattle.ch_hierarchy.proofs.code.Ranked.{rank_below}
use Rattle.ch_graph.specs.declared.cost.TheConstants.{UNREACHED}
use Rattle.ch_query.specs.declared.question.Ends.{Ends}
use Rattle.ch_query.specs.declared.weights.search.WeightSearch.{WeightSearch}
use Rattle.ch_query.specs.Search.{IsSettled, IsUpwardCost, count_unsettled}
use Rattle.ch_query.specs.Weighed.{weighed}
use Rattle.ch_query.specs.Weights.{known_cost, weight_cost, side_costs, side_keys, source_of, IsWeighingOn, IsWeighing}
use Rattle.ch_query.specs.Weights.{IsSameSide, HasGoneOn, IsLeastState, IsLeastSoFar, count_unsettled_on}
use Rattle.ch_query.specs.Weights.{count_unsettled_states, without_state}
use Rattle.ch_query.proofs.by_weight.Known.{reached_cost, known_weight}
use Rattle.ch_query.proofs.by_weight.States.{by_state-at, state_below}
use Rattle.ch_query.proofs.by_weight.WeighingPops.{least_on_side, pop_settled, pop_there, pop_falls}
use Rattle.ch_query.proofs.by_weight.WeighingSteps.{side_stays}

-- the weight read at the state of a node, after another state lost its key
pub read_there : (H : LevelsAndLegs) (ends : Ends) (x y : WeightSearch) → IsWeighing H ends x → (state : ℕ) → y ≡ without_state x state →
    (side : Side) (v at : ℕ) → v < nodes_of H → at ≡ state_of side (rank_of H v) →
    (there : ℕ) → there ≡ get_or y.known.items at there → there ≡ get_or x.known.items (state_of side (rank_of H v)) UNREACHED
read_there H ends x y m state is side v at within e there read =
    let low = state_below side (rank_of H v) (nodes_of H) (rank_below H (m.sides side).levelled v within) in
    let size = (m.sides side).sizes.known in
    read ∙ ap (λ (q : WeightSearch). get_or q.known.items at there) is ∙ ap (λ q. get_or x.known.items q there) e
    ∙ get_or_default x.known.items (state_of side (rank_of H v)) there UNREACHED (omega arith)

-- this weight is at most UNREACHED
pub there_small : (H : LevelsAndLegs) (ends : Ends) (x : WeightSearch) (m : IsWeighing H ends x) (side : Side) (v there : ℕ) →
    v < nodes_of H →
    there ≡ get_or x.known.items (state_of side (rank_of H v)) UNREACHED → there ≤ UNREACHED
there_small H ends x m side v there within read = elim (cases_eq there UNREACHED) [
  | inl same ↦ omega arith
  | inr away ↦
      let known = by_state-at known_cost H side x.known.items UNREACHED None v within ∙ ap known_cost (sym read)
      ∙ reached_cost there away in
      let light = (m.sides side).search.light v (weight_cost there) known in
      let most = m.most in
      omega arith
]

-- e is the sum of two paths, one on each side, that meet
abbrev IsSumOver : LevelsAndLegs → Ends → Side → ℕ → Type 0
IsSumOver H ends side e =
    (v : ℕ) × (a b : Cost) × IsUpwardCost (rows_of (weighed H) side) (source_of ends side) v a
    × IsUpwardCost (rows_of (weighed H) (other side)) (source_of ends (other side)) v b × (a.weight + b.weight ≡ e)

-- such a sum can be seen from either side
sum_up : (H : LevelsAndLegs) (ends : Ends) (side : Side) (e : ℕ) → IsSumOver H ends side e → IsSumOver H ends Up e
sum_up H ends Up e sum = sum
sum_up H ends Down e (v, a, b, here, there, is) = (v, b, a, there, here, omega arith)

-- the least sum is at most each settled sum, seen from either side
pub seen_from : (H : LevelsAndLegs) (ends : Ends) (x : WeightSearch) (least : ℕ) → IsLeastSoFar H ends x least →
    (side : Side) (u : ℕ) (a b : Cost) →
    IsSettled (side_costs H side x) (side_keys H side x) u a →
    IsSettled (side_costs H (other side) x) (side_keys H (other side) x) u b → least ≤ a.weight + b.weight
seen_from H ends x least s Up u a b here there = s.seen u a b here there
seen_from H ends x least s Down u a b here there = let le = s.seen u b a there here in omega arith

-- if this holds from one side, it holds from the side up
seen_up : (H : LevelsAndLegs) (z : WeightSearch) (least : ℕ) (side : Side) →
    ((u : ℕ) (a b : Cost) → IsSettled (side_costs H side z) (side_keys H side z) u a →
    IsSettled (side_costs H (other side) z) (side_keys H (other side) z) u b → least ≤ a.weight + b.weight) →
    (u : ℕ) (a b : Cost) → IsSettled (side_costs H Up z) (side_keys H Up z) u a →
    IsSettled (side_costs H Down z) (side_keys H Down z) u b → least ≤ a.weight + b.weight
seen_up H z least Up seen u a b up down = seen u a b up down
seen_up H z least Down seen u a b up down = let le = seen u b a down up in omega arith

-- each side is this side or the other
pub each_side : (side : Side) (P : Side → Type 0) → P side → P (other side) → (s : Side) → P s
each_side Up P here there Up = here
each_side Up P here there Down = there
each_side Down P here there Up = there
each_side Down P here there Down = here

-- a number that falls on one side and stays on the other falls in total
sum_falls : (side : Side) (f g : Side → ℕ) → f side + 1 ≡ g side → f (other side) ≡ g (other side) → f Up + f Down < g Up + g Down
sum_falls Up f g here there = omega arith
sum_falls Down f g here there = omega arith

-- x settles the node v on one side, goes on from there, and becomes z; the other side may know v at the weight
-- `there`
module _ (H : LevelsAndLegs) (ends : Ends) (x z : WeightSearch) (least : ℕ) (s : IsLeastSoFar H ends x least) (side : Side)
    (v weight state : ℕ)
    (within : v < nodes_of H) (is : state ≡ state_of side (rank_of H v))
    (l : IsLeastState x.queue (weight, state)) (g : HasGoneOn H ends side (without_state x state) z) where
  -- the other side stays the same
  pub other_side : IsSameSide H (other side) x z
  other_side =
      record {
        costs = g.there.costs;
        keys = g.there.keys ∙ (pop_there H ends side x (s.weighing.sides side) v weight state within is
            l).keys;
      }

  -- the search goes on
  now_weighing : IsWeighing H ends z
  now_weighing = record {
    most = s.weighing.most;
    sides = each_side side (λ q. IsWeighingOn H ends q z) g.weighing
        (side_stays H ends (other side) x z (s.weighing.sides (other side)) other_side g.weighing.sizes);
  }

  -- one state fewer is unsettled
  pub states_fall : count_unsettled_states H z < count_unsettled_states H x
  states_fall =
      let falls = pop_falls H ends side x (s.weighing.sides side) v weight state within is l in
      let measure = g.measure in
      sum_falls side (λ q. count_unsettled_on H q z) (λ q. count_unsettled_on H q x) (omega arith)
      (ap (λ q. count_unsettled q (side_keys H (other side) z)) other_side.costs
      ∙ ap (count_unsettled (side_costs H (other side) x)) other_side.keys)

  -- the weight that this side knows of v
  known_here : cost_at (side_costs H side x) v ≡ Some (weight_cost weight)
  known_here = (s.weighing.sides side).search.queued v (weight_cost weight)
      (least_on_side H ends side x (s.weighing.sides side) v weight state within is l).has

  -- the other side knows v at the weight `there`, or not at all, and `now` is the new least sum
  module _ (there : ℕ) (at_there : there ≡ get_or x.known.items (state_of (other side) (rank_of H v)) UNREACHED)
      (now : ℕ) (low : now ≤ least) (sum : now ≤ weight + there) (either : (now ≡ least) ⊎ (now ≡ weight + there)) where
    pub known_there : cost_at (side_costs H (other side) x) v ≡ known_cost there
    known_there = by_state-at known_cost H (other side) x.known.items UNREACHED None v within ∙ ap known_cost (sym at_there)

    -- the new sum is at most that of each node that both sides have settled
    seen : (u : ℕ) (a b : Cost) → IsSettled (side_costs H side z) (side_keys H side z) u a →
        IsSettled (side_costs H (other side) z) (side_keys H (other side) z) u b → now ≤ a.weight + b.weight
    seen u a b here over =
        let old : IsSettled (side_costs H (other side) x) (side_keys H (other side) x) u b =
        (sym (ap (λ q. cost_at q u) other_side.costs) ∙ over.0, sym (ap (λ q. cost_at q u) other_side.keys) ∙ over.1) in
        elim (pop_settled H ends side x (s.weighing.sides side) v weight state within is l u a (g.settled u a here)) [
          | inl was ↦ let le = seen_from H ends x least s side u a b was old in omega arith
          | inr new ↦
              let b_there = known_weight there b (sym known_there ∙ ap (cost_at (side_costs H (other side) x)) (sym new.0) ∙ old.0) in
              let a_here = ap (λ (q : Cost). q.weight) new.1 in
              omega arith
        ]

    -- the sum at v is that of two paths
    found_there : now ≡ weight + there → now < UNREACHED → IsSumOver H ends side now
    found_there e lt =
        let known = known_there ∙ reached_cost there (λ far. omega arith) in (
          v,
          weight_cost weight,
          weight_cost there,
          (s.weighing.sides side).search.sound v (weight_cost weight) known_here,
          (s.weighing.sides (other side)).search.sound v (weight_cost there) known,
          sym e,
        )

    -- the new sum is that of two paths
    found : now < UNREACHED → IsSumOver H ends Up now
    found lt = elim either [
      | inl old ↦ subst (IsSumOver H ends Up) (sym old) (s.found (subst (λ q. q < UNREACHED) old lt))
      | inr new ↦ sum_up H ends side now (found_there new lt)
    ]

    -- the new sum is the least sum so far
    pub least_then : IsLeastSoFar H ends z now
    least_then = record {
      weighing = now_weighing;
      small = (let small = s.small in omega arith);
      seen = seen_up H z now side seen;
      found = found;
    }
