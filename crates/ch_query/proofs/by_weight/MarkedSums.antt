-- The rank of the least sum, and the marks of both sides, after a state was settled.
use Rattle.std.proofs.Common.{◌≡◌, ℕ, ◌+◌, ◌*◌, ◌<◌, List, length, sym, ◌∙◌, ap, subst, arith, get_or, inl, inr}
use Rattle.ch_graph.specs.declared.cost.TheConstants.{UNREACHED}
use Rattle.ch_graph.specs.declared.cost.Cost.{Cost}
use Rattle.ch_graph.specs.Cost.{cost_at}
use Rattle.ch_hierarchy.specs.Hierarchy.{LevelsAndLegs, nodes_of}
use Rattle.ch_hierarchy.specs.Ranked.{rank_of}
use Rattle.ch_hierarchy.specs.declared.side.Side.{Side}
use Rattle.ch_hierarchy.specs.declared.side.Side.TheVariants.{Up, Down}
use Rattle.ch_hierarchy.specs.Side.{other, state_of}
use Rattle.ch_query.specs.declared.question.Ends.{Ends}
use Rattle.ch_query.specs.declared.weights.search.WeightSearch.{WeightSearch}
use Rattle.ch_query.specs.declared.weights.marked.LeastSum.{LeastSum}
use Rattle.ch_query.specs.Marks.{Allows, AreMarked, KeepsMarks, IsAdded, IsLeastMarked}
use Rattle.ch_query.specs.Search.{IsSettled}
use Rattle.ch_query.specs.Weights.{side_costs, side_keys, IsLeastSoFar, IsLeastState, HasGoneOn, IsUnsettled, without_state}
use Rattle.ch_query.proofs.by_weight.Known.{known_weight}
use Rattle.ch_query.proofs.by_weight.Marking.{marked_stays}
use Rattle.ch_query.proofs.by_weight.WeighingPops.{pop_settled}
use Rattle.ch_query.proofs.by_weight.WeighingSums.{each_side, known_there, least_then, other_side, seen_from}

-- the rank of the least sum allows each node that has this sum, seen from one side
abbrev MeetsOn : LevelsAndLegs → WeightSearch → LeastSum → Side → Type 0
MeetsOn H x least side = (u : ℕ) (a b : Cost) → IsSettled (side_costs H side x) (side_keys H side x) u a →
    IsSettled (side_costs H (other side) x) (side_keys H (other side) x) u b → a.weight + b.weight ≡ least.weight →
    Allows least.rank (rank_of H u)

-- what holds from the side up holds from each side
meets_from : (H : LevelsAndLegs) (x : WeightSearch) (least : LeastSum) → MeetsOn H x least Up → (side : Side) → MeetsOn H x least side
meets_from H x least meets Up = meets
meets_from H x least meets Down = λ u a b here there sum. meets u b a there here (omega arith)

-- what holds from one side holds from the side up
meets_up : (H : LevelsAndLegs) (x : WeightSearch) (least : LeastSum) (side : Side) → MeetsOn H x least side → MeetsOn H x least Up
meets_up H x least Up meets = meets
meets_up H x least Down meets = λ u a b here there sum. meets u b a there here (omega arith)

-- what allows a tie or another mark allows what that mark allows
allows_then : (new old rank : ℕ) → Allows new old → Allows old rank → Allows new rank
allows_then new old rank (inl tied) allows = inl tied
allows_then new old rank (inr same) allows = subst (λ q. Allows q rank) (sym same) allows

-- before a state is settled no sum is known
pub marked_begun : (H : LevelsAndLegs) (ends : Ends) (x : WeightSearch) (marks : List ℕ) (least : LeastSum) → least.weight ≡ UNREACHED →
    length marks ≡ 2 * nodes_of H → IsLeastSoFar H ends x UNREACHED → IsUnsettled H x → IsLeastMarked H ends x marks least
marked_begun H ends x marks least none count sum unsettled = record {
  sum = subst (IsLeastSoFar H ends x) (sym none) sum;
  count = count;
  marked = λ side u c settled. absurd (unsettled side u c settled);
  meets = λ v a b up down e. absurd (unsettled Up v a up);
}

-- x settles the node v on one side, goes on from there, and becomes z; the other side may know v at the weight `there`
module _ (H : LevelsAndLegs) (ends : Ends) (x z : WeightSearch) (marks marks' : List ℕ) (least least' : LeastSum)
    (m : IsLeastMarked H ends x marks least)
    (side : Side) (v weight state : ℕ) (within : v < nodes_of H) (is : state ≡ state_of side (rank_of H v))
    (l : IsLeastState x.queue (weight, state)) (g : HasGoneOn H ends side (without_state x state) z)
    (there : ℕ) (at_there : there ≡ get_or x.known.items (state_of (other side) (rank_of H v)) UNREACHED)
    (rank : ℕ) (at_rank : rank_of H v ≡ rank) (added : IsAdded least (weight + there) rank least')
    (marked : AreMarked H ends side z marks') (kept : KeepsMarks (other side) marks marks') where
  -- the rank allows each node that has the new sum
  meets : MeetsOn H z least' side
  meets u a b here over sum =
      let s = m.sum in
      let others = other_side H ends x z least.weight s side v weight state within is l g in
      let old : IsSettled (side_costs H (other side) x) (side_keys H (other side) x) u b =
      (sym (ap (λ q. cost_at q u) others.costs) ∙ over.0, sym (ap (λ q. cost_at q u) others.keys) ∙ over.1) in
      elim (pop_settled H ends side x (s.weighing.sides side) v weight state within is l u a (g.settled u a here)) [
        | inl was ↦
            let le = seen_from H ends x least.weight s side u a b was old in
            let low = added.low.0 in
            let stays : least'.weight ≡ least.weight = omega arith in
            allows_then least'.rank least.rank (rank_of H u) (added.kept stays)
            (meets_from H x least m.meets side u a b was old (sum ∙ stays))
        | inr new ↦
            let known = known_there H ends x z least.weight s side v weight state within is l g there at_there least'.weight added.low.0
            added.low.1
            added.either in
            let b_there = known_weight there b (sym known ∙ ap (cost_at (side_costs H (other side) x)) (sym new.0) ∙ old.0) in
            let a_here = ap (λ (q : Cost). q.weight) new.1 in
            let at : rank_of H u ≡ rank = ap (λ (q : ℕ). rank_of H q) new.0 ∙ at_rank in
            let is_sum : least'.weight ≡ weight + there = omega arith in
            subst (λ (q : ℕ). Allows least'.rank q) (sym at) (added.here is_sum)
      ]

  -- the new sum and the new marks are those of the search so far
  pub marked_then : IsLeastMarked H ends z marks' least'
  marked_then =
      let s = m.sum in
      let others = other_side H ends x z least.weight s side v weight state within is l g in
      let low = added.low in
      let sizes = kept.count in
      let count = m.count in
      record {
        sum = least_then H ends x z least.weight s side v weight state within is l g there at_there least'.weight low.0 low.1 added.either;
        count = sizes ∙ count;
        marked = each_side side (λ q. AreMarked H ends q z marks') marked
            (marked_stays H ends (other side) x z marks marks' others kept (m.marked (other side)));
        meets = meets_up H z least' side meets;
      }
