-- At the end of a search by weights the least sum is the least weight.
use Rattle.std.proofs.Common.{◌≡◌, ℕ, ◌<◌, ◌≤◌, Some, None, refl, ap, subst, arith}
use Rattle.std.specs.Option.{option_map}
use Rattle.std.proofs.lemmas.Option.{same_Some, none-some}
use Rattle.ch_graph.specs.declared.cost.Cost.{Cost}
use Rattle.ch_graph.specs.Cost.{cost_at}
use Rattle.ch_hierarchy.specs.Hierarchy.{LevelsAndLegs}
use Rattle.ch_hierarchy.specs.Ranked.{rank_of}
use Rattle.ch_hierarchy.specs.declared.side.Side.{Side}
use Rattle.ch_hierarchy.specs.declared.side.Side.TheVariants.{Up, Down}
use Rattle.ch_hierarchy.specs.Side.{state_of}
use Rattle.ch_graph.specs.declared.cost.TheConstants.{UNREACHED}
use Rattle.ch_query.specs.declared.question.Ends.{Ends}
use Rattle.ch_query.specs.declared.weights.search.WeightSearch.{WeightSearch}
use Rattle.ch_query.specs.Distance.{IsKeptForSome, IsLeastWeight}
use Rattle.ch_query.specs.Weighed.{IsWeightSearchTo, IsWeightSearch, IsWeightSeen, IsWeightFound, IsPastWeight}
use Rattle.ch_query.specs.Weights.{weight_cost, side_costs, side_keys, source_of, IsLeastSoFar, AreKeysFrom}
use Rattle.ch_query.proofs.two_sides.WeighedSearches.{weighed_least}
use Rattle.ch_query.proofs.by_weight.States.{by_state-some, key_weight}

module _ (H : LevelsAndLegs) (k : IsKeptForSome H) (ends : Ends) (x : WeightSearch) (least : ℕ) (s : IsLeastSoFar H ends x least)
    (past : AreKeysFrom x.queue least) where
  -- each side is a search of all paths
  pub all_paths : (side : Side) → IsWeightSearch H side (source_of ends side) (side_costs H side x) (side_keys H side x)
  all_paths side = subst (λ m. IsWeightSearchTo m H side (source_of ends side) (side_costs H side x) (side_keys H side x))
      s.weighing.most (s.weighing.sides side).search

  -- each remaining key is at least the least sum
  key_from : (side : Side) (v : ℕ) (d : Cost) → cost_at (side_keys H side x) v ≡ Some d → least ≤ d.weight
  key_from side v d e =
      let there = by_state-some (option_map weight_cost) H side x.queue None v d e in
      let key = key_weight _ d there.1 in
      let low = past (state_of side (rank_of H v)) key.0 key.1 in
      let is = ap (λ (q : Cost). q.weight) key.2 in
      omega arith

  -- the case where there is a sum
  module _ (known : least < UNREACHED) where
    seen : IsWeightSeen (side_costs H Up x) (side_keys H Up x) (side_costs H Down x) (side_keys H Down x) (Some least)
    seen v a b up down = (least, refl, s.seen v a b up down)

    found : IsWeightFound H ends.start ends.end (Some least)
    found e is =
        let same : least ≡ e = same_Some _ _ is in
        let f = s.found known in
        (f.0, f.1, f.2, f.3, f.4, omega (arith, f.5))

    past_by : (side : Side) → IsPastWeight (side_keys H side x) (Some least)
    past_by side v d e = (least, refl, key_from side v d e)

    -- the sum is the least weight
    pub least_known : IsLeastWeight H ends.start ends.end (Some least)
    least_known = weighed_least H k ends.start ends.end (Some least) _ _ _ _ (all_paths Up) (all_paths Down) seen found (past_by Up)
        (past_by Down)

  -- the case where there is no sum
  module _ (none : least ≡ UNREACHED) where
    not_seen : IsWeightSeen (side_costs H Up x) (side_keys H Up x) (side_costs H Down x) (side_keys H Down x) None
    not_seen v a b up down =
        let sum = s.seen v a b up down in
        let here = (all_paths Up).light v a up.0 in
        let there = (all_paths Down).light v b down.0 in
        absurd (omega arith)

    not_past : (side : Side) → IsPastWeight (side_keys H side x) None
    not_past side v d e =
        let low = key_from side v d e in
        let light = (all_paths side).light v d ((all_paths side).queued v d e) in
        absurd (omega arith)

    -- no node is reached from both ends
    pub none_known : IsLeastWeight H ends.start ends.end None
    none_known = weighed_least H k ends.start ends.end None _ _ _ _ (all_paths Up) (all_paths Down) not_seen
        (λ e is. absurd (none-some e is)) (not_past Up) (not_past Down)
