-- A pass to the root finds the least weights.
use Rattle.std.proofs.Common.{ℕ, ◌+◌, ◌<◌, ◌≤◌, List, [], ◌∷◌, Contains, sym, subst, arith}
use Rattle.std.proofs.lemmas.List.Sums.{sum_by-cons}
use Rattle.ch_graph.specs.declared.limits.TheConstants.{MOST_WEIGHT}
use Rattle.ch_hierarchy.specs.declared.leg.Leg.{Leg}
use Rattle.ch_hierarchy.specs.declared.side.Side.{Side}
use Rattle.ch_hierarchy.specs.Rows.{row}
use Rattle.ch_hierarchy.specs.Hierarchy.{LevelsAndLegs, nodes_of, IsLevelled}
use Rattle.ch_hierarchy.specs.Ranked.{rank_of}
use Rattle.ch_hierarchy.specs.Side.{rows_of}
use Rattle.ch_hierarchy.specs.Paths.{IsUpwardPath, path_cost}
use Rattle.ch_graph.proofs.Lists.{contains_map}
use Rattle.ch_query.specs.Weighed.{weighed, weighed_leg}
use Rattle.ch_query.proofs.one_side.Expanding.{leg_up}
use Rattle.ch_query.proofs.one_side.WeighedPaths.{weighed_row, reached_weight}
use Rattle.ch_tree.specs.Tree.{weight_at, IsSweptTo, AreUpCosts}

module _ (H : LevelsAndLegs) (k : IsLevelled H) (side : Side) (parents : List ℕ) (s : ℕ) (s_low : s < nodes_of H) (bound : ℕ)
    (costs : List ℕ) (sw : IsSweptTo H side parents s bound 0 costs) (most : ℕ) (below : most < bound)
    (light_most : most ≤ MOST_WEIGHT) where
  -- going on from a known node costs at least what is known at the end
  onward : (u v w : ℕ) (legs : List Leg) → u < nodes_of H → IsUpwardPath (rows_of H side) u v legs → weight_at costs (rank_of H u) ≤ w →
      w + (path_cost legs).weight ≤ most →
      weight_at costs (rank_of H v) ≤ w + (path_cost legs).weight
  onward u v w [] lt path known light = subst (λ z. weight_at costs (rank_of H z) ≤ w + 0) path (omega arith)
  onward u v w (l ∷ legs) lt path known light =
      let sum = sum_by-cons (λ (q : Leg). q.cost.weight) l legs in
      let up = leg_up H k side u l path.0 in
      let has : Contains (row (rows_of (weighed H) side) u) (weighed_leg l) =
      subst (λ q. Contains q (weighed_leg l)) (sym (weighed_row H side u)) (contains_map weighed_leg (row (rows_of H side) u) l path.0) in
      let one = sw.taken u (weighed_leg l) lt (omega arith) (omega arith) has (omega arith) in
      let rest = onward l.node v (w + l.cost.weight) legs up.node path.1 (omega arith) (omega arith) in
      omega arith

  -- the pass finds the least weights
  pub up_costs_least : AreUpCosts H side s most costs
  up_costs_least = record {
    found = λ v lt known. reached_weight H side s v _ (sw.sound v lt known);
    least = λ v legs lt path light. let start = sw.start in let low = onward s v 0 legs s_low path (omega arith) (omega arith) in
        omega arith;
  }
