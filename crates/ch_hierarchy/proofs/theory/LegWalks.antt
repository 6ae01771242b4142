-- Each leg of a kept hierarchy stands for a walk of its cost, and so does each path of legs.
use Rattle.std.proofs.Common.{ℕ, zero, suc, ◌+◌, ◌<◌, List, Contains, Option, Some, None, refl, sym, ap, subst, arith, inl, inr}
use Rattle.std.specs.Prelude.{◌⊎◌, slice_index}
use Rattle.ch_graph.specs.declared.cost.Cost.{Cost}
use Rattle.ch_graph.specs.declared.arc.InArc.{InArc}
use Rattle.ch_graph.specs.Graph.{Network}
use Rattle.ch_graph.specs.WalkLaws.{IsWalkCost, arc_cost}
use Rattle.ch_graph.proofs.CostOrder.{same_costs}
use Rattle.ch_graph.proofs.WalkCosts.{IsWalkCost-arc, IsWalkCost-cost_sum}
use Rattle.ch_hierarchy.specs.declared.leg.Leg.{Leg}
use Rattle.ch_hierarchy.specs.Rows.{row}
use Rattle.ch_hierarchy.specs.Hierarchy.{LevelsAndLegs}
use Rattle.ch_hierarchy.specs.Paths.{IsUpwardPath, path_cost}
use Rattle.ch_hierarchy.specs.Kept.{IsKept, IsLeg, IsFounded}
use Rattle.ch_hierarchy.proofs.theory.LegPaths.{up_leg, down_leg, rises_along, falls_along}

module _ (g : Network) (H : LevelsAndLegs) (kept : IsKept g H) where
  -- the legs of the nodes whose level is below n are walks
  AreWalks : ℕ → Type 0
  AreWalks n = ((v : ℕ) (l : Leg) → slice_index H.level v < n → Contains (row H.up v) l → IsWalkCost g v l.node l.cost)
      × ((v : ℕ) (l : Leg) → slice_index H.level v < n → Contains (row H.down v) l → IsWalkCost g l.node v l.cost)

  -- a leg that is founded on legs of lower nodes is a walk
  founded_walk : (n : ℕ) → AreWalks n → (u w : ℕ) (c : Cost) (middle : Option ℕ) →
      (slice_index H.level u < suc n) ⊎ (slice_index H.level w < suc n) →
      IsFounded g H u w c middle → IsWalkCost g u w c
  unfolding AreWalks
  founded_walk n walks u w c None low f =
      let arc : InArc = record { from = u; to = w; weight = c.weight } in
      subst (IsWalkCost g u w) (same_costs (arc_cost arc) c refl (sym f.0)) (IsWalkCost-arc g arc f.1)
  founded_walk n walks u w c (Some v) low f =
      let a = f.0 in
      let b = f.1 in
      let first = (down_leg g H kept v a f.2).higher in
      let second = (up_leg g H kept v b f.4).higher in
      let au = ap (slice_index H.level) f.3 in
      let bw = ap (slice_index H.level) f.5 in
      let under : slice_index H.level v < n = elim low [ inl x ↦ omega arith | inr y ↦ omega arith ] in
      subst (IsWalkCost g u w) (sym f.6) (IsWalkCost-cost_sum g u v w a.cost b.cost
      (subst (λ q. IsWalkCost g q v a.cost) f.3 (walks.1 v a under f.2)) (subst (λ q. IsWalkCost g v q b.cost) f.5 (walks.0 v b under f.4)))

  -- each leg is a walk, by recursion on the level of its lower end
  are_walks : (n : ℕ) → AreWalks n
  unfolding AreWalks
  are_walks zero = (λ v l low has. absurd (omega arith), λ v l low has. absurd (omega arith))
  are_walks (suc n) =
      let rest = are_walks n in (
        λ v l low has. founded_walk n rest v l.node l.cost l.middle (inl low)
            (kept.founded v l.node l.cost l.middle (l, refl, refl, inl (has, refl))),
        λ v l low has. founded_walk n rest l.node v l.cost l.middle (inr low)
            (kept.founded l.node v l.cost l.middle (l, refl, refl, inr (has, refl))),
      )

  -- an up leg is a walk
  pub up_walk : (v : ℕ) (l : Leg) → Contains (row H.up v) l → IsWalkCost g v l.node l.cost
  unfolding AreWalks
  up_walk v l has = (are_walks (slice_index H.level v + 1)).0 v l (omega arith) has

  -- a down leg is a walk
  pub down_walk : (v : ℕ) (l : Leg) → Contains (row H.down v) l → IsWalkCost g l.node v l.cost
  unfolding AreWalks
  down_walk v l has = (are_walks (slice_index H.level v + 1)).1 v l (omega arith) has

  -- each leg is a walk of its cost
  pub leg_walk : (u w : ℕ) (c : Cost) (middle : Option ℕ) → IsLeg H u w c middle → IsWalkCost g u w c
  leg_walk u w c middle (l, cost, same, inl (has, node)) =
      subst (IsWalkCost g u w) cost (subst (λ q. IsWalkCost g u q l.cost) node (up_walk u l has))
  leg_walk u w c middle (l, cost, same, inr (has, node)) =
      subst (IsWalkCost g u w) cost (subst (λ q. IsWalkCost g q w l.cost) node (down_walk w l has))

  -- an upward path is a walk
  pub rises : (a b : ℕ) (legs : List Leg) → IsUpwardPath H.up a b legs → IsWalkCost g a b (path_cost legs)
  rises = rises_along g H.up up_walk

  -- an upward path along the down rows is a walk back
  pub falls : (a b : ℕ) (legs : List Leg) → IsUpwardPath H.down a b legs → IsWalkCost g b a (path_cost legs)
  falls = falls_along g H.down down_walk
