-- A route is a least walk, and it is the only route.
use Rattle.std.proofs.Common.{◌≡◌, ℕ, List, [], ◌∷◌, ◌++◌, refl, sym, ◌∙◌, ap, subst, arith, inl, inr}
use Rattle.ch_graph.specs.declared.arc.InArc.{InArc}
use Rattle.ch_graph.specs.declared.cost.Cost.{Cost}
use Rattle.ch_graph.specs.Cost.{cost_sum}
use Rattle.ch_graph.specs.Graph.{Network, IsWithinLimits}
use Rattle.ch_graph.specs.Walk.{IsWalk, IsLeast, cost_of, weight_of}
use Rattle.ch_graph.proofs.CostOrder.{IsAtMost_antisymm}
use Rattle.ch_graph.proofs.CostSums.{cost_sum_comm}
use Rattle.ch_graph.proofs.WalkLemmas.{walk_append}
use Rattle.ch_graph.proofs.WalkCosts.{cost_of-append}
use Rattle.ch_hierarchy.specs.Hierarchy.{LevelsAndLegs, IsLevelled}
use Rattle.ch_hierarchy.specs.Kept.{IsKept}
use Rattle.ch_hierarchy.specs.declared.side.Side.TheVariants.{Up, Down}
use Rattle.ch_hierarchy.proofs.theory.KeptWalks.{meetings_are_distances}
use Rattle.ch_query.specs.declared.routes.Route.{Route}
use Rattle.ch_query.specs.Routes.{DescentStep, IsDescent, AreUpArcs, AreDownArcs, IsRoute, IsLeastWalk}
use Rattle.ch_query.proofs.routing.Rows.{rows_ordered}
use Rattle.ch_query.proofs.routing.DescentLaws.{steps_cost, steps_cost-cons, descent_cost, descent_one}
use Rattle.ch_query.proofs.routing.Unpacked.{unpacked_one, unpacked_walk}

module _ (g : Network) (H : LevelsAndLegs) (kept : IsKept g H) where
  -- the arcs of the steps up to m are a walk of their cost
  pub up_walk : (s m : ℕ) (steps : List DescentStep) (arcs : List InArc) → IsDescent H.up s m steps → AreUpArcs H steps arcs →
      IsWalk g s m arcs × (cost_of arcs ≡ steps_cost steps)
  up_walk s m [] arcs d e = (subst (IsWalk g s m) (sym e) (sym d), ap cost_of e)
  up_walk s m (step ∷ steps) arcs d are =
      let last = d.1.last in
      let front = up_walk s step.low steps are.0 d.2 are.2 in
      let here = unpacked_walk g H kept are.3 step.leg.cost (step.leg, refl, refl, inl (last.0, refl)) refl in (
        subst (IsWalk g s m) (sym are.4)
            (walk_append g s step.low m are.0 are.1 front.0 (subst (λ q. IsWalk g step.low q are.1) last.1 here.0)),
        ap cost_of are.4 ∙ cost_of-append are.0 are.1 ∙ ap (λ q. cost_sum q (cost_of are.1)) front.1
            ∙ ap (cost_sum (steps_cost steps)) here.1 ∙ sym (steps_cost-cons step steps),
      )

  -- the arcs of the steps down from m are a walk of their cost
  pub down_walk : (t m : ℕ) (steps : List DescentStep) (arcs : List InArc) → IsDescent H.down t m steps → AreDownArcs H steps arcs →
      IsWalk g m t arcs × (cost_of arcs ≡ steps_cost steps)
  down_walk t m [] arcs d e = (subst (IsWalk g m t) (sym e) d, ap cost_of e)
  down_walk t m (step ∷ steps) arcs d are =
      let last = d.1.last in
      let back = down_walk t step.low steps are.1 d.2 are.3 in
      let here = unpacked_walk g H kept are.2 step.leg.cost (step.leg, refl, refl, inr (last.0, refl)) refl in (
        subst (IsWalk g m t) (sym are.4)
            (walk_append g m step.low t are.0 are.1 (subst (λ q. IsWalk g q step.low are.0) last.1 here.0) back.0),
        ap cost_of are.4 ∙ cost_of-append are.0 are.1 ∙ ap (λ q. cost_sum q (cost_of are.1)) here.1 ∙ ap (cost_sum step.leg.cost) back.1
            ∙ cost_sum_comm step.leg.cost (steps_cost steps) ∙ sym (steps_cost-cons step steps),
      )

  -- a route is a least walk, and has its weight
  pub route_least_walk : IsWithinLimits g → (s t : ℕ) (route : Route) → IsRoute H s t route →
      IsLeastWalk g s t route.arcs × (route.weight ≡ weight_of route.arcs)
  route_least_walk limits s t route r =
      let m = r.meets.meets in
      let up = up_walk s r.meet r.ups r.first r.rise r.up_arcs in
      let down = down_walk t r.meet r.downs r.second r.fall r.down_arcs in
      let first = up.1 ∙ descent_cost H.up s r.meet r.ups m.0 r.rise m.2 in
      let second = down.1 ∙ descent_cost H.down t r.meet r.downs m.1 r.fall m.3 in
      let cost : cost_of route.arcs ≡ r.cost =
      ap cost_of r.arcs ∙ cost_of-append r.first r.second ∙ ap (λ q. cost_sum q (cost_of r.second)) first ∙ ap (cost_sum m.0) second
      ∙ m.4 in (
        record {
          walk = subst (IsWalk g s t) (sym r.arcs) (walk_append g s r.meet t r.first r.second up.0 down.0);
          least = subst (IsLeast g s t) (sym cost) ((meetings_are_distances g H limits kept).meet s t r.meet r.cost r.meets);
        },
        r.weight ∙ sym (ap (λ (q : Cost). q.weight) cost),
      )

module _ (H : LevelsAndLegs) (k : IsLevelled H) where
  -- the arcs of the steps up are determined
  up_arcs_one : (steps : List DescentStep) (xs ys : List InArc) → AreUpArcs H steps xs → AreUpArcs H steps ys → xs ≡ ys
  up_arcs_one [] xs ys a b = a ∙ sym b
  up_arcs_one (step ∷ steps) xs ys a b =
      let front = up_arcs_one steps a.0 b.0 a.2 b.2 in
      let here = unpacked_one H k a.3 b.3 in
      a.4 ∙ (λ i. front i ++ here i) ∙ sym b.4

  -- the arcs of the steps down are determined
  down_arcs_one : (steps : List DescentStep) (xs ys : List InArc) → AreDownArcs H steps xs → AreDownArcs H steps ys → xs ≡ ys
  down_arcs_one [] xs ys a b = a ∙ sym b
  down_arcs_one (step ∷ steps) xs ys a b =
      let here = unpacked_one H k a.2 b.2 in
      let back = down_arcs_one steps a.1 b.1 a.3 b.3 in
      a.4 ∙ (λ i. here i ++ back i) ∙ sym b.4

  -- two routes are equal
  pub route_one : (s t : ℕ) (a b : Route) → IsRoute H s t a → IsRoute H s t b → a ≡ b
  route_one s t a b p q =
      let ge = p.meets.least q.meet q.cost q.meets.meets in
      let le = q.meets.least p.meet p.cost p.meets.meets in
      let cost : p.cost ≡ q.cost = IsAtMost_antisymm p.cost q.cost ge.0 le.0 in
      let low = ge.1 (sym cost) in
      let high = le.1 cost in
      let meet : p.meet ≡ q.meet = omega arith in
      let ups = descent_one H.up s (rows_ordered H k Up) p.meet p.ups q.ups p.rise
      (subst (λ m. IsDescent H.up s m q.ups) (sym meet) q.rise) in
      let downs = descent_one H.down t (rows_ordered H k Down) p.meet p.downs q.downs p.fall
      (subst (λ m. IsDescent H.down t m q.downs) (sym meet) q.fall) in
      let first = up_arcs_one p.ups p.first q.first p.up_arcs (subst (λ steps. AreUpArcs H steps q.first) (sym ups) q.up_arcs) in
      let second = down_arcs_one p.downs p.second q.second p.down_arcs
      (subst (λ steps. AreDownArcs H steps q.second) (sym downs) q.down_arcs) in
      let weight : a.weight ≡ b.weight = p.weight ∙ ap (λ (c : Cost). c.weight) cost ∙ sym q.weight in
      let arcs : a.arcs ≡ b.arcs = p.arcs ∙ (λ i. first i ++ second i) ∙ sym q.arcs in
      λ i. record { weight = weight i; arcs = arcs i }
