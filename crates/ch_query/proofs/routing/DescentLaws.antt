-- The steps from a node back down to the source cost the least cost of the node, and are determined.
use Rattle.std.proofs.Common.{◌≡◌, ℕ, List, [], ◌∷◌, map, Contains, refl, sym, ◌∙◌, ap, subst, arith}
use Rattle.ch_graph.specs.declared.cost.Cost.{Cost}
use Rattle.ch_graph.specs.Cost.{IsAtMost, cost_sum, no_cost}
use Rattle.ch_graph.proofs.CostOrder.{same_costs}
use Rattle.ch_graph.proofs.CostSums.{cost_sum_comm}
use Rattle.ch_hierarchy.specs.declared.leg.Leg.{Leg}
use Rattle.ch_hierarchy.specs.Rows.{row, IsRow}
use Rattle.ch_hierarchy.specs.Paths.{path_cost, IsLeastUpwardPath}
use Rattle.ch_hierarchy.proofs.theory.LegPaths.{path_cost-cons}
use Rattle.ch_query.specs.Routes.{DescentStep, IsDescent}
use Rattle.ch_query.proofs.one_side.Parents.{least_same}
use Rattle.ch_query.proofs.routing.Rows.{row_one}

-- the sum of the costs of the legs of the steps
abbrev pub steps_cost : List DescentStep → Cost
steps_cost steps = path_cost (map (λ step. step.leg) steps)

-- one more step adds the cost of its leg
pub steps_cost-cons : (step : DescentStep) (steps : List DescentStep) →
    steps_cost (step ∷ steps) ≡ cost_sum (steps_cost steps) step.leg.cost
steps_cost-cons step steps =
    path_cost-cons step.leg (map (λ (s : DescentStep). s.leg) steps) ∙ cost_sum_comm step.leg.cost (steps_cost steps)

module _ (rows : List (List Leg)) (a : ℕ) where
  -- the cost of the steps back from x is the least cost of x
  pub descent_cost : (x : ℕ) (steps : List DescentStep) (c : Cost) → IsDescent rows a x steps → IsLeastUpwardPath rows a x c →
      steps_cost steps ≡ c
  descent_cost x [] c d l =
      let low : IsAtMost c no_cost = l.least [] (sym d) (omega arith) in
      let w = low.0 in
      let arcs = low.1 (omega arith) in
      same_costs _ _ (omega arith) (omega arith)
  descent_cost x (step ∷ steps) c d l =
      let last = d.1.last in
      steps_cost-cons step steps ∙ ap (λ q. cost_sum q step.leg.cost) (descent_cost step.low steps last.2 d.2 last.3)
      ∙ least_same rows a x _ c last.4 l

  -- two ways back from x are equal
  pub descent_one : ((v : ℕ) → IsRow (row rows v)) → (x : ℕ) (ks ls : List DescentStep) → IsDescent rows a x ks → IsDescent rows a x ls →
      ks ≡ ls
  descent_one order x [] [] d e = refl
  descent_one order x [] (l ∷ ls) d e = absurd (e.0 d)
  descent_one order x (k ∷ ks) [] d e = absurd (d.0 e)
  descent_one order x (k ∷ ks) (l ∷ ls) d e =
      let le = d.1.least l.low l.leg e.1.last in
      let ge = e.1.least k.low k.leg d.1.last in
      let low : k.low ≡ l.low = omega arith in
      let leg : k.leg ≡ l.leg = row_one (row rows k.low) (order k.low) k.leg l.leg d.1.last.0
      (subst (λ q. Contains (row rows q) l.leg) (sym low) e.1.last.0)
      (d.1.last.1 ∙ sym e.1.last.1) in
      let rest : ks ≡ ls = descent_one order k.low ks ls d.2 (subst (λ q. IsDescent rows a q ls) (sym low) e.2) in
      λ i. record { low = low i; leg = leg i } ∷ rest i
