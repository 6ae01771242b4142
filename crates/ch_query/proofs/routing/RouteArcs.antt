-- The pending legs of both ways back, and the route of their arcs.
use Rattle.std.proofs.Common.{◌≡◌, ℕ, zero, suc, ◌+◌, List, [], ◌∷◌, map, reverse, refl, sym, ◌∙◌, ap, subst, arith, inl, inr}
use Rattle.std.specs.List.Sorted.{IsPermutation}
use Rattle.std.proofs.lemmas.List.{reverse-append}
use Rattle.std.proofs.lemmas.List.Elements.{Contains-append_cases}
use Rattle.std.proofs.lemmas.List.Sorted.{sum_by-IsPermutation, Contains-permutation, IsPermutation-sym}
use Rattle.std.proofs.lemmas.List.Sums.{sum_by-cons, sum_by-append}
use Rattle.ch_graph.specs.declared.arc.InArc.{InArc}
use Rattle.ch_graph.specs.declared.cost.Cost.{Cost}
use Rattle.ch_hierarchy.specs.declared.leg.Leg.{Leg}
use Rattle.ch_hierarchy.specs.Hierarchy.{LevelsAndLegs}
use Rattle.ch_hierarchy.specs.Paths.{IsLeastUpwardPath, IsMeet}
use Rattle.ch_hierarchy.specs.declared.side.Side.{Side}
use Rattle.ch_hierarchy.specs.declared.side.Side.TheVariants.{Up, Down}
use Rattle.ch_hierarchy.specs.Side.{rows_of}
use Rattle.ch_query.specs.declared.routes.unpacking.PendingLeg.{PendingLeg}
use Rattle.ch_query.specs.Routes.{DescentStep, IsDescent, AreUpArcs, AreDownArcs, IsRoute}
use Rattle.ch_query.specs.Unpacking.{IsPending, ArePending, pending_arcs, ArePendingArcs}
use Rattle.ch_query.specs.Descents.{pending_of, IsTraced}
use Rattle.ch_query.proofs.routing.DescentLaws.{steps_cost, descent_cost}
use Rattle.ch_query.proofs.routing.DescentSteps.{step_pending, step_arcs}
use Rattle.ch_query.proofs.routing.PendingLegs.{pending_arcs_append, pending_arcs_pop}

-- the legs of chosen steps are legs of the hierarchy
steps_pending : (H : LevelsAndLegs) (side : Side) (a x : ℕ) (steps : List DescentStep) → IsDescent (rows_of H side) a x steps →
    ArePending H (map (pending_of side) steps)
steps_pending H side a x [] d p (i, lt, e) = absurd (omega arith)
steps_pending H side a x (step ∷ steps) d p (zero, lt, e) = subst (IsPending H) e (step_pending H side step d.1.last.0)
steps_pending H side a x (step ∷ steps) d p (suc i, lt, e) = steps_pending H side a step.low steps d.2 p (i, omega arith, e)

-- they stand for as many arcs as the steps cost
steps_arcs : (side : Side) (steps : List DescentStep) → pending_arcs (map (pending_of side) steps) ≡ (steps_cost steps).arcs
steps_arcs side [] = refl
steps_arcs side (step ∷ steps) =
    let rest = steps_arcs side steps in
    let here = step_arcs side step in
    let one = sum_by-cons (λ (p : PendingLeg). p.cost.arcs) (pending_of side step) (map (pending_of side) steps) in
    let two = sum_by-cons (λ (k : Leg). k.cost.arcs) step.leg (map (λ (s : DescentStep). s.leg) steps) in
    omega arith

-- a way back appends legs of the hierarchy
pub traced_pending : (H : LevelsAndLegs) (side : Side) (s m : ℕ) (old new : List PendingLeg) → IsTraced H side s m old new →
    ArePending H old → ArePending H new
traced_pending H side s m old new t are = subst (ArePending H) (sym t.pushed)
    (λ p has. elim (Contains-append_cases old (map (pending_of side) t.steps) p has) [
      | inl before ↦ are p before
      | inr after ↦ steps_pending H side s m t.steps t.descent p after
    ])

-- they stand for as many arcs as the least cost of the meet has
pub traced_arcs : (H : LevelsAndLegs) (side : Side) (s m : ℕ) (c : Cost) → IsLeastUpwardPath (rows_of H side) s m c →
    (old new : List PendingLeg) → IsTraced H side s m old new → pending_arcs new ≡ pending_arcs old + c.arcs
traced_arcs H side s m c least old new t =
    let all = ap pending_arcs t.pushed in
    let parts = sum_by-append (λ (p : PendingLeg). p.cost.arcs) old (map (pending_of side) t.steps) in
    let steps = steps_arcs side t.steps in
    let cost = ap (λ (q : Cost). q.arcs) (descent_cost (rows_of H side) s m t.steps c t.descent least) in
    omega arith

-- reversed, they are legs of the hierarchy
pub turned_pending : (H : LevelsAndLegs) (old new : List PendingLeg) → IsPermutation old new → ArePending H old → ArePending H new
turned_pending H old new same are p has = are p (Contains-permutation new old p (IsPermutation-sym old new same) has)

-- reversed, they stand for as many arcs
pub turned_arcs : (old new : List PendingLeg) → IsPermutation old new → pending_arcs new ≡ pending_arcs old
turned_arcs old new same = sum_by-IsPermutation (λ p. p.cost.arcs) old new same

module _ (H : LevelsAndLegs) where
  -- the arcs of the legs of steps up from s
  are_up_arcs : (steps : List DescentStep) (arcs : List InArc) → ArePendingArcs H (map (pending_of Up) steps) arcs → AreUpArcs H steps arcs
  are_up_arcs [] arcs a = a
  are_up_arcs (step ∷ steps) arcs a = (a.0, a.1, are_up_arcs steps a.0 a.2, a.3, a.4)

  -- the arcs of the legs of steps down to t, reversed
  are_down_arcs : (steps : List DescentStep) (arcs : List InArc) → ArePendingArcs H (reverse (map (pending_of Down) steps)) arcs →
      AreDownArcs H steps arcs
  are_down_arcs [] arcs a = a
  are_down_arcs (step ∷ steps) arcs a =
      let turn = reverse-append (pending_of Down step ∷ []) (map (pending_of Down) steps) in
      let r = pending_arcs_pop H (reverse (map (pending_of Down) steps)) (pending_of Down step) arcs
      (subst (λ q. ArePendingArcs H q arcs) turn a) in
      (r.0, r.1, r.2, are_down_arcs steps r.1 r.3, r.4)

-- a way up and a way down over the meet: their arcs make the route
pub route_traced : (H : LevelsAndLegs) (s t m : ℕ) (c : Cost) → IsMeet H s t m c → (falling turned both : List PendingLeg) →
    IsTraced H Down t m [] falling → turned ≡ reverse falling → IsTraced H Up s m turned both → (arcs : List InArc) →
    ArePendingArcs H both arcs → IsRoute H s t (record { weight = c.weight; arcs = arcs })
route_traced H s t m c meet falling turned both fall turn rise arcs are =
    let parts = pending_arcs_append H turned (map (pending_of Up) rise.steps) arcs (subst (λ q. ArePendingArcs H q arcs) rise.pushed are) in
    record {
      meet = m;
      cost = c;
      meets = meet;
      weight = refl;
      ups = rise.steps;
      downs = fall.steps;
      rise = rise.descent;
      fall = fall.descent;
      first = parts.0;
      second = parts.1;
      up_arcs = are_up_arcs H rise.steps parts.0 parts.2;
      down_arcs = are_down_arcs H fall.steps parts.1 (subst (λ q. ArePendingArcs H q parts.1) (turn ∙ ap reverse fall.pushed) parts.3);
      arcs = parts.4;
    }
