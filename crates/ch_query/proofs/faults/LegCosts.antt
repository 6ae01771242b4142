-- The costs of the legs of rows.
use Rattle.std.proofs.Common.{eqb, ◌≡◌, ℕ, ◌<◌, ◌≤◌, List, Contains, Option, Some, None, refl, sym, ◌∙◌, ap, subst, arith, inl, inr}
use Rattle.std.specs.Prelude.{slice_index, ◌↔◌, Bool, true, false, not, IsTrue, ◌&&◌}
use Rattle.std.proofs.lemmas.Bool.{false≢true, eqb-true}
use Rattle.ch_graph.specs.declared.limits.TheConstants.{MOST_WEIGHT}
use Rattle.ch_graph.specs.declared.cost.Cost.{Cost}
use Rattle.ch_graph.specs.declared.saved.SavedLeg.{SavedLeg}
use Rattle.ch_graph.specs.Cost.{IsAtMost, IsBelow, cost_sum}
use Rattle.ch_graph.proofs.CostOrder.{same_costs, IsAtMost_or_IsBelow, IsBelow_not}
use Rattle.ch_graph.proofs.Numbers.{eqb-refl}
use Rattle.ch_hierarchy.specs.declared.leg.Leg.{Leg}
use Rattle.ch_hierarchy.specs.Hierarchy.{LevelsAndLegs, nodes_of, IsLevelled}
use Rattle.ch_hierarchy.specs.Kept.{IsLeg}
use Rattle.ch_hierarchy.specs.Rows.{row}
use Rattle.ch_hierarchy.specs.Turned.{turned_hierarchy}
use Rattle.ch_hierarchy.specs.declared.side.Side.{Side}
use Rattle.ch_hierarchy.specs.declared.side.Side.TheVariants.{Up, Down}
use Rattle.ch_hierarchy.specs.Side.{rows_of}
use Rattle.ch_hierarchy.proofs.theory.Turned.{turned_levelled, turned_leg}
use Rattle.ch_query.specs.Checking.{IsRowCost, IsLegCost, HasLeg, IsSumOver}
use Rattle.ch_query.proofs.one_side.Expanding.{leg_up}
use Rattle.ch_query.proofs.routing.Rows.{row_one, rows_ordered}

-- if a conjunction of tests holds, each test holds
both_true : (a b : Bool) → (a && b) ≡ true → (a ≡ true) × (b ≡ true)
both_true true b e = (refl, e)
both_true false b e = absurd (false≢true e)

-- the test of equality of two costs is correct
pub equal_costs : (a b : Cost) (r : Bool) → r ≡ (eqb a.weight b.weight && eqb a.arcs b.arcs) → IsTrue r ↔ (a ≡ b)
equal_costs a b r is = (
  λ yes. let both = both_true _ _ (sym is ∙ yes) in same_costs a b (eqb-true _ _ both.0) (eqb-true _ _ both.1),
  λ same. is ∙ subst (λ (q : Cost). (eqb a.weight q.weight && eqb a.arcs q.arcs) ≡ true) same
      (λ i. eqb-refl a.weight i && eqb-refl a.arcs i),
)

-- the only leg decides whether there is one within the bound
pub within_some : (H : LevelsAndLegs) (u w : ℕ) (most c : Cost) (r : Bool) → IsLegCost H u w (Some c) → (IsTrue r ↔ IsBelow most c) →
    IsTrue (not r) ↔ HasLeg H u w most
within_some H u w most c true ((m, leg), one) tells =
    (λ no. absurd (false≢true no), λ h. absurd (IsBelow_not most c (tells.0 refl) (subst (λ q. IsAtMost q most) (one h.0 h.1 h.2) h.3)))
within_some H u w most c false ((m, leg), one) tells = (λ _. (c, m, leg, within), λ _. refl)
  where
    within : IsAtMost c most
    within = elim (IsAtMost_or_IsBelow c most) [
      | inl le ↦ le
      | inr below ↦ absurd (false≢true (tells.1 below))
    ]

-- if there is no leg, there is none within the bound
pub within_none : (H : LevelsAndLegs) (u w : ℕ) (most : Cost) → IsLegCost H u w None → HasLeg H u w most → ⊥
within_none H u w most none (c, m, leg, le) = none c m leg

module _ (H : LevelsAndLegs) (k : IsLevelled H) where
  -- the leg to a node that is no lower is in the up row
  pub cost_up : (u w : ℕ) → slice_index H.level u ≤ slice_index H.level w → (legs : List Leg) → legs ≡ row H.up u → (answer : Option Cost) →
      IsRowCost legs w answer → IsLegCost H u w answer
  cost_up u w le legs is None none = λ c m leg. at leg
    where
      at : {c : Cost} {m : Option ℕ} → IsLeg H u w c m → ⊥
      at (l, cost, middle, inl (has, node)) = none l (subst (λ xs. Contains xs l) (sym is) has) node
      at (l, cost, middle, inr (has, node)) = let rise = (leg_up H k Down w l has).higher in
          let e = ap (slice_index H.level) node in omega arith
  cost_up u w le legs is (Some c) (l, has, node, cost) = ((l.middle, (l, cost, refl, inl (here, node))), λ d m leg. at leg)
    where
      here : Contains (row H.up u) l
      here = subst (λ xs. Contains xs l) is has

      at : {d : Cost} {m : Option ℕ} → IsLeg H u w d m → d ≡ c
      at (x, xcost, middle, inl (xhas, xnode)) =
          sym xcost ∙ ap (λ (q : Leg). q.cost) (row_one (row H.up u) (rows_ordered H k Up u) x l xhas here (xnode ∙ sym node)) ∙ cost
      at (x, xcost, middle, inr (xhas, xnode)) =
          absurd (let rise = (leg_up H k Down w x xhas).higher in let e = ap (slice_index H.level) xnode in omega arith)

-- the cost of a leg is its cost in the other direction
leg_cost_turned : (H : LevelsAndLegs) (u w : ℕ) (answer : Option Cost) → IsLegCost (turned_hierarchy H) w u answer → IsLegCost H u w answer
leg_cost_turned H u w None none = λ c m leg. none c m (turned_leg H u w c m leg)
leg_cost_turned H u w (Some c) (one, same) =
    ((one.0, turned_leg (turned_hierarchy H) w u c one.0 one.1), λ d m leg. same d m (turned_leg H u w d m leg))

-- the leg from a node that is no lower is in the down row
pub cost_down : (H : LevelsAndLegs) (k : IsLevelled H) (u w : ℕ) → slice_index H.level w ≤ slice_index H.level u →
    (legs : List Leg) → legs ≡ row H.down w →
    (answer : Option Cost) → IsRowCost legs u answer → IsLegCost H u w answer
cost_down H k u w le legs is answer cost =
    leg_cost_turned H u w answer (cost_up (turned_hierarchy H) (turned_levelled H k) w u le legs is answer cost)

module _ (H : LevelsAndLegs) (k : IsLevelled H) where
  -- if the middle has both legs, the leg is their sum exactly if the costs add up
  pub sums_over : (leg : SavedLeg) (v : ℕ) (down up : List Leg) → down ≡ row H.down v → up ≡ row H.up v → (into out : Cost) →
      IsRowCost down leg.from (Some into) → IsRowCost up leg.to (Some out) →
      (cost_sum into out ≡ leg.cost → IsSumOver H leg v) × (IsSumOver H leg v → cost_sum into out ≡ leg.cost)
  sums_over leg v down up isd isu into out (a, hasa, ata, costa) (b, hasb, atb, costb) = (
    λ e. (a, b, herea, ata, hereb, atb, sym e ∙ sym (λ i. cost_sum (costa i) (costb i))),
    λ s. both s,
  )
    where
      herea : Contains (row H.down v) a
      herea = subst (λ xs. Contains xs a) isd hasa

      hereb : Contains (row H.up v) b
      hereb = subst (λ xs. Contains xs b) isu hasb

      both : IsSumOver H leg v → cost_sum into out ≡ leg.cost
      both (x, y, hasx, atx, hasy, aty, e) =
          let p : x.cost ≡ into = ap (λ (q : Leg). q.cost)
          (row_one (row H.down v) (rows_ordered H k Down v) x a hasx herea (atx ∙ sym ata)) ∙ costa in
          let q : y.cost ≡ out = ap (λ (q : Leg). q.cost)
          (row_one (row H.up v) (rows_ordered H k Up v) y b hasy hereb (aty ∙ sym atb)) ∙ costb in
          sym (e ∙ (λ i. cost_sum (p i) (q i)))

  -- the cost of a leg of a row is within the limits
  pub cost_bounds : (side : Side) (v x : ℕ) (legs : List Leg) → legs ≡ row (rows_of H side) v → (c : Cost) → IsRowCost legs x (Some c) →
      (c.weight ≤ MOST_WEIGHT) × (c.arcs < nodes_of H)
  cost_bounds side v x legs is c (l, has, node, cost) =
      let up = leg_up H k side v l (subst (λ xs. Contains xs l) is has) in
      subst (λ (q : Cost). (q.weight ≤ MOST_WEIGHT) × (q.arcs < nodes_of H)) cost (up.weight, up.arcs)
