-- Paths over the legs of a hierarchy, with legs up and legs down in any order.
use Rattle.std.proofs.Common.{◌≡◌, ℕ, ◌<◌, ◌≤◌, List, [], ◌∷◌, ◌++◌, length, Contains, Option, refl, sym, ◌∙◌, ap, subst, arith, inl, inr}
use Rattle.std.specs.Prelude.{◌⊎◌, slice_index}
use Rattle.std.proofs.lemmas.Bool.{cases_lt}
use Rattle.std.proofs.lemmas.List.{get_or_past}
use Rattle.std.proofs.lemmas.List.Elements.{All-contains}
use Rattle.std.proofs.lemmas.List.Sums.{sum_by-cons, sum_by-append}
use Rattle.ch_graph.specs.declared.cost.Cost.{Cost}
use Rattle.ch_graph.specs.Cost.{IsAtMost, cost_sum, no_cost}
use Rattle.ch_graph.specs.Graph.{Network}
use Rattle.ch_graph.specs.WalkLaws.{IsWalkCost}
use Rattle.ch_graph.proofs.CostOrder.{same_costs, IsAtMost_refl}
use Rattle.ch_graph.proofs.CostSums.{cost_sum_assoc, cost_sum_comm, cost_sum-no_cost, no_cost-cost_sum}
use Rattle.ch_graph.proofs.WalkCosts.{IsWalkCost-no_cost, IsWalkCost-cost_sum}
use Rattle.ch_hierarchy.specs.declared.leg.Leg.{Leg}
use Rattle.ch_hierarchy.specs.Rows.{row}
use Rattle.ch_hierarchy.specs.Hierarchy.{LevelsAndLegs, nodes_of, IsLegUp, AreLegsUp, IsLevelled}
use Rattle.ch_hierarchy.specs.Paths.{IsUpwardPath, path_cost, IsMeeting}
use Rattle.ch_hierarchy.specs.Kept.{IsLeg, IsKept}
use Rattle.ch_hierarchy.specs.Turned.{turned_graph}
use Rattle.ch_hierarchy.proofs.theory.Turned.{turned_walk, walk_turned}

-- one leg in front adds its cost
pub path_cost-cons : (l : Leg) (legs : List Leg) → path_cost (l ∷ legs) ≡ cost_sum l.cost (path_cost legs)
path_cost-cons l legs = same_costs _ _ (sum_by-cons (λ (k : Leg). k.cost.weight) l legs) (sum_by-cons (λ (k : Leg). k.cost.arcs) l legs)

-- the costs of two paths add up
pub path_cost-append : (xs ys : List Leg) → path_cost (xs ++ ys) ≡ cost_sum (path_cost xs) (path_cost ys)
path_cost-append xs ys = same_costs _ _ (sum_by-append (λ (k : Leg). k.cost.weight) xs ys) (sum_by-append (λ (k : Leg). k.cost.arcs) xs ys)

-- if each leg of a row is a walk from the row's node, each path along the rows is a walk
pub rises_along : (g : Network) (rows : List (List Leg)) → ((v : ℕ) (l : Leg) → Contains (row rows v) l → IsWalkCost g v l.node l.cost) →
    (a b : ℕ) (legs : List Leg) → IsUpwardPath rows a b legs → IsWalkCost g a b (path_cost legs)
rises_along g rows walk a b [] p = subst (λ q. IsWalkCost g a q no_cost) p (IsWalkCost-no_cost g a)
rises_along g rows walk a b (l ∷ legs) p =
    let on = IsWalkCost-cost_sum g a l.node b l.cost (path_cost legs) (walk a l p.0) (rises_along g rows walk l.node b legs p.1) in
    subst (IsWalkCost g a b) (sym (path_cost-cons l legs)) on

-- if each leg of a row is a walk to the row's node, each path along the rows is a walk back
pub falls_along : (g : Network) (rows : List (List Leg)) → ((v : ℕ) (l : Leg) → Contains (row rows v) l → IsWalkCost g l.node v l.cost) →
    (a b : ℕ) (legs : List Leg) → IsUpwardPath rows a b legs → IsWalkCost g b a (path_cost legs)
falls_along g rows walk a b legs p =
    walk_turned g b a _ (rises_along (turned_graph g) rows (λ v l has. turned_walk g l.node v l.cost (walk v l has)) a b legs p)

module _ (H : LevelsAndLegs) where
  -- the legs lead from s to t, over nodes of level at least k
  abbrev pub IsHighPath : ℕ → ℕ → ℕ → List Leg → Type 0
  IsHighPath k s t [] = (s ≡ t) × (k ≤ slice_index H.level t)
  IsHighPath k s t (l ∷ legs) = IsLeg H s l.node l.cost l.middle × (k ≤ slice_index H.level s) × IsHighPath k l.node t legs

  -- there is such a path that costs at most c
  pub record HasHighPath (k s t : ℕ) (c : Cost) : Type 0 where
    pub legs : List Leg
    pub is_path : IsHighPath k s t legs
    pub cheap : IsAtMost (path_cost legs) c

  -- there is a path from m to t over nodes of level at least k that costs c
  pub record HasPathOfCost (k m t : ℕ) (c : Cost) : Type 0 where
    pub legs : List Leg
    pub is_path : IsHighPath k m t legs
    pub cost : path_cost legs ≡ c

  -- the start has level at least k
  pub high_start : (k s t : ℕ) (legs : List Leg) → IsHighPath k s t legs → k ≤ slice_index H.level s
  high_start k s t [] h = let e = ap (slice_index H.level) h.0 in omega (arith, h.1)
  high_start k s t (l ∷ legs) h = h.1

  -- the end has level at least k
  pub high_end : (k s t : ℕ) (legs : List Leg) → IsHighPath k s t legs → k ≤ slice_index H.level t
  high_end k s t [] h = h.1
  high_end k s t (l ∷ legs) h = high_end k l.node t legs h.2

  -- a path and a path from its end together are a path
  pub high_append : (k s m t : ℕ) (xs ys : List Leg) → IsHighPath k s m xs → IsHighPath k m t ys → IsHighPath k s t (xs ++ ys)
  high_append k s m t [] ys h g = subst (λ q. IsHighPath k q t ys) (sym h.0) g
  high_append k s m t (x ∷ xs) ys h g = (h.0, h.1, high_append k x.node m t xs ys h.2 g)

  -- a path that costs c, cut before its last leg
  pub record HasLastLeg (k s t : ℕ) (c : Cost) : Type 0 where
    pub node : ℕ
    pub front : List Leg
    pub last : Leg
    pub is_path : IsHighPath k s node front
    pub is_leg : IsLeg H node t last.cost last.middle
    pub cost : c ≡ cost_sum (path_cost front) last.cost

  -- each path that is not empty can be cut before its last leg
  pub last_leg : (k s t : ℕ) (x : Leg) (xs : List Leg) → IsHighPath k s t (x ∷ xs) → HasLastLeg k s t (path_cost (x ∷ xs))
  last_leg k s t x [] h = record {
    node = s;
    front = [];
    last = x;
    is_path = (refl, h.1);
    is_leg = subst (λ q. IsLeg H s q x.cost x.middle) h.2.0 h.0;
    cost = path_cost-cons x [] ∙ cost_sum-no_cost x.cost ∙ sym (no_cost-cost_sum x.cost);
  }
  last_leg k s t x (y ∷ ys) h =
      let rest = last_leg k x.node t y ys h.2 in
      record {
        node = rest.node;
        front = x ∷ rest.front;
        last = rest.last;
        is_path = (h.0, h.1, rest.is_path);
        is_leg = rest.is_leg;
        cost = path_cost-cons x (y ∷ ys) ∙ ap (cost_sum x.cost) rest.cost
            ∙ sym (cost_sum_assoc x.cost (path_cost rest.front) rest.last.cost)
            ∙ ap (λ c. cost_sum c rest.last.cost) (sym (path_cost-cons x rest.front));
      }

  -- a leg up from u to w, which is in a row of u
  abbrev pub Rises : ℕ → ℕ → Cost → Type 0
  Rises u w c = (l : Leg) × Contains (row H.up u) l × (l.node ≡ w) × (l.cost ≡ c) × (slice_index H.level u < slice_index H.level w)

  -- a leg down from u to w, which is in a row of w
  abbrev pub Falls : ℕ → ℕ → Cost → Type 0
  Falls u w c = (l : Leg) × Contains (row H.down w) l × (l.node ≡ u) × (l.cost ≡ c) × (slice_index H.level w < slice_index H.level u)

module _ (H : LevelsAndLegs) where
  -- a level is at most the number of nodes
  pub level_most : IsLevelled H → (v : ℕ) → slice_index H.level v ≤ nodes_of H
  level_most is v = elim (cases_lt v (length H.level)) [
    | inl node ↦ (is.levels.0 v 0 node).1
    | inr past ↦ (let none = get_or_past H.level v 0 past in omega arith)
  ]

  -- a leg of rows whose legs lead to higher nodes
  pub leg_of_rows : (rows : List (List Leg)) → AreLegsUp H rows → (v : ℕ) (l : Leg) → Contains (row rows v) l → IsLegUp H v l
  leg_of_rows rows are v l has = All-contains (IsLegUp H v) (row rows v) l (are.1 v).1 has

module _ (g : Network) (H : LevelsAndLegs) (kept : IsKept g H) where
  -- an up leg of a node
  pub up_leg : (v : ℕ) (l : Leg) → Contains (row H.up v) l → IsLegUp H v l
  up_leg = leg_of_rows H H.up kept.levelled.up

  -- a down leg of a node
  pub down_leg : (v : ℕ) (l : Leg) → Contains (row H.down v) l → IsLegUp H v l
  down_leg = leg_of_rows H H.down kept.levelled.down

  -- the nodes of an upward path have at least the level of its start
  pub up_high : (k a b : ℕ) (legs : List Leg) → IsUpwardPath H.up a b legs → k ≤ slice_index H.level a → IsHighPath H k a b legs
  up_high k a b [] p low = (p, subst (λ q. k ≤ slice_index H.level q) p low)
  up_high k a b (l ∷ legs) p low =
      let higher = (up_leg a l p.0).higher in ((l, refl, refl, inl (p.0, refl)), low, up_high k l.node b legs p.1 (omega arith))

  -- an upward path along the down rows is a path back, whose nodes have at least the level of its end
  pub down_high : (k t m : ℕ) (legs : List Leg) → IsUpwardPath H.down t m legs → k ≤ slice_index H.level t →
      HasPathOfCost H k m t (path_cost legs)
  down_high k t m [] p low = record { legs = []; is_path = (sym p, low); cost = refl }
  down_high k t m (l ∷ legs) p low =
      let higher = (down_leg t l p.0).higher in
      let between : k ≤ slice_index H.level l.node = omega arith in
      let rest = down_high k l.node m legs p.1 between in
      let back : Leg = record l { node = t } in
      record {
        legs = rest.legs ++ back ∷ [];
        is_path = high_append H k m l.node t rest.legs (back ∷ []) rest.is_path ((l, refl, refl, inr (p.0, refl)), between, (refl, low));
        cost = path_cost-append rest.legs (back ∷ [])
            ∙ ap (cost_sum (path_cost rest.legs)) (path_cost-cons back [] ∙ cost_sum-no_cost l.cost)
            ∙ cost_sum_comm (path_cost rest.legs) l.cost ∙ ap (cost_sum l.cost) rest.cost ∙ sym (path_cost-cons l legs);
      }

  -- going up and then down gives a path whose nodes have at least the level of the lower end
  pub meeting_high : (k s t m : ℕ) (c : Cost) → IsMeeting H s t m c → k ≤ slice_index H.level s → k ≤ slice_index H.level t →
      HasHighPath H k s t c
  meeting_high k s t m c h ls lt =
      let up = h.2.path in
      let down = h.3.path in
      let back = down_high k t m down.0 down.1 lt in
      record {
        legs = up.0 ++ back.legs;
        is_path = high_append H k s m t up.0 back.legs (up_high k s m up.0 up.1 ls) back.is_path;
        cheap = subst (IsAtMost (path_cost (up.0 ++ back.legs)))
            (path_cost-append up.0 back.legs ∙ ap (λ x. cost_sum x (path_cost back.legs)) up.2
            ∙ ap (cost_sum h.0) (back.cost ∙ down.2) ∙ h.4)
            (IsAtMost_refl (path_cost (up.0 ++ back.legs)));
      }

  -- each leg leads up or down
  pub rises_or_falls : (u w : ℕ) (c : Cost) (middle : Option ℕ) → IsLeg H u w c middle → Rises H u w c ⊎ Falls H u w c
  rises_or_falls u w c middle (l, cost, same, inl (has, node)) =
      inl (l, has, node, cost, subst (λ q. slice_index H.level u < slice_index H.level q) node (up_leg u l has).higher)
  rises_or_falls u w c middle (l, cost, same, inr (has, node)) =
      inr (l, has, node, cost, subst (λ q. slice_index H.level w < slice_index H.level q) node (down_leg w l has).higher)
