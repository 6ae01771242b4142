-- A least cost of a walk, or no walk: found by a search over the list of arcs, one arc at a time.
use Rattle.std.proofs.Common.{◌≡◌, ℕ, zero, suc, ◌≤◌, List, [], ◌∷◌, Contains, refl, sym, ◌∙◌, ap, subst, arith, inl, inr}
use Rattle.std.specs.Prelude.{◌⊎◌}
use Rattle.std.proofs.lemmas.Bool.{cases_eq}
use Rattle.ch_graph.specs.declared.arc.InArc.{InArc}
use Rattle.ch_graph.specs.declared.cost.Cost.{Cost}
use Rattle.ch_graph.specs.Cost.{IsAtMost, cost_sum, no_cost}
use Rattle.ch_graph.specs.Graph.{Network}
use Rattle.ch_graph.specs.Walk.{IsWalk, weight_of, cost_of, IsDistance, IsLeast, IsUnreachable}
use Rattle.ch_graph.specs.WalkLaws.{IsWalkCost, arc_cost}
use Rattle.ch_graph.proofs.CostOrder.{IsAtMost_refl, IsAtMost_trans, IsAtMost_or_IsBelow, IsBelow-IsAtMost, IsAtMost-no_cost}
use Rattle.ch_graph.proofs.CostSums.{IsAtMost-cost_sum, cost_sum_assoc, no_cost-cost_sum}
use Rattle.ch_graph.proofs.WalkCosts.{IsAtMost_between, IsAtMost-cost_sum_more, cost_of-cons, IsWalkCost-cost_sum, IsWalkCost-cons}
use Rattle.ch_graph.proofs.WalkCosts.{IsLeast-from, IsLeast-IsAtMost}

-- c is the least cost that has the property
pub record IsLeastWith (P : Cost → Type 0) (c : Cost) : Type 0 where
  pub has : P c
  pub least : (d : Cost) → P d → IsAtMost c d

-- there is a least cost with the property, or no cost has it
abbrev pub LeastOrNone : (Cost → Type 0) → Type 0
LeastOrNone P = ((c : Cost) × IsLeastWith P c) ⊎ ((c : Cost) → P c → ⊥)

-- if P and Q each have a least cost or none, so does their union
pub least_either : (P Q : Cost → Type 0) → LeastOrNone P → LeastOrNone Q → LeastOrNone (λ c. P c ⊎ Q c)
least_either P Q (inl p) (inl q) = elim (IsAtMost_or_IsBelow p.0 q.0) [
  | inl first ↦ inl (
    p.0,
    record {
      has = inl p.1.has;
      least =
          λ d h. elim h [ inl x ↦ p.1.least d x | inr y ↦ IsAtMost_trans _ _ _ first (q.1.least d y) ];
    },
  )
  | inr second ↦ inl (
    q.0,
    record {
      has = inr q.1.has;
      least =
          λ d h. elim h [ inl x ↦ IsAtMost_trans _ _ _ (IsBelow-IsAtMost _ _ second) (p.1.least d x) | inr y ↦ q.1.least d y ];
    },
  )
]
least_either P Q (inl p) (inr none) =
    inl (p.0, record { has = inl p.1.has; least = λ d h. elim h [ inl x ↦ p.1.least d x | inr y ↦ absurd (none d y) ] })
least_either P Q (inr none) (inl q) =
    inl (q.0, record { has = inr q.1.has; least = λ d h. elim h [ inl x ↦ absurd (none d x) | inr y ↦ q.1.least d y ] })
least_either P Q (inr none) (inr never) = inr (λ d h. elim h [ inl x ↦ none d x | inr y ↦ never d y ])

-- c is the sum of a cost with P and one with Q
abbrev pub IsSumOf : (P Q : Cost → Type 0) → Cost → Type 0
IsSumOf P Q c = (a b : Cost) × P a × Q b × (cost_sum a b ≡ c)

-- the least sum is the sum of the two least costs
pub least_sum : (P Q : Cost → Type 0) → LeastOrNone P → LeastOrNone Q → LeastOrNone (IsSumOf P Q)
least_sum P Q (inl p) (inl q) = inl (
  cost_sum p.0 q.0,
  record {
    has = (p.0, q.0, p.1.has, q.1.has, refl);
    least = λ d h. subst (IsAtMost (cost_sum p.0 q.0)) h.4 (IsAtMost-cost_sum _ _ _ _ (p.1.least h.0 h.2) (q.1.least h.1 h.3));
  },
)
least_sum P Q (inl p) (inr none) = inr (λ d h. none h.1 h.3)
least_sum P Q (inr none) q = inr (λ d h. none h.0 h.2)

-- if P has a least cost or none, so has R: each cost with P has R, and each cost with R has one with P that is no greater
pub least_among : (P R : Cost → Type 0) → ((c : Cost) → P c → R c) → ((c : Cost) → R c → (d : Cost) × P d × IsAtMost d c) → LeastOrNone P →
    LeastOrNone R
least_among P R to from (inl p) =
    inl (p.0, record { has = to p.0 p.1.has; least = λ d r. let q = from d r in IsAtMost_trans _ _ _ (p.1.least q.0 q.1) q.2 })
least_among P R to from (inr none) = inr (λ c r. let q = from c r in none q.0 q.1)

-- an arc of the list is its head or in its tail
Contains-head_or_tail : (a : InArc) (list : List InArc) (x : InArc) → Contains (a ∷ list) x → (a ≡ x) ⊎ Contains list x
Contains-head_or_tail a list x (zero, lt, e) = inl e
Contains-head_or_tail a list x (suc k, lt, e) = inr (k, omega arith, e)

-- an arc of the tail is one of the list
Contains-later : (a : InArc) (list : List InArc) (x : InArc) → Contains list x → Contains (a ∷ list) x
Contains-later a list x h = (suc h.0, omega (arith, h.1), h.2)

-- the empty list has no arc
Contains-none : (x : InArc) → Contains [] x → ⊥
Contains-none x h = omega (arith, h.1)

module _ (n : ℕ) where
  -- the graph with these arcs alone
  over : List InArc → Network
  over list = record { nodes = n; arcs = list }

  -- a walk stays a walk when an arc is added to the graph
  more_arcs : (a : InArc) (list : List InArc) (s t : ℕ) (xs : List InArc) → IsWalk (over list) s t xs → IsWalk (over (a ∷ list)) s t xs
  unfolding over
  more_arcs a list s t [] w = w
  more_arcs a list s t (x ∷ xs) w = (Contains-later a list x w.0, w.1, more_arcs a list x.to t xs w.2)

  module _ (a : InArc) (list : List InArc) where
    -- c is the cost of a walk that takes a once, and otherwise arcs of the list
    Once : (s t : ℕ) → Cost → Type 0
    Once s t = IsSumOf (IsWalkCost (over list) s a.from) (IsSumOf (λ d. d ≡ arc_cost a) (IsWalkCost (over list) a.to t))

    -- c is the cost of a walk that takes a at most once, and otherwise arcs of the list
    AtMostOnce : (s t : ℕ) → Cost → Type 0
    AtMostOnce s t c = IsWalkCost (over list) s t c ⊎ Once s t c

    -- a walk's cost stays one when an arc is added to the graph
    with_more : (s t : ℕ) (c : Cost) → IsWalkCost (over list) s t c → IsWalkCost (over (a ∷ list)) s t c
    with_more s t c w = (w.0, more_arcs a list s t w.0 w.1, w.2)

    -- these walks are walks over all the arcs
    walks_over : (s t : ℕ) (c : Cost) → AtMostOnce s t c → IsWalkCost (over (a ∷ list)) s t c
    unfolding over Once AtMostOnce
    walks_over s t c (inl w) = with_more s t c w
    walks_over s t c (inr h) =
        let back = h.3 in
        let rest = IsWalkCost-cons (over (a ∷ list)) a.from t a back.1 (0, omega arith, refl) refl (with_more a.to t back.1 back.3) in
        let cost : cost_sum (arc_cost a) back.1 ≡ h.1 = ap (λ q. cost_sum q back.1) (sym back.2) ∙ back.4 in
        subst (IsWalkCost (over (a ∷ list)) s t) h.4
        (IsWalkCost-cost_sum (over (a ∷ list)) s a.from t h.0 h.1 (with_more s a.from h.0 h.2)
        (subst (IsWalkCost (over (a ∷ list)) a.from t) cost rest))

    -- there is such a walk that costs at most c
    Reduced : (s t : ℕ) → Cost → Type 0
    Reduced s t c = (d : Cost) × AtMostOnce s t d × IsAtMost d c

    -- if a is taken first, a walk from its end that costs at most the rest is enough
    taken_first : (s t : ℕ) (x : InArc) (xs : List InArc) → a ≡ x → x.from ≡ s → (e : Cost) → IsWalkCost (over list) a.to t e →
        IsAtMost e (cost_of xs) →
        Reduced s t (cost_of (x ∷ xs))
    unfolding over Once AtMostOnce Reduced
    taken_first s t x xs same here e w le = (
      cost_sum no_cost (cost_sum (arc_cost a) e),
      inr (no_cost, cost_sum (arc_cost a) e, ([], sym here ∙ ap (λ y. y.from) (sym same), refl), (arc_cost a, e, refl, w, refl), refl),
      IsAtMost_between (no_cost-cost_sum (cost_sum (arc_cost a) e)) (cost_of-cons x xs)
          (IsAtMost-cost_sum _ _ _ _ (subst (λ y. IsAtMost (arc_cost a) (arc_cost y)) same (IsAtMost_refl (arc_cost a))) le),
    )

    -- if another arc is taken first, it goes in front of the rest
    taken_before : (s t : ℕ) (x : InArc) (xs : List InArc) → Contains list x → x.from ≡ s → Reduced x.to t (cost_of xs) →
        Reduced s t (cost_of (x ∷ xs))
    unfolding over Once AtMostOnce Reduced
    taken_before s t x xs has here (d, once, le) = (
      cost_sum (arc_cost x) d,
      before once,
      IsAtMost_between refl (cost_of-cons x xs) (IsAtMost-cost_sum _ _ _ _ (IsAtMost_refl (arc_cost x)) le),
    )
      where
        before : {e : Cost} → AtMostOnce x.to t e → AtMostOnce s t (cost_sum (arc_cost x) e)
        before {e} (inl w) = inl (IsWalkCost-cons (over list) s t x e has here w)
        before {e} (inr h) = inr (
          cost_sum (arc_cost x) h.0,
          h.1,
          IsWalkCost-cons (over list) s a.from x h.0 has here h.2,
          h.3,
          cost_sum_assoc (arc_cost x) h.0 h.1 ∙ ap (cost_sum (arc_cost x)) h.4,
        )

    -- the part after the last use of a costs no more than the whole walk
    after_last : (s t : ℕ) (c d : Cost) → Once s t d → IsAtMost d c → (e : Cost) × IsWalkCost (over list) a.to t e × IsAtMost e c
    unfolding Once
    after_last s t c d h le =
        let back = h.3 in
        let end = subst (IsAtMost back.1) back.4 (IsAtMost-cost_sum_more back.1 back.0 back.1 (IsAtMost_refl back.1)) in
        let all = subst (IsAtMost back.1) h.4 (IsAtMost-cost_sum_more back.1 h.0 h.1 end) in
        (back.1, back.3, IsAtMost_trans _ _ _ all le)

    -- for each walk there is one of no greater cost that takes a at most once
    reduced : (s t : ℕ) (xs : List InArc) → IsWalk (over (a ∷ list)) s t xs → Reduced s t (cost_of xs)
    unfolding over AtMostOnce Reduced
    reduced s t [] w = (no_cost, inl ([], w, refl), IsAtMost_refl no_cost)
    reduced s t (x ∷ xs) w = elim (Contains-head_or_tail a list x w.0) [
      | inl same ↦ first same (reduced x.to t xs w.2)
      | inr has ↦ taken_before s t x xs has w.1 (reduced x.to t xs w.2)
    ]
      where
        first : a ≡ x → Reduced x.to t (cost_of xs) → Reduced s t (cost_of (x ∷ xs))
        first same (d, inl v, le) = taken_first s t x xs same w.1 d (subst (λ y. IsWalkCost (over list) y.to t d) (sym same) v) le
        first same (d, inr h, le) = let e = after_last x.to t (cost_of xs) d h le in taken_first s t x xs same w.1 e.0 e.1 e.2

  -- without arcs the empty walk is the only walk
  over_none : (s t : ℕ) → LeastOrNone (IsWalkCost (over []) s t)
  unfolding over
  over_none s t = elim (cases_eq s t) [
    | inl same ↦ inl (no_cost, record { has = ([], same, refl); least = λ d w. IsAtMost-no_cost d })
    | inr apart ↦ inr (λ c w. none apart w.0 w.1)
  ]
    where
      none : (s ≡ t → ⊥) → (xs : List InArc) → IsWalk (over []) s t xs → ⊥
      none apart [] w = apart w
      none apart (x ∷ xs) w = Contains-none x w.0

  -- the least cost of a walk over the list: it leaves the first arc out, or takes it once
  least_over : (list : List InArc) (s t : ℕ) → LeastOrNone (IsWalkCost (over list) s t)
  unfolding Once AtMostOnce Reduced
  least_over [] s t = over_none s t
  least_over (a ∷ list) s t =
      least_among (AtMostOnce a list s t) (IsWalkCost (over (a ∷ list)) s t) (walks_over a list s t)
      (λ c w. let r = reduced a list s t w.0 w.1 in (r.0, r.1, subst (IsAtMost r.0) w.2 r.2))
      (least_either (IsWalkCost (over list) s t) (Once a list s t) (least_over list s t)
      (least_sum (IsWalkCost (over list) s a.from) (IsSumOf (λ d. d ≡ arc_cost a) (IsWalkCost (over list) a.to t))
      (least_over list s a.from)
      (least_sum (λ d. d ≡ arc_cost a) (IsWalkCost (over list) a.to t) only (least_over list a.to t))))
    where
      only : LeastOrNone (λ d. d ≡ arc_cost a)
      only = inl (arc_cost a, record { has = refl; least = λ d e. subst (IsAtMost (arc_cost a)) (sym e) (IsAtMost_refl (arc_cost a)) })

-- between two nodes there is a least cost of a walk, or no walk
pub IsLeast-decided : (g : Network) (s t : ℕ) → ((c : Cost) × IsLeast g s t c) ⊎ IsUnreachable g s t
unfolding over
IsLeast-decided g s t = elim (least_over g.nodes g.arcs s t) [
  | inl found ↦ inl (found.0, IsLeast-from g s t found.0 found.1.has found.1.least)
  | inr none ↦ inr (λ arcs w. none (cost_of arcs) (arcs, w, refl))
]

-- if there is a walk, there is a least cost, and it is no greater
pub IsLeast-of_walk : (g : Network) (s t : ℕ) (d : Cost) → IsWalkCost g s t d → (c : Cost) × IsLeast g s t c × IsAtMost c d
IsLeast-of_walk g s t d w = elim (IsLeast-decided g s t) [
  | inl found ↦ (found.0, found.1, IsLeast-IsAtMost g s t found.0 d found.1 w)
  | inr none ↦ absurd (none w.0 w.1)
]

-- the weight of the least cost is the distance
pub IsLeast-IsDistance : (g : Network) (s t : ℕ) (c : Cost) → IsLeast g s t c → IsDistance g s t c.weight
IsLeast-IsDistance g s t c l = record { walk = (l.walk.0, l.walk.1, ap (λ d. d.weight) l.walk.2); least = λ arcs w. (l.least arcs w).0 }

-- a distance is the weight of a least cost
pub IsDistance-IsLeast : (g : Network) (s t x : ℕ) → IsDistance g s t x → (c : Cost) × IsLeast g s t c × (c.weight ≡ x)
IsDistance-IsLeast g s t x d =
    let walk = d.walk in
    let found = IsLeast-of_walk g s t (cost_of walk.0) (walk.0, walk.1, refl) in (
      found.0,
      found.1,
      equal found.0.weight (weight_of walk.0) x walk.2 found.2.0
          (subst (λ w. x ≤ w) (ap (λ c. c.weight) found.1.walk.2) (d.least found.1.walk.0 found.1.walk.1)),
    )
  where
    equal : (a b x : ℕ) → b ≡ x → a ≤ b → x ≤ a → a ≡ x
    equal a b x e le ge = omega arith
