-- Parents, step by step, and the choice of a route at the end.
use Rattle.std.proofs.Common.{◌≡◌, ℕ, ◌+◌, ◌<◌, ◌≤◌, List, [], ◌∷◌, ◌++◌, length, Contains, Option, Some, None, sym, ◌∙◌, ap, subst}
use Rattle.std.proofs.Common.{arith, get_or-set_same, get_or-set_other, set, length-set, inl, inr}
use Rattle.std.specs.Prelude.{◌⊎◌, ◌≢◌, slice_index}
use Rattle.std.proofs.lemmas.Bool.{cases_eq}
use Rattle.std.proofs.lemmas.Option.{same_Some}
use Rattle.ch_graph.specs.declared.cost.Cost.{Cost}
use Rattle.ch_graph.specs.Cost.{IsAtMost, IsBelow, cost_sum, cost_at}
use Rattle.ch_hierarchy.specs.declared.leg.Leg.{Leg}
use Rattle.ch_hierarchy.specs.Rows.{row}
use Rattle.ch_hierarchy.specs.Paths.{IsUpwardPath, path_cost, IsLeastUpwardPath}
use Rattle.ch_graph.proofs.CostOrder.{IsAtMost_refl, IsAtMost_trans, IsAtMost_antisymm, IsAtMost_or_IsBelow, IsBelow_not}
use Rattle.ch_query.specs.Search.{IsSettled, IsRelaxedFrom, IsSearch, IsExpanding, OrNode, WouldLower, AvoidsIdle}
use Rattle.ch_query.specs.Parents.{IsParent, IsNoEarlier, AreParents, IsChosen}
use Rattle.ch_graph.proofs.CostSums.{cost_sum_assoc, IsAtMost-cost_sum, IsAtMost-cost_sum_self, cost_sum_cancel_right}
use Rattle.ch_hierarchy.proofs.theory.LegPaths.{path_cost-cons, path_cost-append}
use Rattle.ch_query.proofs.one_side.PathLaws.{then_below, cost_push, path_push}
use Rattle.ch_query.proofs.one_side.Steps.{popped_settled, popped_stays, lowered_settled, lowered_stays}
use Rattle.ch_query.proofs.one_side.End.{least_reached, reached_no_less, settled_least}

-- the least key leaves the queue
module _ {most : ℕ} (rows : List (List Leg)) (s : ℕ) (Idle : ℕ → Cost → Type 0) (best queue : List (Option Cost)) (parents : List ℕ)
    (p : IsSearch most rows s Idle best queue)
    (a : AreParents most rows s Idle best queue parents)
    (v : ℕ) (c : Cost) (key : cost_at queue v ≡ Some c) (least : (x : ℕ) (d : Cost) → cost_at queue x ≡ Some d → IsAtMost c d)
    (within : v < length queue) where
  -- the parents stay right
  pub popped_parents : AreParents most rows s (OrNode Idle v) best (set queue v None) parents
  popped_parents = record {
    size = a.size;
    led = λ x e ne k. let q = a.led x e ne k in
        record {
          cost = q.cost;
          settled = popped_stays _ _ _ _ _ p v c key least within _ _ q.settled;
          leg = q.leg;
          has =
              q.has;
          node = q.node;
          sum = q.sum;
        };
    first = λ u d h. elim (popped_settled _ _ _ _ _ p v c key least within u d h) [
      | inl was ↦ elim (a.first u d was) [ inl idle ↦ inl (inl idle) | inr legs ↦ inr legs ]
      | inr is ↦ inl (inr is.0)
    ];
  }

-- a leg of v that shows a cheaper path
module _ {most : ℕ} (rows : List (List Leg)) (s : ℕ) (Idle : ℕ → Cost → Type 0) (best queue : List (Option Cost)) (parents : List ℕ)
    (v : ℕ) (c : Cost)
    (x : IsExpanding most rows s Idle best queue v c) (a : AreParents most rows s Idle best queue parents)
    (l : Leg) (has : Contains (row rows v) l) (light : c.weight + l.cost.weight ≤ most)
    (h : WouldLower best l.node (cost_sum c l.cost)) where
  -- the costs after the leg was taken
  best' : List (Option Cost)
  best' = set best l.node (Some (cost_sum c l.cost))

  queue' : List (Option Cost)
  queue' = set queue l.node (Some (cost_sum c l.cost))

  -- the parent of the leg's node is v
  here : slice_index (set parents l.node v) l.node ≡ v
  here = get_or-set_same parents l.node v 0 (let n = a.size in let lt = h.within in omega arith)

  -- the other parents stay
  away_at : (y : ℕ) → (y ≡ l.node → ⊥) → slice_index (set parents l.node v) y ≡ slice_index parents y
  away_at y ne = get_or-set_other parents l.node y v 0 ne

  -- the cost of the leg's node is the sum
  cost_here : cost_at best' l.node ≡ Some (cost_sum c l.cost)
  unfolding best'
  cost_here = get_or-set_same best l.node _ None h.within

  -- the other costs stay the same
  cost_away : (y : ℕ) → (y ≡ l.node → ⊥) → cost_at best' y ≡ cost_at best y
  unfolding best'
  cost_away y ne = get_or-set_other best l.node y _ None ne

  -- a settled node stays settled
  keeps : (y : ℕ) (d : Cost) → IsSettled best queue y d → IsSettled best' queue' y d
  unfolding best' queue'
  keeps = lowered_stays rows s Idle best queue v c x l has light h

  -- each node has a leg from its parent that gives it its cost
  led : (y : ℕ) (e : Cost) → y ≢ s → cost_at best' y ≡ Some e → IsParent rows best' queue' y e (slice_index (set parents l.node v) y)
  led y e ne k = elim (cases_eq y l.node) [
    | inl is ↦ subst (IsParent rows best' queue' y e) (sym (ap (slice_index (set parents l.node v)) is ∙ here))
        (record {
          cost = c;
          settled = keeps v c x.here;
          leg = l;
          has = has;
          node = sym is;
          sum =
              same_Some _ _ (sym cost_here ∙ ap (cost_at best') (sym is) ∙ k);
        })
    | inr ne' ↦
        let q = a.led y e ne (sym (cost_away y ne') ∙ k) in
        subst (IsParent rows best' queue' y e) (sym (away_at y ne'))
        (record { cost = q.cost; settled = keeps _ _ q.settled; leg = q.leg; has = q.has; node = q.node; sum = q.sum })
  ]

  -- a leg to the same node that was taken before gives a greater cost
  dearer : (d : Cost) (k : Leg) → k.node ≡ l.node → IsRelaxedFrom most best d k → cost_at best' k.node ≡ Some (cost_sum d k.cost) → ⊥
  dearer d k is r e =
      let same : cost_sum c l.cost ≡ cost_sum d k.cost = same_Some _ _ (sym cost_here ∙ ap (cost_at best') (sym is) ∙ e) in
      let low : d.weight + k.cost.weight ≤ most = subst (λ (q : Cost). q.weight ≤ most) same light in
      let old = r low in
      let lt = h.lower old.0 (ap (cost_at best) (sym is) ∙ old.1) in
      IsBelow_not (cost_sum c l.cost) old.0 lt (subst (IsAtMost old.0) (sym same) old.2)

  -- no earlier node gives the same cost
  first : (u : ℕ) (d : Cost) → IsSettled best queue u d →
      Idle u d ⊎ ((k : Leg) → Contains (row rows u) k → IsNoEarlier most best' (set parents l.node v) u d k)
  first u d was = elim (x.search.frontier u d was) [
    | inl idle ↦ inl idle
    | inr relaxed ↦ elim (a.first u d was) [
      | inl idle ↦ inl idle
      | inr legs ↦ inr (λ k of low e. elim (cases_eq k.node l.node) [
        | inl is ↦ absurd (dearer d k is (relaxed k of) e)
        | inr ne ↦ subst (λ q. q ≤ u) (sym (away_at k.node ne)) (legs k of low (sym (cost_away k.node ne) ∙ e))
      ])
    ]
  ]

  -- the parents are right after the leg
  pub lowered_parents : AreParents most rows s Idle (set best l.node (Some (cost_sum c l.cost)))
      (set queue l.node (Some (cost_sum c l.cost))) (set parents l.node v)
  unfolding best' queue'
  lowered_parents = record {
    size = length-set parents l.node v ∙ a.size ∙ sym (length-set best l.node _);
    led = led;
    first = λ u d k. first u d (lowered_settled rows s Idle best queue v c x l has light h u d k);
  }

  -- the earlier legs of v still have no later parent at their ends
  pub lowered_no_earlier : (k : Leg) → IsNoEarlier most best parents v c k →
      IsNoEarlier most (set best l.node (Some (cost_sum c l.cost))) (set parents l.node v) v c k
  unfolding best'
  lowered_no_earlier k n low e = elim (cases_eq k.node l.node) [
    | inl is ↦ let at = ap (slice_index (set parents l.node v)) is ∙ here in omega arith
    | inr ne ↦ subst (λ q. q ≤ v) (sym (away_at k.node ne)) (n low (sym (cost_away k.node ne) ∙ e))
  ]

  -- the parent at the end of this leg is not later than v either
  pub lowered_itself : IsNoEarlier most (set best l.node (Some (cost_sum c l.cost))) (set parents l.node v) v c l
  lowered_itself _ _ = let at = here in omega arith

-- a leg of v that shows an equal cost, where the lesser parent stays
module _ {most : ℕ} (rows : List (List Leg)) (s : ℕ) (Idle : ℕ → Cost → Type 0) (best queue : List (Option Cost)) (parents : List ℕ)
    (v : ℕ) (c : Cost)
    (settled : IsSettled best queue v c) (a : AreParents most rows s Idle best queue parents)
    (l : Leg) (has : Contains (row rows v) l) (within : l.node < length best) (same : cost_at best l.node ≡ Some (cost_sum c l.cost))
    (earlier : v < slice_index parents l.node) where
  -- the parent of the leg's node is v
  pub equal_here : slice_index (set parents l.node v) l.node ≡ v
  equal_here = get_or-set_same parents l.node v 0 (let n = a.size in omega arith)

  -- the other parents stay
  else_at : (y : ℕ) → (y ≡ l.node → ⊥) → slice_index (set parents l.node v) y ≡ slice_index parents y
  else_at y ne = get_or-set_other parents l.node y v 0 ne

  -- no parent gets a greater number
  pub equal_falls : (y : ℕ) → slice_index (set parents l.node v) y ≤ slice_index parents y
  equal_falls y = elim (cases_eq y l.node) [
    | inl is ↦ let at = ap (slice_index (set parents l.node v)) is ∙ equal_here in let old = ap (slice_index parents) is in omega arith
    | inr ne ↦ let at = else_at y ne in omega arith
  ]

  -- the parents are right after the leg
  pub equal_parents : AreParents most rows s Idle best queue (set parents l.node v)
  equal_parents = record {
    size = length-set parents l.node v ∙ a.size;
    led = λ y e ne k. elim (cases_eq y l.node) [
      | inl is ↦ subst (IsParent rows best queue y e) (sym (ap (slice_index (set parents l.node v)) is ∙ equal_here))
          (record {
            cost = c;
            settled = settled;
            leg = l;
            has = has;
            node = sym is;
            sum =
                same_Some _ _ (sym same ∙ ap (cost_at best) (sym is) ∙ k);
          })
      | inr ne' ↦ subst (IsParent rows best queue y e) (sym (else_at y ne')) (a.led y e ne k)
    ];
    first = λ u d k. elim (a.first u d k) [
      | inl idle ↦ inl idle
      | inr legs ↦
          inr (λ m of low e. let n = legs m of low e in let f = equal_falls m.node in omega arith)
    ];
  }

-- a node whose legs are all taken, or that may stay idle
module _ {most : ℕ} (rows : List (List Leg)) (s : ℕ) (Idle : ℕ → Cost → Type 0) (best queue : List (Option Cost)) (parents : List ℕ)
    (v : ℕ) (c : Cost)
    (here : IsSettled best queue v c) (a : AreParents most rows s (OrNode Idle v) best queue parents) where
  -- the parents are right for the search without the exception of v
  pub finish_parents : Idle v c ⊎ ((l : Leg) → Contains (row rows v) l → IsNoEarlier most best parents v c l) →
      AreParents most rows s Idle best queue parents
  finish_parents done = record {
    size = a.size;
    led = a.led;
    first = λ u d k. elim (a.first u d k) [
      | inl (inl idle) ↦ inl idle
      | inl (inr is) ↦
          let same : c ≡ d = same_Some _ _ (sym here.0 ∙ ap (cost_at best) (sym is) ∙ k.0) in
          subst (λ q. Idle q d ⊎ ((l : Leg) → Contains (row rows q) l → IsNoEarlier most best parents q d l)) (sym is)
          (subst (λ q. Idle v q ⊎ ((l : Leg) → Contains (row rows v) l → IsNoEarlier most best parents v q l)) same done)
      | inr legs ↦ inr legs
    ];
  }

-- a path and a path from its end together are a path
path_append : (rows : List (List Leg)) (a b d : ℕ) (xs ys : List Leg) → IsUpwardPath rows a b xs → IsUpwardPath rows b d ys →
    IsUpwardPath rows a d (xs ++ ys)
path_append rows a b d [] ys p q = subst (λ r. IsUpwardPath rows r d ys) (sym p) q
path_append rows a b d (x ∷ xs) ys p q = (p.0, path_append rows x.node b d xs ys p.1 q)

-- a part of a path that avoids idle nodes avoids them
avoids_inner : (rows : List (List Leg)) (Idle : ℕ → Cost → Type 0) (w m : ℕ) (b c : Cost) (tail : List Leg) → IsUpwardPath rows w m tail →
    IsAtMost (cost_sum b (path_cost tail)) c → AvoidsIdle rows Idle m c → AvoidsIdle rows Idle w b
avoids_inner rows Idle w m b c tail path le avoids y e legs idle p low =
    avoids y e (legs ++ tail) idle (path_append rows y w m legs tail p path)
    (subst (λ q. IsAtMost q c)
    (sym (ap (cost_sum e) (path_cost-append legs tail) ∙ sym (cost_sum_assoc e (path_cost legs) (path_cost tail))))
    (IsAtMost_trans (cost_sum (cost_sum e (path_cost legs)) (path_cost tail)) (cost_sum b (path_cost tail)) c
    (IsAtMost-cost_sum (cost_sum e (path_cost legs)) b (path_cost tail) (path_cost tail) low (IsAtMost_refl (path_cost tail))) le))

-- two least costs are equal
pub least_same : (rows : List (List Leg)) (a x : ℕ) (d e : Cost) → IsLeastUpwardPath rows a x d → IsLeastUpwardPath rows a x e → d ≡ e
least_same rows a x d e h k = IsAtMost_antisymm d e (reached_no_less rows a x d e h (least_reached rows a x e k))
    (reached_no_less rows a x e d k (least_reached rows a x d h))

module _ {most : ℕ} (rows : List (List Leg)) (s : ℕ) (Idle : ℕ → Cost → Type 0) (best queue : List (Option Cost)) (parents : List ℕ)
    (p : IsSearch most rows s Idle best queue)
    (a : AreParents most rows s Idle best queue parents)
    (m : ℕ) (c : Cost) (light : c.weight ≤ most) (past : (x : ℕ) (d : Cost) → cost_at queue x ≡ Some d → IsBelow c d)
    (avoids : AvoidsIdle rows Idle m c)
    (x : ℕ) (ne : x ≢ s) (e : Cost) (known : cost_at best x ≡ Some e) (tight : IsLeastUpwardPath rows s x e) (tail : List Leg)
    (path : IsUpwardPath rows x m tail)
    (le : IsAtMost (cost_sum e (path_cost tail)) c) where
  -- the parent of x
  pub parent : IsParent rows best queue x e (slice_index parents x)
  parent = a.led x e ne known

  -- the parent's cost is the least cost
  pub parent_least : IsLeastUpwardPath rows s (slice_index parents x) parent.cost
  parent_least =
      let q = parent in
      let r = p.sound _ q.cost q.settled.0 in
      record {
        path = r.path;
        weight = r.weight;
        least = λ legs up low. elim (IsAtMost_or_IsBelow q.cost (path_cost legs)) [
          | inl fine ↦ fine
          | inr less ↦
              let all : IsUpwardPath rows s x (legs ++ q.leg ∷ []) = subst (λ z. IsUpwardPath rows s z (legs ++ q.leg ∷ [])) q.node
              (path_push rows s _ legs q.leg up q.has) in
              let sum = cost_push legs q.leg in
              let w : (path_cost (legs ++ q.leg ∷ [])).weight ≡ (path_cost legs).weight + q.leg.cost.weight =
              ap (λ (z : Cost). z.weight) sum in
              let we : q.cost.weight + q.leg.cost.weight ≡ e.weight = ap (λ (z : Cost). z.weight) q.sum in
              let top = tight.weight in
              let lw = less.0 in
              let ge = tight.least _ all (omega arith) in
              cost_sum_cancel_right q.cost (path_cost legs) q.leg.cost
              (subst (λ z. IsAtMost z (cost_sum (path_cost legs) q.leg.cost)) (sym q.sum) (subst (IsAtMost e) sum ge))
        ];
      }

  -- the parent is the least numbered node before x on a least path
  pub chosen : IsChosen rows s x (slice_index parents x) parent.leg
  chosen =
      let q = parent in
      record {
        last = (q.has, q.node, q.cost, parent_least, subst (IsLeastUpwardPath rows s x) (sym q.sum) tight);
        least = λ w k last.
            let b = last.2 in
            let is : cost_sum b k.cost ≡ e = least_same rows s x _ e last.4 tight in
            let on : IsUpwardPath rows w m (k ∷ tail) = (last.0, subst (λ z. IsUpwardPath rows z m tail) (sym last.1) path) in
            let total : cost_sum b (path_cost (k ∷ tail)) ≡ cost_sum e (path_cost tail) =
            ap (cost_sum b) (path_cost-cons k tail) ∙ sym (cost_sum_assoc b k.cost (path_cost tail))
            ∙ ap (λ z. cost_sum z (path_cost tail)) is in
            let low : IsAtMost (cost_sum b (path_cost (k ∷ tail))) c = subst (λ z. IsAtMost z c) (sym total) le in
            let under : IsAtMost b c = IsAtMost_trans b (cost_sum b (path_cost (k ∷ tail))) c
            (IsAtMost-cost_sum_self b (path_cost (k ∷ tail))) low in
            let settled = settled_least rows s Idle best queue p w b (let w = under.0 in omega arith)
            (λ y d key. then_below b c d under (past y d key))
            (avoids_inner rows Idle w m b c (k ∷ tail) on low avoids) last.3 in
            elim (a.first w b settled) [
              | inl idle ↦ absurd (avoids w b (k ∷ tail) idle on low)
              | inr legs ↦ subst (λ z. slice_index parents z ≤ w) last.1
                  (legs k last.0 (let t = p.light x e known in let w = ap (λ (z : Cost). z.weight) is in omega arith)
                  (ap (cost_at best) last.1 ∙ known ∙ ap Some (sym is)))
            ];
      }
