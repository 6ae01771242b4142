-- Pending legs and the arcs that they stand for.
use Rattle.std.proofs.Common.{◌≡◌, ℕ, suc, ◌+◌, ◌-◌, ◌<◌, ◌≤◌, List, [], ◌∷◌, ◌++◌, length, Contains, Some, refl, sym, ◌∙◌, ap}
use Rattle.std.proofs.Common.{subst, arith, inl, inr}
use Rattle.std.specs.List.{sum_by}
use Rattle.std.proofs.lemmas.List.{append_assoc, append-nil}
use Rattle.std.proofs.lemmas.List.Elements.{Contains-push, Contains-append_left, Contains-push_cases}
use Rattle.std.proofs.lemmas.List.Sums.{sum_by-cons, sum_by_push}
use Rattle.ch_graph.specs.declared.arc.InArc.{InArc}
use Rattle.ch_graph.specs.declared.cost.Cost.{Cost}
use Rattle.ch_graph.specs.Cost.{cost_sum}
use Rattle.ch_hierarchy.specs.declared.leg.Leg.{Leg}
use Rattle.ch_hierarchy.specs.Rows.{row}
use Rattle.ch_hierarchy.specs.Hierarchy.{LevelsAndLegs, nodes_of}
use Rattle.ch_hierarchy.specs.Kept.{IsFounded}
use Rattle.ch_hierarchy.specs.declared.side.Side.TheVariants.{Down}
use Rattle.ch_query.specs.declared.routes.unpacking.PendingLeg.{PendingLeg}
use Rattle.ch_query.specs.Distance.{IsKeptForSome}
use Rattle.ch_query.specs.Routes.{IsUnpacked, shortcut}
use Rattle.ch_query.specs.Unpacking.{IsPending, ArePending, pending_arcs, ArePendingArcs, IsSplit}
use Rattle.ch_query.proofs.routing.Rows.{has_row}
use Rattle.ch_query.proofs.routing.Unpacked.{halves_one, leg_has_arc, leg_unpacked}

-- the number of legs that are popped until these are unpacked
abbrev pub unpackings : List PendingLeg → ℕ
unpackings pending = sum_by (λ p. p.cost.arcs + p.cost.arcs - 1) pending

-- three lists in a row
parts_connected : (arcs here after second rest : List InArc) → arcs ≡ here ++ after → after ≡ second ++ rest →
    (here ++ second) ++ rest ≡ arcs
parts_connected arcs here after second rest is parts = append_assoc here second rest ∙ sym (is ∙ ap (λ q. here ++ q) parts)

module _ (H : LevelsAndLegs) where
  -- the arcs of two lists of legs, where those of the second list come first
  pub pending_arcs_append : (xs ys : List PendingLeg) (arcs : List InArc) → ArePendingArcs H (xs ++ ys) arcs →
      (first second : List InArc) × ArePendingArcs H ys first × ArePendingArcs H xs second × (arcs ≡ first ++ second)
  pending_arcs_append [] ys arcs a = (arcs, [], a, refl, sym (append-nil arcs))
  pending_arcs_append (p ∷ xs) ys arcs a =
      let r = pending_arcs_append xs ys a.0 a.2 in
      (r.0, r.1 ++ a.1, r.2, (r.1, a.1, r.3, a.3, refl), a.4 ∙ ap (λ q. q ++ a.1) r.4 ∙ append_assoc r.0 r.1 a.1)

  -- the arcs of a leg on top come first
  pub pending_arcs_pop : (pending : List PendingLeg) (p : PendingLeg) (arcs : List InArc) → ArePendingArcs H (pending ++ p ∷ []) arcs →
      (here after : List InArc) × IsUnpacked H p.from p.to p.cost.weight p.middle here × ArePendingArcs H pending after
      × (arcs ≡ here ++ after)
  pending_arcs_pop pending p arcs a =
      let r = pending_arcs_append pending (p ∷ []) arcs a in
      (r.2.1, r.1, r.2.3, r.3, r.4 ∙ ap (λ z. z ++ r.1) (r.2.4 ∙ ap (λ z. z ++ r.2.1) r.2.2))

  -- the arcs of a leg that is pushed come first
  pub pending_arcs_push : (pending : List PendingLeg) (p : PendingLeg) (here after : List InArc) →
      IsUnpacked H p.from p.to p.cost.weight p.middle here →
      ArePendingArcs H pending after → ArePendingArcs H (pending ++ p ∷ []) (here ++ after)
  pending_arcs_push [] p here after u a = ([], here, refl, u, ap (λ z. here ++ z) a ∙ append-nil here)
  pending_arcs_push (q ∷ pending) p here after u a =
      (here ++ a.0, a.1, pending_arcs_push pending p here a.0 u a.2, a.3, ap (λ z. here ++ z) a.4 ∙ sym (append_assoc here a.0 a.1))

  -- one more leg is pending
  pub pending_push : (pending : List PendingLeg) (p : PendingLeg) → ArePending H pending → IsPending H p → ArePending H (pending ++ p ∷ [])
  pending_push pending p are is q has =
      elim (Contains-push_cases pending p q has) [ inl old ↦ are q old | inr new ↦ subst (IsPending H) new is ]

  -- one leg fewer is pending
  pub pending_pop : (pending : List PendingLeg) (p : PendingLeg) → ArePending H (pending ++ p ∷ []) → ArePending H pending × IsPending H p
  pending_pop pending p are = ((λ q has. are q (Contains-append_left pending (p ∷ []) q has)), are p (Contains-push pending p))

  module _ (k : IsKeptForSome H) where
    -- a pending leg stands for at least one arc
    pub pending_has_arc : (p : PendingLeg) → IsPending H p → 0 < p.cost.arcs
    pending_has_arc p is = leg_has_arc k.0 H k.2 p.from p.to p.cost p.middle is

    -- there are at most as many pending legs as arcs
    pub pending_few : (pending : List PendingLeg) → ArePending H pending → length pending ≤ pending_arcs pending
    pending_few [] are = omega arith
    pending_few (p ∷ pending) are =
        let rest = pending_few pending (λ q has. are q (later has)) in
        let here = pending_has_arc p (are p (0, omega arith, refl)) in
        let sum = sum_by-cons (λ (q : PendingLeg). q.cost.arcs) p pending in
        omega arith
      where
        later : {q : PendingLeg} → Contains pending q → Contains (p ∷ pending) q
        later (i, lt, e) = (suc i, omega arith, e)

    -- pending legs stand for some arcs
    pub pending_unpacked : (pending : List PendingLeg) → ArePending H pending → (arcs : List InArc) × ArePendingArcs H pending arcs
    pending_unpacked [] are = ([], refl)
    pending_unpacked (p ∷ pending) are =
        let rest = pending_unpacked pending (λ q has. are q (behind has)) in
        let here = leg_unpacked k.0 H k.2 p.from p.to p.cost p.middle (are p (0, omega arith, refl)) in
        (rest.0 ++ here.0, (rest.0, here.0, rest.1, here.1, refl))
      where
        behind : {q : PendingLeg} → Contains pending q → Contains (p ∷ pending) q
        behind (i, lt, e) = (suc i, omega arith, e)

    module _ (p : PendingLeg) (v : ℕ) (leg : IsPending H p) (e : p.middle ≡ Some v) where
      -- a leg with a middle is the sum of two legs
      pub halves : IsFounded k.0 H p.from p.to p.cost (Some v)
      halves = subst (IsFounded k.0 H p.from p.to p.cost) e (k.2.founded p.from p.to p.cost p.middle leg)

      -- the middle is a node
      pub middle_within : v < nodes_of H
      middle_within = has_row H k.2.levelled Down v halves.0 halves.2

      -- the first leg is in the row that is read
      pub first_has : (legs : List Leg) → legs ≡ row H.down v → (l : Leg) × Contains legs l × (l.node ≡ p.from)
      first_has legs is = (halves.0, subst (λ xs. Contains xs halves.0) (sym is) halves.2, halves.3)

      -- the second leg is in the row that is read
      pub second_has : (legs : List Leg) → legs ≡ row H.up v → (l : Leg) × Contains legs l × (l.node ≡ p.to)
      second_has legs is = (halves.1, subst (λ xs. Contains xs halves.1) (sym is) halves.4, halves.5)

      module _ (old new : List PendingLeg) (s : IsSplit H p.from v p.to old new) where
        first : PendingLeg
        first = record { from = p.from; to = v; cost = s.a.cost; middle = s.a.middle }

        second : PendingLeg
        second = record { from = v; to = p.to; cost = s.b.cost; middle = s.b.middle }

        -- both are legs of the hierarchy
        first_is : IsPending H first
        unfolding first
        first_is = (s.a, refl, refl, inr s.halves.first)

        second_is : IsPending H second
        unfolding second
        second_is = (s.b, refl, refl, inl s.halves.second)

        -- the two legs together cost what the leg costs
        pub split_cost : p.cost ≡ cost_sum s.a.cost s.b.cost
        split_cost =
            let h = s.halves in
            let one = halves_one H k.2.levelled p.from v p.to halves.0 halves.1 s.a s.b halves.2 halves.3 halves.4 halves.5
            h.first.0 h.first.1 h.second.0 h.second.1 in
            halves.6 ∙ ap (λ (r : Leg). cost_sum r.cost halves.1.cost) one.0 ∙ ap (λ (r : Leg). cost_sum s.a.cost r.cost) one.1

        -- all pending legs are legs of the hierarchy again
        pub split_pending : ArePending H old → ArePending H new
        unfolding first second
        split_pending are = subst (ArePending H) (sym s.pushed)
            (pending_push (old ++ second ∷ []) first (pending_push old second are second_is) first_is)

        -- they stand for the same number of arcs
        pub split_sum : pending_arcs new ≡ pending_arcs old + p.cost.arcs
        unfolding first second
        split_sum =
            let one = sum_by_push (λ (q : PendingLeg). q.cost.arcs) old second in
            let two = sum_by_push (λ (q : PendingLeg). q.cost.arcs) (old ++ second ∷ []) first in
            let all = ap pending_arcs s.pushed in
            let cost = ap (λ (c : Cost). c.arcs) split_cost in
            omega arith

        -- one pop fewer is left
        pub split_nearer : unpackings new + 1 ≡ unpackings old + (p.cost.arcs + p.cost.arcs - 1)
        unfolding first second
        split_nearer =
            let one = sum_by_push (λ (q : PendingLeg). q.cost.arcs + q.cost.arcs - 1) old second in
            let two = sum_by_push (λ (q : PendingLeg). q.cost.arcs + q.cost.arcs - 1) (old ++ second ∷ []) first in
            let all = ap unpackings s.pushed in
            let cost = ap (λ (c : Cost). c.arcs) split_cost in
            let a = pending_has_arc first first_is in
            let b = pending_has_arc second second_is in
            omega arith

        -- the arcs of the two legs are those of the leg
        pub split_arcs : (arcs : List InArc) → ArePendingArcs H new arcs → ArePendingArcs H (old ++ p ∷ []) arcs
        unfolding first second
        split_arcs arcs are =
            let one = pending_arcs_pop (old ++ second ∷ []) first arcs (subst (λ q. ArePendingArcs H q arcs) s.pushed are) in
            let two = pending_arcs_pop old second one.1 one.3 in
            let h = s.halves in
            let leg_arcs = shortcut {weight = p.cost.weight} h.first.0 h.first.1 h.second.0 h.second.1 one.2 two.2 in
            subst (ArePendingArcs H (old ++ p ∷ [])) (parts_connected arcs one.0 one.1 two.0 two.1 one.4 two.4)
            (pending_arcs_push old p (one.0 ++ two.0) two.1
            (subst (λ m. IsUnpacked H p.from p.to p.cost.weight m (one.0 ++ two.0)) (sym e) leg_arcs) two.3)
