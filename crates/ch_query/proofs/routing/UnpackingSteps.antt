-- Unpacking, leg by leg.
use Rattle.std.proofs.Common.{◌≡◌, ℕ, ◌+◌, ◌-◌, ◌<◌, ◌≤◌, List, [], ◌∷◌, ◌++◌, length, Some, None, inl, inr, arith, sym, ◌∙◌, ap}
use Rattle.std.proofs.Common.{subst, refl, Vec, vec_len}
use Rattle.std.specs.Prelude.{vec_capacity}
use Rattle.std.specs.declared.alloc.Global.{Global}
use Rattle.std.proofs.lemmas.List.{append_assoc, append-nil}
use Rattle.std.proofs.lemmas.List.Sums.{sum_by_push}
use Rattle.ch_graph.specs.declared.arc.InArc.{InArc}
use Rattle.ch_graph.specs.declared.cost.Cost.{Cost}
use Rattle.ch_hierarchy.specs.Hierarchy.{LevelsAndLegs}
use Rattle.ch_query.specs.declared.routes.unpacking.PendingLeg.{PendingLeg}
use Rattle.ch_query.specs.Distance.{IsKeptForSome}
use Rattle.ch_query.specs.Routes.{IsUnpacked, arc}
use Rattle.ch_query.specs.Unpacking.{IsPending, ArePending, pending_arcs, ArePendingArcs, IsSplit}
use Rattle.ch_query.proofs.routing.PendingLegs.{unpackings, pending_arcs_push, pending_pop, pending_has_arc, pending_few, halves}
use Rattle.ch_query.proofs.routing.PendingLegs.{split_pending, split_sum, split_nearer, split_arcs}

-- the written arcs, and those of the pending legs, are the arcs of all legs, and there is room
pub record IsPartlyUnpacked (H : LevelsAndLegs) (start : List PendingLeg) (pending : Vec PendingLeg Global)
    (arcs : Vec InArc Global) : Type 0 where
  pub legs : ArePending H pending.items
  pub rest : (after : List InArc) → ArePendingArcs H pending.items after → ArePendingArcs H start (arcs.items ++ after)
  pub room : pending_arcs pending.items ≤ vec_capacity pending
  pub space : vec_len arcs + pending_arcs pending.items ≤ vec_capacity arcs

-- at the end all arcs are written
pub unpacking_ends : (H : LevelsAndLegs) (start : List PendingLeg) (pending : Vec PendingLeg Global) (arcs : Vec InArc Global) →
    IsPartlyUnpacked H start pending arcs →
    vec_len pending ≡ 0 → ArePendingArcs H start arcs.items
unpacking_ends H start pending arcs u none =
    subst (ArePendingArcs H start) (append-nil arcs.items) (u.rest [] (nothing pending.items (let ok = pending.ok in omega arith)))
  where
    nothing : (legs : List PendingLeg) → length legs ≡ 0 → ArePendingArcs H legs []
    nothing [] e = refl
    nothing (p ∷ legs) e = absurd (omega arith)

module _ (H : LevelsAndLegs) (k : IsKeptForSome H) (start : List PendingLeg) (pending : Vec PendingLeg Global) (arcs : Vec InArc Global)
    (u : IsPartlyUnpacked H start pending arcs)
    (popped : Vec PendingLeg Global) (p : PendingLeg) (items : pending.items ≡ popped.items ++ p ∷ [])
    (capacity : vec_capacity popped ≡ vec_capacity pending) where
  -- the pending legs are those below and the one on top
  parts : ArePending H popped.items × IsPending H p
  parts = pending_pop H popped.items p (subst (ArePending H) items u.legs)

  -- the leg on top is a leg of the hierarchy
  pub top_is : IsPending H p
  top_is = parts.1

  -- the numbers of arcs add up
  total : pending_arcs pending.items ≡ pending_arcs popped.items + p.cost.arcs
  total = ap pending_arcs items ∙ sum_by_push (λ (q : PendingLeg). q.cost.arcs) popped.items p

  -- the numbers of pops add up
  pops : unpackings pending.items ≡ unpackings popped.items + (p.cost.arcs + p.cost.arcs - 1)
  pops = ap unpackings items ∙ sum_by_push (λ (q : PendingLeg). q.cost.arcs + q.cost.arcs - 1) popped.items p

  -- there is room for the two legs of a shortcut
  pub room_for_two : (v : ℕ) → p.middle ≡ Some v → vec_len popped + 2 ≤ vec_capacity popped
  room_for_two v e =
      let h = halves H k p v top_is e in
      let few = pending_few H k popped.items parts.0 in
      let a = pending_has_arc H k (record { from = p.from; to = v; cost = h.0.cost; middle = h.0.middle })
      (h.0, refl, refl, inr (h.2, h.3)) in
      let b = pending_has_arc H k (record { from = v; to = p.to; cost = h.1.cost; middle = h.1.middle })
      (h.1, refl, refl, inl (h.4, h.5)) in
      let cost = ap (λ (c : Cost). c.arcs) h.6 in
      let sum = total in
      let room = u.room in
      let ok = popped.ok in
      omega arith

  -- there is room for one more arc
  pub room_for_arc : vec_len arcs < vec_capacity arcs
  room_for_arc = let one = pending_has_arc H k p top_is in let sum = total in let space = u.space in omega arith

  -- a leg without a middle is written as an arc
  pub arc_step : (arcs' : Vec InArc Global) → p.middle ≡ None →
      arcs'.items ≡ arcs.items ++ record { from = p.from; to = p.to; weight = p.cost.weight } ∷ [] →
      vec_len arcs' ≡ vec_len arcs + 1 → vec_capacity arcs' ≡ vec_capacity arcs → IsPartlyUnpacked H start popped arcs'
  arc_step arcs' e pushed len cap =
      let x : InArc = record { from = p.from; to = p.to; weight = p.cost.weight } in
      let here : IsUnpacked H p.from p.to p.cost.weight p.middle (x ∷ []) =
      subst (λ m. IsUnpacked H p.from p.to p.cost.weight m (x ∷ [])) (sym e) arc in
      let sum = total in
      record {
        legs = parts.0;
        rest = λ after are. subst (ArePendingArcs H start)
            (sym (append_assoc arcs.items (x ∷ []) after) ∙ sym (ap (λ q. q ++ after) pushed))
            (u.rest (x ∷ after) (subst (λ q. ArePendingArcs H q (x ∷ after)) (sym items)
            (pending_arcs_push H popped.items p (x ∷ []) after here are)));
        room = (let room = u.room in omega arith);
        space = (let space = u.space in let one = pending_has_arc H k p top_is in omega arith);
      }

  -- one pop fewer is left after an arc
  pub arc_less : unpackings popped.items < unpackings pending.items
  arc_less = let one = pending_has_arc H k p top_is in let sum = pops in omega arith

  -- a shortcut is replaced by its two legs
  pub split_step : (v : ℕ) (new : Vec PendingLeg Global) → p.middle ≡ Some v → IsSplit H p.from v p.to popped.items new.items →
      vec_capacity new ≡ vec_capacity popped →
      IsPartlyUnpacked H start new arcs
  split_step v new e s cap =
      let sum = split_sum H k p v top_is e popped.items new.items s in
      let all = total in
      record {
        legs = split_pending H k p v top_is e popped.items new.items s parts.0;
        rest = λ after are. u.rest after
            (subst (λ q. ArePendingArcs H q after) (sym items) (split_arcs H k p v top_is e popped.items new.items s after are));
        room = (let room = u.room in omega arith);
        space = (let space = u.space in omega arith);
      }

  -- one pop fewer is left after a shortcut
  pub split_less : (v : ℕ) (new : Vec PendingLeg Global) → p.middle ≡ Some v → IsSplit H p.from v p.to popped.items new.items →
      unpackings new.items < unpackings pending.items
  split_less v new e s = let near = split_nearer H k p v top_is e popped.items new.items s in let sum = pops in omega arith
