-- The way back, step by step.
use Rattle.std.proofs.Common.{◌≡◌, ℕ, ◌+◌, ◌<◌, ◌≤◌, List, [], ◌∷◌, ◌++◌, map, Contains, Some, refl, sym, ◌∙◌, ap, subst, arith}
use Rattle.std.proofs.Common.{inl, inr, Vec, vec_len}
use Rattle.std.specs.Prelude.{◌≢◌, slice_index, vec_capacity}
use Rattle.std.specs.declared.alloc.Global.{Global}
use Rattle.std.proofs.lemmas.List.{append_assoc, append-nil, map_push}
use Rattle.ch_graph.specs.declared.cost.Cost.{Cost}
use Rattle.ch_graph.specs.Cost.{IsAtMost, cost_sum, cost_at}
use Rattle.ch_graph.proofs.CostOrder.{IsAtMost_refl}
use Rattle.ch_graph.proofs.CostSums.{cost_sum_assoc, cost_sum-no_cost}
use Rattle.ch_hierarchy.specs.declared.leg.Leg.{Leg}
use Rattle.ch_hierarchy.specs.Rows.{row}
use Rattle.ch_hierarchy.specs.Hierarchy.{LevelsAndLegs, nodes_of}
use Rattle.ch_hierarchy.specs.Paths.{IsUpwardPath, path_cost, IsLeastUpwardPath}
use Rattle.ch_hierarchy.proofs.theory.LegPaths.{path_cost-cons}
use Rattle.ch_hierarchy.specs.Ranked.{rank_of}
use Rattle.ch_hierarchy.specs.declared.side.Side.{Side}
use Rattle.ch_hierarchy.specs.declared.side.Side.TheVariants.{Up, Down}
use Rattle.ch_hierarchy.specs.Side.{rows_of}
use Rattle.ch_query.specs.ByNode.{costs_of, keys_of, parents_of}
use Rattle.ch_query.specs.declared.question.Question.{Question}
use Rattle.ch_query.specs.declared.sides.search.Search.{Search}
use Rattle.ch_query.specs.declared.routes.unpacking.PendingLeg.{PendingLeg}
use Rattle.ch_query.specs.Distance.{IsKeptForSome}
use Rattle.ch_query.specs.Parents.{IsParent, IsChosen}
use Rattle.ch_query.specs.Routes.{DescentStep, IsDescent}
use Rattle.ch_query.specs.Unpacking.{IsPending}
use Rattle.ch_query.specs.Descents.{HasReached, HasReachedWithRoom, pending_of, IsTraced}
use Rattle.ch_query.proofs.one_side.Expanding.{leg_up}
use Rattle.ch_query.proofs.one_side.Parents.{parent, parent_least, chosen}
use Rattle.ch_query.proofs.routing.PendingLegs.{pending_has_arc}
use Rattle.ch_query.proofs.routing.Rows.{row_one, rows_ordered, has_row}
use Rattle.ch_query.proofs.one_side.ByNode.{by_node-at, by_node-some}

-- the chosen steps from m back to x were appended, and x is on a least path to m
pub record IsPartlyTraced (H : LevelsAndLegs) (asked : Question) (y : Search) (m x : ℕ) (c : Cost) (old : List PendingLeg)
    (new : Vec PendingLeg Global) : Type 0 where
  pub cost : Cost
  pub known : cost_at (costs_of H y) x ≡ Some cost
  pub least : IsLeastUpwardPath (rows_of H asked.side) asked.source x cost
  pub tail : List Leg
  pub path : IsUpwardPath (rows_of H asked.side) x m tail
  pub cheap : IsAtMost (cost_sum cost (path_cost tail)) c
  pub done : List DescentStep
  pub descent : (rest : List DescentStep) → IsDescent (rows_of H asked.side) asked.source x rest →
      IsDescent (rows_of H asked.side) asked.source m (done ++ rest)
  pub pushed : new.items ≡ old ++ map (pending_of asked.side) done
  pub room : vec_len new + cost.arcs ≤ vec_capacity new

-- a leg of a row is a leg of the hierarchy
pub step_pending : (H : LevelsAndLegs) (side : Side) (step : DescentStep) → Contains (row (rows_of H side) step.low) step.leg →
    IsPending H (pending_of side step)
step_pending H Up step has = (step.leg, refl, refl, inl (has, refl))
step_pending H Down step has = (step.leg, refl, refl, inr (has, refl))

-- the pending leg has the arcs of the row's leg
pub step_arcs : (side : Side) (step : DescentStep) → (pending_of side step).cost.arcs ≡ step.leg.cost.arcs
step_arcs Up step = refl
step_arcs Down step = refl

-- at the meet nothing is appended yet
pub tracing_starts : (H : LevelsAndLegs) (asked : Question) (y : Search) (m : ℕ) (pending : Vec PendingLeg Global)
    (r : HasReachedWithRoom H asked y m pending) → IsPartlyTraced H asked y m m r.0 pending.items pending
tracing_starts H asked y m pending r = record {
  cost = r.0;
  known = r.1.known;
  least = r.1.least;
  tail = [];
  path = refl;
  cheap = subst (λ q. IsAtMost q r.0) (sym (cost_sum-no_cost r.0)) (IsAtMost_refl r.0);
  done = [];
  descent = λ rest d. d;
  pushed = sym (append-nil pending.items);
  room = r.2;
}

module _ (H : LevelsAndLegs) (k : IsKeptForSome H) (asked : Question) (y : Search) (m x : ℕ) (c : Cost) (r : HasReached H asked y m c)
    (old : List PendingLeg) (pending : Vec PendingLeg Global)
    (t : IsPartlyTraced H asked y m x c old pending) where
  -- at the source the way back is complete
  pub tracing_ends : x ≡ asked.source → IsTraced H asked.side asked.source m old pending.items
  tracing_ends is = record {
    steps = t.done;
    descent =
        subst (IsDescent (rows_of H asked.side) asked.source m) (append-nil t.done) (t.descent [] is);
    pushed = t.pushed;
  }

  -- the node is a node of the hierarchy
  pub node_at_within : x < nodes_of H
  node_at_within = (by_node-some H y.labels.costs x t.cost t.known).0

  -- the parent that is read at the node's rank is the node's parent
  pub read_parent : (rank p : ℕ) → rank ≡ rank_of H x → p ≡ slice_index y.labels.parents rank → p ≡ slice_index (parents_of H y) x
  read_parent rank p at read = read ∙ ap (slice_index y.labels.parents) at ∙ sym (by_node-at H y.labels.parents 0 0 x node_at_within)

  module _ (ne : x ≢ asked.source) where
    light : c.weight ≤ asked.most
    light = r.underway.search.light m c r.known

    of : IsParent (rows_of H asked.side) (costs_of H y) (keys_of H y) x t.cost (slice_index (parents_of H y) x)
    of = parent _ _ _ _ _ _ r.underway.search r.underway.parents m c light r.past r.avoids x ne t.cost t.known t.least t.tail t.path t.cheap

    module _ (p : ℕ) (read : p ≡ slice_index (parents_of H y) x) where
      -- the number that was read is the parent
      is : slice_index (parents_of H y) x ≡ p
      is = sym read

      -- the row of the parent has the leg
      has : Contains (row (rows_of H asked.side) p) of.leg
      has = subst (λ q. Contains (row (rows_of H asked.side) q) of.leg) is of.has

      -- the parent is a node
      pub parent_within : p < nodes_of H
      parent_within = has_row H r.underway.levelled asked.side p of.leg has

      -- its row has a leg to x
      pub parent_has : (legs : List Leg) → legs ≡ row (rows_of H asked.side) p → (l : Leg) × Contains legs l × (l.node ≡ x)
      parent_has legs e = (of.leg, subst (λ q. Contains q of.leg) (sym e) has, of.node)

      module _ (l : Leg) (legs : List Leg) (e : legs ≡ row (rows_of H asked.side) p) (found : Contains legs l × (l.node ≡ x)) where
        -- the leg that is found is in the row of the parent
        l_has : Contains (row (rows_of H asked.side) p) l
        l_has = subst (λ q. Contains q l) e found.0

        -- it is the leg of the parent
        same : of.leg ≡ l
        same = row_one (row (rows_of H asked.side) p) (rows_ordered H r.underway.levelled asked.side p) of.leg l has l_has
            (of.node ∙ sym found.1)

        -- the parent's cost and the leg's cost add up to the node's cost
        sum : cost_sum of.cost l.cost ≡ t.cost
        sum = ap (λ (q : Leg). cost_sum of.cost q.cost) (sym same) ∙ of.sum

        -- the parent is lower than the node
        pub parent_lower : slice_index H.level p < slice_index H.level x
        parent_lower = let up = leg_up H r.underway.levelled asked.side p l l_has in let higher = up.higher in
            let at = ap (slice_index H.level) found.1 in omega arith

        -- the leg stands for at least one arc
        some : 0 < l.cost.arcs
        some =
            let step : DescentStep = record { low = p; leg = l } in
            let one = pending_has_arc H k (pending_of asked.side step) (step_pending H asked.side step l_has) in
            let arcs = step_arcs asked.side step in
            omega arith

        -- there is room for one more pending leg
        pub room_for_leg : vec_len pending < vec_capacity pending
        room_for_leg = let one = some in let cost = ap (λ (q : Cost). q.arcs) sum in let room = t.room in omega arith

        -- the parent's cost is the least cost
        least : IsLeastUpwardPath (rows_of H asked.side) asked.source p of.cost
        unfolding of
        least = subst (λ q. IsLeastUpwardPath (rows_of H asked.side) asked.source q of.cost) is
            (parent_least _ _ _ _ _ _ r.underway.search r.underway.parents m c light r.past r.avoids x ne t.cost t.known t.least
            t.tail t.path t.cheap)

        -- the step is the chosen one
        choice : IsChosen (rows_of H asked.side) asked.source x p l
        unfolding of
        choice = subst (IsChosen (rows_of H asked.side) asked.source x p) same (subst (λ q. IsChosen (rows_of H asked.side) asked.source x
            q of.leg) is
            (chosen _ _ _ _ _ _ r.underway.search r.underway.parents m c light r.past r.avoids x ne t.cost t.known t.least t.tail
            t.path t.cheap))

        -- the leg and the path from the node on have the cost of the path from the parent on
        total : cost_sum of.cost (path_cost (l ∷ t.tail)) ≡ cost_sum t.cost (path_cost t.tail)
        total = ap (cost_sum of.cost) (path_cost-cons l t.tail) ∙ sym (cost_sum_assoc of.cost l.cost (path_cost t.tail))
            ∙ ap (λ q. cost_sum q (path_cost t.tail)) sum

        -- one more step is appended
        pub tracing_step : (new : Vec PendingLeg Global) → new.items ≡ pending.items
            ++ pending_of asked.side (record { low = p; leg = l }) ∷ [] → vec_len new ≡ vec_len pending + 1 →
            vec_capacity new ≡ vec_capacity pending → IsPartlyTraced H asked y m p c old new
        tracing_step new pushed len capacity =
            let step : DescentStep = record { low = p; leg = l } in
            record {
              cost = of.cost;
              known = ap (cost_at (costs_of H y)) (sym is) ∙ of.settled.0;
              least = least;
              tail = l ∷ t.tail;
              path = (l_has, subst (λ q. IsUpwardPath (rows_of H asked.side) q m t.tail) (sym found.1) t.path);
              cheap = subst (λ q. IsAtMost q c) (sym total) t.cheap;
              done = t.done ++ step ∷ [];
              descent = λ rest d. subst (IsDescent (rows_of H asked.side) asked.source m) (sym (append_assoc t.done (step ∷ []) rest))
                  (t.descent (step ∷ rest) (ne, choice, d));
              pushed = pushed ∙ ap (λ q. q ++ pending_of asked.side step ∷ []) t.pushed
                  ∙ append_assoc old (map (pending_of asked.side) t.done) (pending_of asked.side step ∷ [])
                  ∙ ap (λ q. old ++ q) (sym (map_push (pending_of asked.side) t.done step));
              room = (let one = some in let cost = ap (λ (q : Cost). q.arcs) sum in let room = t.room in omega arith);
            }
