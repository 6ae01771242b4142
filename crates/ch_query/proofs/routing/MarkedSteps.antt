-- The way back along marks, step by step. If no mark on it says that there is a tie, it is the way of the route.
use Rattle.std.proofs.Common.{◌≡◌, ℕ, ◌+◌, ◌<◌, ◌≤◌, List, [], ◌∷◌, ◌++◌, map, Contains, refl, sym, ◌∙◌, ap, subst, arith}
use Rattle.std.proofs.Common.{inl, inr}
use Rattle.std.specs.Prelude.{◌≢◌, slice_index}
use Rattle.std.proofs.lemmas.List.{append_assoc, append-nil, map_push}
use Rattle.ch_graph.specs.declared.cost.Cost.{Cost}
use Rattle.ch_graph.specs.Cost.{cost_sum}
use Rattle.ch_hierarchy.specs.declared.leg.Leg.{Leg}
use Rattle.ch_hierarchy.specs.Rows.{row}
use Rattle.ch_hierarchy.specs.Hierarchy.{LevelsAndLegs, nodes_of}
use Rattle.ch_hierarchy.specs.Paths.{path_cost, IsLeastUpwardPath}
use Rattle.ch_hierarchy.specs.Ranked.{rank_of}
use Rattle.ch_hierarchy.specs.declared.side.Side.{Side}
use Rattle.ch_hierarchy.specs.Side.{rows_of}
use Rattle.ch_hierarchy.proofs.code.Ranked.{rank_below, rank_one}
use Rattle.ch_query.specs.declared.routes.unpacking.PendingLeg.{PendingLeg}
use Rattle.ch_query.specs.declared.weights.marked.TheConstants.{TIED}
use Rattle.ch_query.specs.Descents.{pending_of, IsTraced}
use Rattle.ch_query.specs.Distance.{IsKeptForSome}
use Rattle.ch_query.specs.Marks.{Allows, mark_of, LeadBack, HasWayBack}
use Rattle.ch_query.specs.Parents.{IsChosen}
use Rattle.ch_query.specs.Routes.{DescentStep, IsDescent}
use Rattle.ch_query.specs.SearchSpace.{IsTight}
use Rattle.ch_query.proofs.one_side.End.{least_reached}
use Rattle.ch_query.proofs.one_side.Expanding.{leg_up}
use Rattle.ch_query.proofs.one_side.Parents.{least_same}
use Rattle.ch_query.proofs.one_side.TightBefore.{EndsWith, ends_with, tight_before}
use Rattle.ch_query.proofs.one_side.TightNodes.{tight_least}
use Rattle.ch_query.proofs.routing.Rows.{row_one, rows_ordered, has_row}

-- the chosen steps from m back to x were appended, and x is tight
pub record IsPartlyBack (H : LevelsAndLegs) (side : Side) (s m x most : ℕ) (old new : List PendingLeg) : Type 0 where
  pub cost : Cost
  pub tight : IsTight H side s x cost
  pub light : cost.weight ≤ most
  pub done : List DescentStep
  pub descent : (rest : List DescentStep) → IsDescent (rows_of H side) s x rest → IsDescent (rows_of H side) s m (done ++ rest)
  pub pushed : new ≡ old ++ map (pending_of side) done

-- at the meet nothing is appended yet
pub back_starts : (H : LevelsAndLegs) (side : Side) (s m : ℕ) (marks : List ℕ) (legs : List PendingLeg) (b : HasWayBack H side s m marks) →
    IsPartlyBack H side s m m b.0.weight legs legs
back_starts H side s m marks legs b =
    record { cost = b.0; tight = b.1; light = omega arith; done = []; descent = λ rest d. d; pushed = sym (append-nil legs) }

-- a mark that is no tie and allows a rank is that rank
pub untied : (mark rank : ℕ) → mark ≢ TIED → Allows mark rank → mark ≡ rank
untied mark rank ne (inl tied) = absurd (ne tied)
untied mark rank ne (inr is) = is

module _ (H : LevelsAndLegs) (k : IsKeptForSome H) (side : Side) (s m x most : ℕ) (marks : List ℕ) (back : LeadBack H side s most marks)
    (old legs : List PendingLeg) (t : IsPartlyBack H side s m x most old legs) where
  -- at the source the way back is complete
  pub back_ends : x ≡ s → IsTraced H side s m old legs
  back_ends is = record {
    steps = t.done;
    descent = subst (IsDescent (rows_of H side) s m) (append-nil t.done) (t.descent [] is);
    pushed = t.pushed;
  }

  module _ (ne : x ≢ s) where
    -- a least path to x ends with a leg
    end : EndsWith (rows_of H side) s x t.cost
    end =
        let least = tight_least H side s x t.cost t.tight in
        subst (EndsWith (rows_of H side) s x) least.path.2 (ends_with (rows_of H side) s x least.path.0 least.path.1 ne)

    -- x is a node of the hierarchy
    pub back_within : x < nodes_of H
    back_within =
        let up = (leg_up H k.2.levelled side end.u end.leg end.has).node in
        let node = end.node in
        omega arith

    -- the mark of a node that is before x on a least path is its rank
    module _ (mark : ℕ) (read : mark ≡ mark_of H side marks x) (single : mark ≢ TIED) where
      named : (u : ℕ) (c : Cost) (l : Leg) → IsTight H side s u c → Contains (row (rows_of H side) u) l → l.node ≡ x →
          cost_sum c l.cost ≡ t.cost → mark ≡ rank_of H u
      named u c l tight has node sum =
          let weighs : c.weight + l.cost.weight ≡ t.cost.weight = ap (λ (q : Cost). q.weight) sum in
          let light = t.light in
          let there = subst (λ q. IsTight H side s q (cost_sum c l.cost)) (sym node)
          (subst (IsTight H side s x) (sym sum) t.tight) in
          let allows = back u c l tight has there (omega arith) in
          untied mark (rank_of H u) single (subst (λ q. Allows q (rank_of H u)) (sym (read ∙ ap (mark_of H side marks) (sym node))) allows)

      -- the node before x on that path is tight
      tight_end : IsTight H side s end.u (path_cost end.before)
      tight_end =
          let sum = ap (λ (q : Cost). q.weight) end.sum in
          let least = tight_least H side s x t.cost t.tight in
          let low = least.weight in
          tight_before H k side s x end.u (path_cost end.before) t.cost end.leg t.tight
          (record { path = (end.before, end.path, refl); weight = omega arith }) end.has end.node end.sum

      rank_end : mark ≡ rank_of H end.u
      rank_end = named end.u (path_cost end.before) end.leg tight_end end.has end.node end.sum

      end_within : end.u < nodes_of H
      end_within = has_row H k.2.levelled side end.u end.leg end.has

      -- the mark is a rank
      pub mark_within : mark < nodes_of H
      mark_within = let low = rank_below H k.2.levelled end.u end_within in let is = rank_end in omega arith

      module _ (low : ℕ) (low_within : low < nodes_of H) (at : rank_of H low ≡ mark) where
        -- the node of this rank is the node before x
        same_low : end.u ≡ low
        same_low = rank_one H k.2.levelled end.u low end_within low_within (sym rank_end ∙ sym at)

        has_low : Contains (row (rows_of H side) low) end.leg
        has_low = subst (λ q. Contains (row (rows_of H side) q) end.leg) same_low end.has

        -- its row has a leg to x
        pub low_has : (row_legs : List Leg) → row_legs ≡ row (rows_of H side) low → (l : Leg) × Contains row_legs l × (l.node ≡ x)
        low_has row_legs e = (end.leg, subst (λ q. Contains q end.leg) (sym e) has_low, end.node)

        module _ (l : Leg) (row_legs : List Leg) (e : row_legs ≡ row (rows_of H side) low)
            (found : Contains row_legs l × (l.node ≡ x)) where
          l_has : Contains (row (rows_of H side) low) l
          l_has = subst (λ q. Contains q l) e found.0

          same_leg : end.leg ≡ l
          same_leg = row_one (row (rows_of H side) low) (rows_ordered H k.2.levelled side low) end.leg l has_low l_has
              (end.node ∙ sym found.1)

          tight_low : IsTight H side s low (path_cost end.before)
          tight_low = subst (λ q. IsTight H side s q (path_cost end.before)) same_low tight_end

          sum_low : cost_sum (path_cost end.before) l.cost ≡ t.cost
          sum_low = ap (λ (q : Leg). cost_sum (path_cost end.before) q.cost) (sym same_leg) ∙ end.sum

          -- it is lower than x
          pub low_lower : slice_index H.level low < slice_index H.level x
          low_lower =
              let higher = (leg_up H k.2.levelled side low l l_has).higher in
              let node = ap (slice_index H.level) found.1 in
              omega arith

          -- the step to it is the chosen one: no other node is before x on a least path
          choice : IsChosen (rows_of H side) s x low l
          choice =
              let least = tight_least H side s x t.cost t.tight in
              record {
                last = (
                  l_has,
                  found.1,
                  path_cost end.before,
                  tight_least H side s low (path_cost end.before) tight_low,
                  subst (IsLeastUpwardPath (rows_of H side) s x) (sym sum_low) least,
                );
                least = λ w j last.
                    let total = least_same (rows_of H side) s x (cost_sum last.2 j.cost) t.cost last.4 least in
                    let tight = tight_before H k side s x w last.2 t.cost j t.tight (least_reached (rows_of H side) s w last.2 last.3)
                    last.0 last.1 total in
                    let rank = named w last.2 j tight last.0 last.1 total in
                    let is : low ≡ w = rank_one H k.2.levelled low w low_within (has_row H k.2.levelled side w j last.0) (at ∙ rank) in
                    omega arith;
              }

          -- one more step is appended
          pub back_step : (new : List PendingLeg) → new ≡ legs ++ pending_of side (record { low = low; leg = l }) ∷ [] →
              IsPartlyBack H side s m low most old new
          back_step new pushed =
              let step : DescentStep = record { low = low; leg = l } in
              let weighs = ap (λ (q : Cost). q.weight) sum_low in
              let light = t.light in
              record {
                cost = path_cost end.before;
                tight = tight_low;
                light = omega arith;
                done = t.done ++ step ∷ [];
                descent = λ rest d. subst (IsDescent (rows_of H side) s m) (sym (append_assoc t.done (step ∷ []) rest))
                    (t.descent (step ∷ rest) (ne, choice, d));
                pushed = pushed ∙ ap (λ q. q ++ pending_of side step ∷ []) t.pushed
                    ∙ append_assoc old (map (pending_of side) t.done) (pending_of side step ∷ [])
                    ∙ ap (λ q. old ++ q) (sym (map_push (pending_of side) t.done step));
              }
