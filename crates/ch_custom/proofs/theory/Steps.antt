-- The steps of customization: what each needs, and that each keeps the arrays right.
use Rattle.std.proofs.Common.{◌≡◌, ℕ, suc, ◌+◌, ◌<◌, ◌≤◌, Bool, true, false, cond, List, [], length, get_or, Contains, Option, Some, None}
use Rattle.std.proofs.Common.{refl, sym, ◌∙◌, ap, subst, arith, inl, inr}
use Rattle.std.specs.Prelude.{◌≢◌, ◌==◌, ◌||◌, All, AllPairs, map, min, slice_index, slice_index_or}
use Rattle.std.proofs.lemmas.Bool.{cases_eq, cases_lt, eqb-true}
use Rattle.std.proofs.lemmas.Grind.{get_or_default_zero}
use Rattle.std.proofs.lemmas.List.{get_or-map, length-map}
use Rattle.ch_graph.specs.Cost.{cost_sum}
use Rattle.ch_graph.specs.Graph.{Network, IsWithinLimits}
use Rattle.ch_graph.proofs.Lists.{contains_map}
use Rattle.ch_hierarchy.specs.declared.leg.Leg.{Leg}
use Rattle.ch_hierarchy.specs.Rows.{row, IsRow}
use Rattle.ch_hierarchy.specs.Saved.{IsOrderOf}
use Rattle.ch_contract.specs.Legs.{Label, Legs, turned_legs}
use Rattle.ch_contract.specs.Order.{AreTaken}
use Rattle.ch_contract.proofs.theory.RowLegs.{none_unless}
use Rattle.ch_custom.specs.Customizing.{leg_over, cheaper_leg, legs_lowered, Lowers, StaysIn}
use Rattle.ch_custom.specs.Metric.{IsHeld}
use Rattle.ch_custom.specs.Topologies.{AreHigher, HasLegs, IsMetric, AreRelaxed, HasNone, leg_over_at, legs_after, AreRowsIn, AreFor}
use Rattle.ch_custom.specs.Topologies.{AreMetricsAt}
use Rattle.ch_custom.proofs.theory.Customizing.{legs_stay_in_topologies}
use Rattle.ch_custom.proofs.theory.Relaxing.{node_of, keeps_metric, passed}

-- the rows of a topology are sound
pub sound_rows : (g : Network) (order : List ℕ) (rows : List (List ℕ)) → AreFor g order rows → AreRowsIn g order rows
sound_rows g order rows ready = record { size = ready.size; sound = ready.sound }

-- a row whose nodes are in order is in order
pub ordered_row : (legs : List Leg) (nodes : List ℕ) → map (λ l. l.node) legs ≡ nodes → AllPairs ◌<◌ nodes → IsRow legs
ordered_row legs nodes same less i j d lt inside =
    let size : length legs ≡ length nodes = sym (length-map legs node_of) ∙ ap length same in
    let at : (k : ℕ) → k < length legs → get_or nodes k 0 ≡ (get_or legs k d).node =
    λ k below. ap (λ (z : List ℕ). get_or z k 0) (sym same) ∙ get_or-map node_of legs k d 0 below in
    let one = at i (omega arith) in
    let two = at j inside in
    let first : get_or nodes i 0 < get_or nodes j 0 = less i j 0 lt (omega arith) in
    omega arith

-- the two legs over a node may be given in either order
over_turned : (n v : ℕ) (o p q : Option Label) → leg_over n v o p q ≡ leg_over n v p o q
over_turned n v None None q = refl
over_turned n v None (Some b) q = refl
over_turned n v (Some a) None q = refl
over_turned n v (Some a) (Some b) q = ap (λ z. cheaper_leg n v z q) (swapped a b)
  where
    swapped : (a b : Label) → cost_sum a.cost b.cost ≡ cost_sum b.cost a.cost
    swapped a b = grind arith

-- the legs after one more step, between nodes that are left
lowered_at : (n : ℕ) (L : Legs) (v u w : ℕ) → u ≢ v → w ≢ v → u ≢ w → legs_lowered n L v u w ≡ leg_over n v (L u v) (L v w) (L u w)
lowered_at n L v u w nu nw ne = at (u == v) (w == v) (u == w) refl refl refl
  where
    at : (x y z : Bool) → (u == v) ≡ x → (w == v) ≡ y → (u == w) ≡ z →
        cond (x || (y || z)) None (leg_over n v (L u v) (L v w) (L u w)) ≡ leg_over n v (L u v) (L v w) (L u w)
    at true y z e f k = absurd (nu (eqb-true u v e))
    at false true z e f k = absurd (nw (eqb-true w v f))
    at false false true e f k = absurd (ne (eqb-true u w k))
    at false false false e f k = refl

module _ (g : Network) (order : List ℕ) (rows : List (List ℕ)) (limits : IsWithinLimits g) (ready : AreFor g order rows) where
  -- the order has each node once
  pub nodes : IsOrderOf g.nodes order
  nodes = subst (λ n. IsOrderOf n order) ready.size ready.sound.nodes

  -- the rows lead to higher places
  pub higher : AreHigher g.nodes order rows
  higher = subst (λ n. AreHigher n order rows) ready.size ready.sound.higher

  -- each place has a node of its own
  pub single : (i j : ℕ) → i < g.nodes → j < g.nodes → slice_index order i ≡ slice_index order j → i ≡ j
  single i j a b e =
      let size = nodes.count in
      elim (cases_lt i j) [
        | inl less ↦ absurd (nodes.distinct i j less (omega arith) e)
        | inr le ↦ elim (cases_eq i j) [
          | inl same ↦ same
          | inr ne ↦ absurd (nodes.distinct j i (omega arith) (omega arith) (sym e))
        ]
      ]

  -- one more step lowers the legs
  pub step : (k : ℕ) → Lowers g.nodes (legs_after g order k) (slice_index order k) (legs_after g order (k + 1))
  step k u w = let e : suc k ≡ k + 1 = omega arith in
      subst (λ z. legs_after g order z u w ≡ legs_lowered g.nodes (legs_after g order k) (slice_index order k) u w) e refl

  -- the nodes are taken in this order
  pub taken : AreTaken (Lowers g.nodes) g order (legs_after g order)
  taken = record {
    nodes = let size = nodes.count in (
      size,
      (λ i d lt. subst (λ z. z < g.nodes) (sym (at i d lt)) (nodes.within i lt)),
      λ i j d lt below e. nodes.distinct i j lt below (sym (at i d (omega arith)) ∙ e ∙ at j d below),
    );
    start = λ u w. refl;
    step = λ k lt. step k;
  }
    where
      at : (i d : ℕ) → i < length order → get_or order i d ≡ slice_index order i
      at i d lt = get_or_default_zero order i d lt

  -- the legs stay in the topology
  pub in_topology : (k : ℕ) → k ≤ g.nodes → StaysIn rows g order (legs_after g order k)
  in_topology = legs_stay_in_topologies g order (legs_after g order) rows limits taken ready.topology

  -- no leg leads to a node that is not in the row
  none_out : (k : ℕ) → k < g.nodes → (i : ℕ) → k < i → i < g.nodes →
      (Contains (slice_index_or rows (slice_index order k) []) (slice_index order i) → ⊥) →
      HasNone (legs_after g order k) (slice_index order k) (slice_index order i)
  none_out k lt i past below not =
      let stays = in_topology k (omega arith) k i past below in
      (none_unless _ (λ l e. not (stays.0 (rw e refl))), none_unless _ (λ l e. not (stays.1 (rw e refl))))

  -- the legs of the node that is taken, where the arrays have its whole row
  pub taken_legs : (own : List (List ℕ)) (T : ℕ → Legs) (k m : ℕ) → k < g.nodes → k ≤ m →
      slice_index_or own (slice_index order k) [] ≡ slice_index_or rows (slice_index order k) [] → (metric : List (List Leg)) →
      IsMetric g.nodes order own (λ i. T (min i m)) metric →
      HasLegs (T k (slice_index order k)) (slice_index_or rows (slice_index order k) []) (row metric (slice_index order k))
  taken_legs own T k m lt le whole metric are =
      let e : min k m ≡ k = omega arith in
      subst (λ z. HasLegs (T k (slice_index order k)) z (row metric (slice_index order k))) whole
      (subst (λ z. HasLegs (T z (slice_index order k)) (slice_index_or own (slice_index order k) [])
      (row metric (slice_index order k))) e (are.each k lt))

  -- one more step, in the other direction
  turned_step : (k x w : ℕ) → x ≢ slice_index order k → w ≢ slice_index order k → x ≢ w →
      turned_legs (legs_after g order (k + 1)) x w ≡ leg_over_at g.nodes (slice_index order k) (turned_legs (legs_after g order k)) x w
  turned_step k x w nx nw ne =
      step k w x ∙ lowered_at g.nodes (legs_after g order k) (slice_index order k) w x nw nx (λ e. ne (sym e))
      ∙ over_turned g.nodes (slice_index order k) (legs_after g order k w (slice_index order k))
      (legs_after g order k (slice_index order k) x) (legs_after g order k w x)

  -- one more step
  straight_step : (k x w : ℕ) → x ≢ slice_index order k → w ≢ slice_index order k → x ≢ w →
      legs_after g order (k + 1) x w ≡ leg_over_at g.nodes (slice_index order k) (legs_after g order k) x w
  straight_step k x w nx nw ne = step k x w ∙ lowered_at g.nodes (legs_after g order k) (slice_index order k) x w nx nw ne

  module _ (own : List (List ℕ)) (part : AreRowsIn g order own) where
    -- the rows of the arrays lead to higher places
    higher_own : AreHigher g.nodes order own
    higher_own = subst (λ n. AreHigher n order own) part.size part.sound.higher

    -- the row of a node that is in the row of another is in order and can be added up
    ready_row : (T : ℕ → Legs) (metric : List (List Leg)) → IsMetric g.nodes order own T metric → (k w : ℕ) → k < g.nodes →
        Contains (slice_index_or rows (slice_index order k) []) w →
        (w < length metric) × IsRow (row metric w) × All IsHeld (row metric w)
    ready_row T metric are k w lt c =
        let h = higher k w lt c in
        let size = are.size in
        let count = nodes.count in
        let within = nodes.within h.0 (omega (arith, h.2)) in
        let has = are.each h.0 h.2 in
        subst (λ z. (z < length metric) × IsRow (row metric z) × All IsHeld (row metric z)) h.3
        (omega arith, ordered_row _ _ has.ends (part.sound.ordered (slice_index order h.0)), has.held)

    -- a step that lowers no row of the arrays keeps them
    pub step_passed : (k : ℕ) → k < g.nodes →
        ((i x : ℕ) → k < i → i < g.nodes → Contains (slice_index_or own (slice_index order i) []) x →
        Contains (slice_index_or rows (slice_index order k) []) (slice_index order i) → ⊥) →
        (ups downs : List (List Leg)) → AreMetricsAt g order own k ups downs → AreMetricsAt g order own (k + 1) ups downs
    step_passed k lt passes ups downs are = (
      passed g.nodes order rows own (legs_after g order) k single higher_own (straight_step k) (none_out k lt) passes ups are.0,
      passed g.nodes order rows own (λ i. turned_legs (legs_after g order i)) k single higher_own (turned_step k)
          (λ i past below not. let none = none_out k lt i past below not in (none.1, none.0)) passes downs are.1,
    )

    module _ (k : ℕ) (below : k < length order) (ups downs : List (List Leg)) (are : AreMetricsAt g order own k ups downs)
        (ins outs : List Leg)
        (ins_now : HasLegs (λ x. legs_after g order k x (slice_index order k)) (slice_index_or rows (slice_index order k) []) ins)
        (outs_now : HasLegs (legs_after g order k (slice_index order k)) (slice_index_or rows (slice_index order k) []) outs) where
      -- the place is one of the nodes
      place_within : k < g.nodes
      place_within = let count = nodes.count in omega arith

      -- the node of each leg is in the row of the topology
      of_topology : (legs : List Leg) → map (λ l. l.node) legs ≡ slice_index_or rows (slice_index order k) [] → (l : Leg) →
          Contains legs l → Contains (slice_index_or rows (slice_index order k) []) l.node
      of_topology legs ends l c = subst (λ (z : List ℕ). Contains z l.node) ends (contains_map node_of legs l c)

      -- what a step needs of the legs of the node
      pub ins_ready : IsRow ins × All IsHeld ins
      ins_ready = (ordered_row ins _ ins_now.ends (ready.sound.ordered (slice_index order k)), ins_now.held)

      pub outs_ready : IsRow outs × All IsHeld outs
      outs_ready = (ordered_row outs _ outs_now.ends (ready.sound.ordered (slice_index order k)), outs_now.held)

      -- what a step needs of the rows of their nodes
      pub ups_ready : (l : Leg) → Contains outs l → (l.node < length ups) × IsRow (row ups l.node) × All IsHeld (row ups l.node)
      ups_ready l c = ready_row _ ups are.0 k l.node place_within (of_topology outs outs_now.ends l c)

      pub downs_ready : (l : Leg) → Contains ins l → (l.node < length downs) × IsRow (row downs l.node) × All IsHeld (row downs l.node)
      downs_ready l c = ready_row _ downs are.1 k l.node place_within (of_topology ins ins_now.ends l c)

      -- the arrays after the step
      keeps_ups : (new : List (List Leg)) → AreRelaxed g.nodes (slice_index order k) ins outs ups new →
          IsMetric g.nodes order own (λ i. legs_after g order (min i (k + 1))) new
      keeps_ups new relaxed =
          keeps_metric g.nodes order rows own (legs_after g order) k ins outs ups new place_within single higher higher_own
          (straight_step k) (none_out k place_within) ins_now outs_now are.0 relaxed

      keeps_downs : (new : List (List Leg)) → AreRelaxed g.nodes (slice_index order k) outs ins downs new →
          IsMetric g.nodes order own (λ i. turned_legs (legs_after g order (min i (k + 1)))) new
      keeps_downs new relaxed =
          keeps_metric g.nodes order rows own (λ i. turned_legs (legs_after g order i)) k outs ins downs new place_within single higher
          higher_own (turned_step k)
          (λ i past under not. let none = none_out k place_within i past under not in (none.1, none.0)) outs_now ins_now are.1 relaxed

      pub step_keeps : (n : ℕ) → n ≡ g.nodes → (new_ups new_downs : List (List Leg)) →
          AreRelaxed n (slice_index order k) ins outs ups new_ups → AreRelaxed n (slice_index order k) outs ins downs new_downs →
          AreMetricsAt g order own (k + 1) new_ups new_downs
      step_keeps n same new_ups new_downs up down = (
        keeps_ups new_ups (subst (λ z. AreRelaxed z (slice_index order k) ins outs ups new_ups) same up),
        keeps_downs new_downs (subst (λ z. AreRelaxed z (slice_index order k) outs ins downs new_downs) same down),
      )
