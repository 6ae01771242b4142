-- One step of customization over pairs of legs: what it needs, and what it keeps.
use Rattle.std.proofs.Common.{◌≡◌, ℕ, ◌+◌, ◌<◌, ◌≤◌, List, [], length, Contains, sym, ◌∙◌, ap, subst, arith}
use Rattle.std.specs.Prelude.{All, slice_index, slice_index_or}
use Rattle.ch_graph.specs.Graph.{Network, IsWithinLimits}
use Rattle.ch_graph.proofs.Lists.{contains_map}
use Rattle.ch_hierarchy.specs.declared.side.Side.TheVariants.{Up, Down}
use Rattle.ch_hierarchy.specs.Rows.{IsRow}
use Rattle.ch_contract.specs.Legs.{turned_legs}
use Rattle.ch_custom.specs.declared.leg_pair.LegPair.{LegPair}
use Rattle.ch_custom.specs.Metric.{IsHeld}
use Rattle.ch_custom.specs.Topologies.{HasLegs, legs_after, AreRowsIn, AreFor, AreMetricsAt}
use Rattle.ch_custom.specs.LegPairs.{leg_of, row_of, rows_at, pairs_row, IsReady, ArePairsRelaxed}
use Rattle.ch_custom.specs.Parts.{AreTakenAt}
use Rattle.ch_custom.proofs.theory.LegPairs.{row_at, rows_size}
use Rattle.ch_custom.proofs.theory.Steps.{nodes, taken_legs, ins_ready, outs_ready, ups_ready, downs_ready, step_keeps}

module _ (g : Network) (order : List ℕ) (rows : List (List ℕ)) (limits : IsWithinLimits g) (ready : AreFor g order rows) where
  -- the legs of the node at a place just before it is taken, where the arrays have its whole row
  pub taken_here : (own : List (List ℕ)) (k m : ℕ) → k < length order → k ≤ m →
      slice_index_or own (slice_index order k) [] ≡ slice_index_or rows (slice_index order k) [] → (metric : List (List LegPair)) →
      AreMetricsAt g order own m (rows_at Up metric) (rows_at Down metric) → (taken : List LegPair) →
      taken ≡ pairs_row metric (slice_index order k) → AreTakenAt g order rows k taken
  taken_here own k m below le whole metric are taken is =
      let many = (nodes g order rows limits ready).count in
      let node = (nodes g order rows limits ready).within k below in
      let size = are.0.size in
      let same = rows_size Up metric in
      let its_row : slice_index order k < length metric = omega arith in (
        subst (HasLegs (legs_after g order k (slice_index order k)) (slice_index_or rows (slice_index order k) []))
            (row_at Up metric (slice_index order k) its_row ∙ ap (row_of Up) (sym is))
            (taken_legs g order rows limits ready own (legs_after g order) k m (omega arith) le whole (rows_at Up metric) are.0),
        subst (HasLegs (λ x. legs_after g order k x (slice_index order k)) (slice_index_or rows (slice_index order k) []))
            (row_at Down metric (slice_index order k) its_row ∙ ap (row_of Down) (sym is))
            (taken_legs g order rows limits ready own (λ i. turned_legs (legs_after g order i)) k m (omega arith) le whole
            (rows_at Down metric) are.1),
      )

  module _ (own : List (List ℕ)) (part : AreRowsIn g order own) (k : ℕ) (below : k < length order)
      (metric : List (List LegPair)) (are : AreMetricsAt g order own k (rows_at Up metric) (rows_at Down metric)) (taken : List LegPair)
      (now : AreTakenAt g order rows k taken) where
    -- the node that is taken is one of the graph
    pub taken_node : slice_index order k < g.nodes
    taken_node = (nodes g order rows limits ready).within k below

    -- its row is in order and can be added up
    pub taken_ready : IsReady taken
    taken_ready Up = outs_ready g order rows limits ready own part k below _ _ are _ _ now.1 now.0
    taken_ready Down = ins_ready g order rows limits ready own part k below _ _ are _ _ now.1 now.0

    -- there is a row for each node of its row
    pub has_row : (p : LegPair) → Contains taken p → p.node < length metric
    has_row p c = subst (λ z. p.node < z) (rows_size Up metric)
        (ups_ready g order rows limits ready own part k below _ _ are _ _ now.1 now.0 (leg_of Up p) (contains_map (leg_of Up) taken p c)).0

    -- these rows are in order and can be added up
    pub rows_ready : (p : LegPair) → Contains taken p → IsReady (pairs_row metric p.node)
    rows_ready p c Up =
        let r = ups_ready g order rows limits ready own part k below _ _ are _ _ now.1 now.0 (leg_of Up p)
        (contains_map (leg_of Up) taken p c) in
        subst (λ z. IsRow z × All IsHeld z) (row_at Up metric p.node (has_row p c)) (r.1, r.2)
    rows_ready p c Down =
        let r = downs_ready g order rows limits ready own part k below _ _ are _ _ now.1 now.0 (leg_of Down p)
        (contains_map (leg_of Down) taken p c) in
        subst (λ z. IsRow z × All IsHeld z) (row_at Down metric p.node (has_row p c)) (r.1, r.2)

    -- the rows after the step
    pub pairs_keep : (n : ℕ) → n ≡ g.nodes → (new : List (List LegPair)) → ArePairsRelaxed n (slice_index order k) taken metric new →
        AreMetricsAt g order own (k + 1) (rows_at Up new) (rows_at Down new)
    pairs_keep n same new relaxed =
        step_keeps g order rows limits ready own part k below _ _ are _ _ now.1 now.0 n same _ _ (relaxed Up) (relaxed Down)
