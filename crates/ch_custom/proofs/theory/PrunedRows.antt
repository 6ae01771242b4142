-- The hierarchy of the legs that are left: it is what pruning leaves of the customized hierarchy.
use Rattle.std.proofs.Common.{◌≡◌, ℕ, ◌+◌, ◌<◌, ◌≤◌, true, List, [], ◌∷◌, length, get_or, Contains, Option, Some}
use Rattle.std.proofs.Common.{refl, sym, ◌∙◌, ap, subst, arith, inl, inr}
use Rattle.std.specs.Prelude.{◌≢◌, ◌⊎◌, IsSome, map, filter, slice_index, slice_index_or}
use Rattle.std.proofs.lemmas.Bool.{cases_eq, cases_lt}
use Rattle.std.proofs.lemmas.Bool.Decides.{nat_tests}
use Rattle.std.proofs.lemmas.List.{get_or-map, length-map, get_or_past}
use Rattle.std.proofs.lemmas.Simd.{map-map}
use Rattle.std.proofs.lemmas.List.Elements.{Contains-get_or, All-contains}
use Rattle.std.proofs.lemmas.List.Kept.{AllPairs-filter}
use Rattle.ch_graph.specs.declared.arc.InArc.{InArc}
use Rattle.ch_graph.specs.declared.cost.Cost.{Cost}
use Rattle.ch_graph.specs.declared.limits.TheConstants.{MOST_NODES, MOST_WEIGHT}
use Rattle.ch_graph.specs.Graph.{Network, IsArcWithin, IsWithinLimits}
use Rattle.ch_graph.specs.Walk.{IsLeast}
use Rattle.ch_graph.proofs.Lists.{contains_map, contains_map_of, contains_filter, contains_filter_of, contains_none}
use Rattle.ch_hierarchy.specs.declared.leg.Leg.{Leg}
use Rattle.ch_hierarchy.specs.declared.side.Side.{Side}
use Rattle.ch_hierarchy.specs.declared.side.Side.TheVariants.{Up, Down}
use Rattle.ch_hierarchy.specs.Hierarchy.{LevelsAndLegs, AreLevels, IsLegUp, AreLegsUp, IsLevelled}
use Rattle.ch_hierarchy.specs.Kept.{IsLeg, HasLegWithin, IsKept}
use Rattle.ch_hierarchy.specs.Rows.{row, IsRow}
use Rattle.ch_hierarchy.specs.Saved.{AreLevelsOf}
use Rattle.ch_contract.specs.Legs.{Label}
use Rattle.ch_contract.specs.LegRows.{label_of}
use Rattle.ch_contract.proofs.theory.OneInTurn.{taken_at}
use Rattle.ch_contract.proofs.theory.RowLegs.{row_has, row_member, leg_at as made_leg}
use Rattle.ch_custom.specs.declared.leg_pair.LegPair.{LegPair}
use Rattle.ch_custom.specs.LegPairs.{leg_of, no_pair, row_of, rows_at, pairs_row}
use Rattle.ch_custom.specs.Metric.{held_leg}
use Rattle.ch_custom.specs.Opening.{is_live}
use Rattle.ch_custom.specs.Exact.{IsLeastAt, held, pair_at, taken_leg}
use Rattle.ch_custom.specs.Pruning.{IsArcLeg, IsLeft, AreLeft, IsPruned, HasCustomized, IsCustomizedAndPruned}
use Rattle.ch_custom.specs.Topologies.{legs_after, AreFor}
use Rattle.ch_custom.proofs.theory.Exact.{place_in, its_node, later_end}
use Rattle.ch_custom.proofs.theory.ExactLegs.{least_arcs}
use Rattle.ch_custom.proofs.theory.Left.{held_label, arc_one}
use Rattle.ch_custom.proofs.theory.LegPairs.{leg_node, row_at, rows_size}
use Rattle.ch_custom.proofs.theory.Pruned.{pruned_are_kept}
use Rattle.ch_custom.proofs.theory.Relaxing.{node_of}
use Rattle.ch_custom.proofs.theory.Steps.{nodes, taken, in_topology, ordered_row}

-- what is live
live_light : (l : Leg) → is_live l ≡ true → l.cost.weight ≤ MOST_WEIGHT
live_light l e = grind (arith, nat_tests)

light_live : (l : Leg) → l.cost.weight ≤ MOST_WEIGHT → is_live l ≡ true
light_live l le = grind (arith, nat_tests)

-- the legs of a direction, without the places that have none
abbrev pub left_rows : Side → List (List LegPair) → List (List Leg)
left_rows side metric = map (λ r. filter is_live r) (rows_at side metric)

module _ (g : Network) (order levels : List ℕ) (rows : List (List ℕ)) (limits : IsWithinLimits g) (ready : AreFor g order rows)
    (levelled_by : AreLevelsOf order levels) (has : HasCustomized g order levels) (metric : List (List LegPair))
    (left : AreLeft g order rows g.arcs metric) where
  abbrev v : ℕ → ℕ
  v i = slice_index order i

  -- the pairs of the node at a place
  abbrev its : ℕ → List LegPair
  its i = pairs_row metric (v i)

  abbrev H : LevelsAndLegs
  H = has.hierarchy

  -- what is left
  abbrev pub P : LevelsAndLegs
  P = record { level = levels; up = left_rows Up metric; down = left_rows Down metric }

  count : (length order ≡ g.nodes) × (length levels ≡ g.nodes)
  count = let is = (nodes g order rows limits ready).count in (is, levelled_by.count ∙ is)

  -- each node has a place
  place_of : (x : ℕ) → x < g.nodes → (i : ℕ) × (i < g.nodes) × (v i ≡ x)
  place_of x lt = taken_at g.nodes order x (taken g order rows limits ready).nodes lt

  level_of : (i : ℕ) → i < g.nodes → slice_index levels (v i) ≡ i + 1
  level_of i lt = let c = count in levelled_by.each i (omega arith)

  -- the row of a node in a direction
  row_now : (side : Side) (i : ℕ) → i < g.nodes → row (left_rows side metric) (v i) ≡ filter is_live (row_of side (its i))
  row_now side i lt =
      let inside : v i < length metric = subst (λ z. v i < z) (sym left.size) (its_node g order rows limits ready i lt) in
      get_or-map (λ r. filter is_live r) (rows_at side metric) (v i) [] [] (omega (arith, rows_size side metric))
      ∙ ap (filter is_live) (row_at side metric (v i) inside)

  many : (side : Side) → length (left_rows side metric) ≡ g.nodes
  many side = length-map (rows_at side metric) (λ r. filter is_live r) ∙ rows_size side metric ∙ left.size

  -- a node with a leg is one of the graph
  known : (side : Side) (x : ℕ) (l : Leg) → Contains (row (left_rows side metric) x) l → x < g.nodes
  known side x l c = elim (cases_lt x g.nodes) [
    | inl lt ↦ lt
    | inr past ↦ absurd (contains_none l (subst (λ (z : List Leg). Contains z l) (get_or_past (left_rows side metric) x [] (omega
        (arith, many side))) c))
  ]

  -- a leg that is left, and what is known of it
  leg_left : (side : Side) (i : ℕ) (l : Leg) → i < g.nodes → Contains (row (left_rows side metric) (v i)) l →
      IsLeft g g.arcs side (v i) l.node (taken_leg g order side i l.node) (Some (label_of l)) × (l.cost.weight ≤ MOST_WEIGHT)
      × ((j : ℕ) × (i < j) × (j < g.nodes) × (v j ≡ l.node))
  leg_left side i l lt c =
      let live = contains_filter_of is_live (row_of side (its i)) l (subst (λ (z : List Leg). Contains z l) (row_now side i lt) c) in
      let m = contains_map_of (leg_of side) (its i) l live.0 in
      let k = m.1.0 in
      let below = m.1.1 in
      let is : leg_of side (pair_at (its i) k m.0) ≡ l = ap (leg_of side) m.1.2 ∙ m.2 in
      let node : (pair_at (its i) k m.0).node ≡ l.node = sym (leg_node side (pair_at (its i) k m.0)) ∙ ap node_of is in
      let fits : is_live l ≡ true = live.1 in
      let mine : held side (pair_at (its i) k m.0) ≡ Some (label_of l) =
      ap held_leg is ∙ (let h : held_leg l ≡ Some (label_of l) = rw fits refl in h) in
      let later = later_end g order rows limits ready i lt (its i) (left.ends i lt) k m.0 below in (
        subst (λ z. IsLeft g g.arcs side (v i) l.node (taken_leg g order side i l.node) z) mine
            (subst (λ z. IsLeft g g.arcs side (v i) z (taken_leg g order side i z) (held side (pair_at (its i) k m.0))) node
            (left.each i lt side k m.0 below)),
        live_light l fits,
        (later.0, later.1, later.2, later.3 ∙ node),
      )

  -- a leg that a pair holds is left
  held_left : (side : Side) (i k : ℕ) (d : LegPair) (x : ℕ) (l : Label) → i < g.nodes → k < length (its i) →
      (pair_at (its i) k d).node ≡ x → held side (pair_at (its i) k d) ≡ Some l → Contains (row (left_rows side metric) (v i))
      (made_leg x l)
  held_left side i k d x l lt below node is =
      let p = pair_at (its i) k d in
      let h = held_label (leg_of side p) l is in
      let fits = light_live (leg_of side p) h.0 in
      let same : leg_of side p ≡ made_leg x l = leg_is (leg_of side p) x l (leg_node side p ∙ node) h.1 in
      subst (λ (z : List Leg). Contains z (made_leg x l)) (sym (row_now side i lt))
      (subst (Contains (filter is_live (row_of side (its i)))) same
      (contains_filter is_live (row_of side (its i)) (leg_of side p)
      (contains_map (leg_of side) (its i) p (Contains-get_or (its i) k d below)) fits))
    where
      leg_is : (q : Leg) (x : ℕ) (l : Label) → q.node ≡ x → label_of q ≡ l → q ≡ made_leg x l
      leg_is q x l node label = λ i. record { node = node i; cost = (label i).cost; middle = (label i).middle }

  -- the rows are in order
  in_order : (side : Side) (x : ℕ) → IsRow (row (left_rows side metric) x)
  in_order side x = elim (cases_lt x g.nodes) [
    | inl lt ↦
        let i = place_of x lt in
        let ends : map (λ (l : Leg). l.node) (row_of side (its i.0)) ≡ slice_index_or rows (v i.0) [] =
        map-map node_of (leg_of side) (its i.0) ∙ nodes_of_row side (its i.0) ∙ left.ends i.0 i.1 in
        subst (λ z. IsRow (row (left_rows side metric) z)) i.2
        (subst IsRow (sym (row_now side i.0 i.1))
        (AllPairs-filter (λ (a b : Leg). a.node < b.node) is_live (row_of side (its i.0))
        (ordered_row (row_of side (its i.0)) (slice_index_or rows (v i.0) []) ends (ready.sound.ordered (v i.0)))))
    | inr past ↦ λ a b d less below.
        let c = known side x (get_or (row (left_rows side metric) x) b d) (Contains-get_or (row (left_rows side metric) x) b d below) in
        absurd (omega arith)
  ]
    where
      nodes_of_row : (side : Side) (xs : List LegPair) → map (λ p. node_of (leg_of side p)) xs ≡ map (λ p. p.node) xs
      nodes_of_row side [] = refl
      nodes_of_row side (x ∷ xs) = λ i. leg_node side x i ∷ nodes_of_row side xs i

  -- each leg leads to a higher node and is within the limits
  leg_up : (side : Side) (x : ℕ) (l : Leg) → Contains (row (left_rows side metric) x) l → IsLegUp P x l
  leg_up side x l c =
      let lt = known side x l c in
      let i = place_of x lt in
      let is = leg_left side i.0 l i.1 (subst (λ z. Contains (row (left_rows side metric) z) l) (sym i.2) c) in
      let j = is.2 in
      let one = level_of i.0 i.1 in
      let two = level_of j.0 j.2 in
      let mine : slice_index levels (v i.0) ≡ slice_index levels x = ap (slice_index levels) i.2 in
      let its : slice_index levels (v j.0) ≡ slice_index levels l.node = ap (slice_index levels) j.3 in
      let size = count in
      let end : l.node < g.nodes = subst (λ z. z < g.nodes) j.3 (its_node g order rows limits ready j.0 j.2) in
      let start = its_node g order rows limits ready i.0 i.1 in
      let few : l.cost.arcs < g.nodes = elim (is.0.others (label_of l) refl) [
        | inl exact ↦ least_arcs g side (v i.0) l.node l.cost limits start end exact.1
        | inr arc ↦ let n = (arc_one g side (v i.0) l.node (label_of l) arc).1 in let some = j.1 in let all = j.2 in omega arith
      ] in
      record {
        node = subst (λ z. l.node < z) (sym size.1) end;
        higher = let rise = j.1 in omega arith;
        weight = is.1;
        arcs = subst (λ z. l.cost.arcs < z) (sym size.1) few;
      }

  legs_up : (side : Side) → AreLegsUp P (left_rows side metric)
  legs_up side = (
    let c = count in many side ∙ sym c.1,
    λ x. (in_order side x, λ k d below. leg_up side x _ (Contains-get_or (row (left_rows side metric) x) k d below)),
  )

  -- it is levelled
  pub levelled_left : IsLevelled P
  levelled_left = record {
    count = subst (λ (z : List ℕ). length z ≤ MOST_NODES) has.level has.levelled.count;
    levels = subst AreLevels has.level has.levelled.levels;
    up = legs_up Up;
    down = legs_up Down;
  }

  -- a leg of the customized hierarchy is one that is taken, and its end is a later place of the row
  module _ (side : Side) (i : ℕ) (l : Leg) (lt : i < g.nodes) (is : taken_leg g order side i l.node ≡ Some (label_of l))
      (end : l.node < g.nodes)
      (higher : slice_index H.level (v i) < slice_index H.level l.node) where
    later : (j : ℕ) × (i < j) × (j < g.nodes) × (v j ≡ l.node)
    later =
        let j = place_of l.node end in
        let one = level_of i lt in
        let two = level_of j.0 j.1 in
        let its : slice_index levels (v j.0) ≡ slice_index levels l.node = ap (slice_index levels) j.2 in
        let up = subst (λ (z : List ℕ). slice_index z (v i) < slice_index z l.node) has.level higher in
        (j.0, omega arith, j.1, j.2)

    inside : Contains (slice_index_or rows (v i) []) l.node
    inside =
        let j = later in
        let stays = in_topology g order rows limits ready i (omega arith) i j.0 j.1 j.2 in
        subst (Contains (slice_index_or rows (v i) [])) j.3 (at side j.0 j.3 stays.0 stays.1 is)
      where
        at : (side : Side) (j : ℕ) → v j ≡ l.node →
            (IsSome (legs_after g order i (v i) (v j)) → Contains (slice_index_or rows (v i) []) (v j)) →
            (IsSome (legs_after g order i (v j) (v i)) → Contains (slice_index_or rows (v i) []) (v j)) →
            taken_leg g order side i l.node ≡ Some (label_of l) → Contains (slice_index_or rows (v i) []) (v j)
        at Up j same one two some = one (rw (ap (legs_after g order i (v i)) same ∙ some) refl)
        at Down j same one two some = two (rw (ap (λ z. legs_after g order i z (v i)) same ∙ some) refl)

    -- it is left if it has the least cost
    kept_leg : IsLeastAt g side (v i) l.node l.cost → Contains (row (left_rows side metric) (v i)) l
    kept_leg least =
        let k = place_in (its i) l.node (subst (λ (z : List ℕ). Contains z l.node) (sym (left.ends i lt)) inside) in
        let d = no_pair 0 in
        let it = subst (λ z. IsLeft g g.arcs side (v i) z (taken_leg g order side i z) (held side (pair_at (its i) k.0 d))) (k.2 d)
        (left.each i lt side k.0 d k.1) in
        held_left side i k.0 d l.node (label_of l) lt k.1 (k.2 d) (it.least (label_of l) is least)

  -- the legs of the customized hierarchy are those that are taken
  taken_up : (i : ℕ) (l : Leg) → i < g.nodes → Contains (row H.up (v i)) l → taken_leg g order Up i l.node ≡ Some (label_of l)
  taken_up i l lt c = let h = has.customized.up i lt in sym (h.1 l.node) ∙ row_has (row H.up (v i)) l h.0 c

  taken_down : (i : ℕ) (l : Leg) → i < g.nodes → Contains (row H.down (v i)) l → taken_leg g order Down i l.node ≡ Some (label_of l)
  taken_down i l lt c = let h = has.customized.down i lt in sym (h.1 l.node) ∙ row_has (row H.down (v i)) l h.0 c

  up_has : (i : ℕ) (l : Leg) → i < g.nodes → taken_leg g order Up i l.node ≡ Some (label_of l) → Contains (row H.up (v i)) l
  up_has i l lt is = let h = has.customized.up i lt in row_member (row H.up (v i)) l.node (label_of l) (h.1 l.node ∙ is)

  down_has : (i : ℕ) (l : Leg) → i < g.nodes → taken_leg g order Down i l.node ≡ Some (label_of l) → Contains (row H.down (v i)) l
  down_has i l lt is = let h = has.customized.down i lt in row_member (row H.down (v i)) l.node (label_of l) (h.1 l.node ∙ is)

  -- a node with legs in a hierarchy is one of the graph
  in_graph : (rows : List (List Leg)) → AreLegsUp H rows → (x : ℕ) (l : Leg) → Contains (row rows x) l →
      (i : ℕ) × (i < g.nodes) × (v i ≡ x)
  in_graph rows up x l c = elim (cases_lt x g.nodes) [
    | inl lt ↦ place_of x lt
    | inr past ↦ absurd (contains_none l (subst (λ (z : List Leg). Contains z l) (get_or_past rows x []
        (let size = count in let same : length H.level ≡ length levels = ap length has.level in omega (arith, up.0))) c))
  ]

  one_up : (x : ℕ) (l : Leg) → Contains (row H.up x) l → IsLegUp H x l
  one_up x l c = All-contains (IsLegUp H x) (row H.up x) l (has.levelled.up.1 x).1 c

  one_down : (x : ℕ) (l : Leg) → Contains (row H.down x) l → IsLegUp H x l
  one_down x l c = All-contains (IsLegUp H x) (row H.down x) l (has.levelled.down.1 x).1 c

  end_in : (l : Leg) → l.node < length H.level → l.node < g.nodes
  end_in l lt = let size = count in let same : length H.level ≡ length levels = ap length has.level in omega arith

  stays_up : (x : ℕ) (l : Leg) → Contains (row H.up x) l → IsLeast g x l.node l.cost → Contains (row (left_rows Up metric) x) l
  stays_up x l c least =
      let i = in_graph H.up has.levelled.up x l c in
      let here = subst (λ z. Contains (row H.up z) l) (sym i.2) c in
      let up = one_up (v i.0) l here in
      subst (λ z. Contains (row (left_rows Up metric) z) l) i.2
      (kept_leg Up i.0 l i.1 (taken_up i.0 l i.1 here) (end_in l up.node) up.higher
      (subst (λ z. IsLeast g z l.node l.cost) (sym i.2) least))

  stays_down : (x : ℕ) (l : Leg) → Contains (row H.down x) l → IsLeast g l.node x l.cost → Contains (row (left_rows Down metric) x) l
  stays_down x l c least =
      let i = in_graph H.down has.levelled.down x l c in
      let here = subst (λ z. Contains (row H.down z) l) (sym i.2) c in
      let up = one_down (v i.0) l here in
      subst (λ z. Contains (row (left_rows Down metric) z) l) i.2
      (kept_leg Down i.0 l i.1 (taken_down i.0 l i.1 here) (end_in l up.node) up.higher
      (subst (λ z. IsLeast g l.node z l.cost) (sym i.2) least))

  -- each leg that is left is one of the hierarchy with the least cost, or an arc
  only_left : (u w : ℕ) (c : Cost) (m : Option ℕ) → IsLeg P u w c m → (IsLeg H u w c m × IsLeast g u w c) ⊎ IsArcLeg g u w c m
  only_left u w c m leg = at leg.0 leg.1 leg.2 leg.3
    where
      at : (l : Leg) → l.cost ≡ c → l.middle ≡ m →
          ((Contains (row (left_rows Up metric) u) l × (l.node ≡ w)) ⊎ (Contains (row (left_rows Down metric) w) l × (l.node ≡ u))) →
          (IsLeg H u w c m × IsLeast g u w c) ⊎ IsArcLeg g u w c m
      at l cost middle (inl up) =
          let i = place_of u (known Up u l up.0) in
          let is = (leg_left Up i.0 l i.1 (subst (λ z. Contains (row (left_rows Up metric) z) l) (sym i.2) up.0)).0 in
          elim (is.others (label_of l) refl) [
            | inl exact ↦ inl (
              (l, cost, middle, inl (subst (λ z. Contains (row H.up z) l) i.2 (up_has i.0 l i.1 exact.0), up.1)),
              subst (IsLeast g u w) cost (subst (λ z. IsLeast g u z l.cost) up.1 (subst (λ z. IsLeast g z l.node l.cost) i.2 exact.1)),
            )
            | inr arc ↦ inr (subst (IsArcLeg g u w c) middle (subst (λ z. IsArcLeg g u w z l.middle) cost
                (subst (λ z. IsArcLeg g u z l.cost l.middle) up.1 (subst (λ z. IsArcLeg g z l.node l.cost l.middle) i.2 arc))))
          ]
      at l cost middle (inr down) =
          let i = place_of w (known Down w l down.0) in
          let is = (leg_left Down i.0 l i.1 (subst (λ z. Contains (row (left_rows Down metric) z) l) (sym i.2) down.0)).0 in
          elim (is.others (label_of l) refl) [
            | inl exact ↦ inl (
              (l, cost, middle, inr (subst (λ z. Contains (row H.down z) l) i.2 (down_has i.0 l i.1 exact.0), down.1)),
              subst (IsLeast g u w) cost (subst (λ z. IsLeast g z w l.cost) down.1 (subst (λ z. IsLeast g l.node z l.cost) i.2 exact.1)),
            )
            | inr arc ↦ inr (subst (IsArcLeg g u w c) middle (subst (λ z. IsArcLeg g u w z l.middle) cost
                (subst (λ z. IsArcLeg g z w l.cost l.middle) down.1 (subst (λ z. IsArcLeg g l.node z l.cost l.middle) i.2 arc))))
          ]

  -- for the ends of each arc a leg is left that costs no more
  arc_left : (a : InArc) → Contains g.arcs a → a.from ≢ a.to → HasLegWithin P a
  arc_left a c apart =
      let ends = (All-contains (IsArcWithin g.nodes) g.arcs a limits.each c).ends in
      let i = place_of a.from ends.0 in
      let j = place_of a.to ends.1 in
      elim (cases_lt i.0 j.0) [
        | inl less ↦
            let pair = ready.topology.arcs a i.0 j.0 c less j.1 (inl (i.2, j.2)) in
            let k = place_in (its i.0) (v j.0) (subst (λ (z : List ℕ). Contains z (v j.0)) (sym (left.ends i.0 i.1)) pair) in
            let l = (left.each i.0 i.1 Up k.0 (no_pair 0) k.1).within a c (sym i.2, sym j.2 ∙ sym (k.2 (no_pair 0))) in
            let leg = held_left Up i.0 k.0 (no_pair 0) a.to l.0 i.1 k.1 (k.2 (no_pair 0) ∙ j.2) l.1 in (
              l.0.cost,
              l.0.middle,
              (made_leg a.to l.0, refl, refl, inl (subst (λ z. Contains (row (left_rows Up metric) z) (made_leg a.to l.0)) i.2 leg, refl)),
              l.2,
            )
        | inr past ↦ elim (cases_eq i.0 j.0) [
          | inl same ↦ absurd (apart (sym i.2 ∙ ap v same ∙ j.2))
          | inr ne ↦
              let pair = ready.topology.arcs a j.0 i.0 c (omega arith) i.1 (inr (j.2, i.2)) in
              let k = place_in (its j.0) (v i.0) (subst (λ (z : List ℕ). Contains z (v i.0)) (sym (left.ends j.0 j.1)) pair) in
              let l = (left.each j.0 j.1 Down k.0 (no_pair 0) k.1).within a c (sym i.2 ∙ sym (k.2 (no_pair 0)), sym j.2) in
              let leg = held_left Down j.0 k.0 (no_pair 0) a.from l.0 j.1 k.1 (k.2 (no_pair 0) ∙ i.2) l.1 in (
                l.0.cost,
                l.0.middle,
                (
                  made_leg a.from l.0,
                  refl,
                  refl,
                  inr (subst (λ z. Contains (row (left_rows Down metric) z) (made_leg a.from l.0)) j.2 leg, refl),
                ),
                l.2,
              )
        ]
      ]

  -- it is what pruning leaves
  pub is_pruned : IsPruned g H P
  is_pruned = record { level = sym has.level; up = stays_up; down = stays_down; left = only_left; arcs = arc_left }

  -- the same for rows that are those of the arrays
  pub levelled_rows : (up down : List (List Leg)) → up ≡ left_rows Up metric → down ≡ left_rows Down metric →
      IsLevelled (record { level = levels; up = up; down = down })
  levelled_rows up down eu ed =
      subst (λ z. IsLevelled (record { level = levels; up = z; down = down })) (sym eu)
      (subst (λ z. IsLevelled (record { level = levels; up = left_rows Up metric; down = z })) (sym ed) levelled_left)

  is_left : (up down : List (List Leg)) → up ≡ left_rows Up metric → down ≡ left_rows Down metric →
      IsPruned g H (record { level = levels; up = up; down = down })
  is_left up down eu ed = subst (λ z. IsPruned g H (record { level = levels; up = z; down = down })) (sym eu)
      (subst (λ z. IsPruned g H (record { level = levels; up = left_rows Up metric; down = z })) (sym ed) is_pruned)

  pub pruned_rows : (up down : List (List Leg)) → up ≡ left_rows Up metric → down ≡ left_rows Down metric →
      IsCustomizedAndPruned g order (record { level = levels; up = up; down = down })
  pruned_rows up down eu ed = record {
    hierarchy = H;
    customized = has.customized;
    whole = has.levelled;
    levelled = levelled_rows up down eu ed;
    pruned = is_left up down eu ed;
  }

  pub kept_rows : (up down : List (List Leg)) → up ≡ left_rows Up metric → down ≡ left_rows Down metric →
      IsKept g (record { level = levels; up = up; down = down })
  kept_rows up down eu ed =
      pruned_are_kept g H (record { level = levels; up = up; down = down }) limits has.kept (levelled_rows up down eu ed)
      (is_left up down eu ed)
