-- The tree of a topology is a tree for each hierarchy that is customized in it.
use Rattle.std.proofs.Common.{◌≡◌, ℕ, zero, suc, ◌+◌, ◌-◌, ◌<◌, ◌≤◌, List, length, Contains, Some, refl, sym, ◌∙◌, ap, subst, arith, inl}
use Rattle.std.proofs.Common.{inr}
use Rattle.std.specs.Prelude.{◌≢◌, All, AllPairs, slice_index, Option, IsSome}
use Rattle.std.proofs.lemmas.Bool.{cases_eq, cases_lt}
use Rattle.std.proofs.lemmas.List.{get_or_past}
use Rattle.ch_graph.specs.Graph.{Network, IsWithinLimits}
use Rattle.ch_hierarchy.specs.declared.leg.Leg.{Leg}
use Rattle.ch_hierarchy.specs.declared.side.Side.{Side}
use Rattle.ch_hierarchy.specs.declared.side.Side.TheVariants.{Up, Down}
use Rattle.ch_hierarchy.specs.Rows.{row}
use Rattle.ch_hierarchy.specs.Side.{rows_of}
use Rattle.ch_hierarchy.specs.Hierarchy.{LevelsAndLegs, nodes_of, IsLevelled}
use Rattle.ch_contract.specs.Legs.{Label, Legs}
use Rattle.ch_contract.specs.Built.{IsHierarchyIn}
use Rattle.ch_contract.proofs.theory.OneInTurn.{taken_at}
use Rattle.ch_contract.proofs.theory.RowLegs.{row_has}
use Rattle.ch_custom.specs.Customizing.{Lowers, IsPair, IsTopology}
use Rattle.ch_custom.specs.Pruning.{IsCustomizedAndPruned}
use Rattle.ch_custom.specs.Topologies.{OrderAndPairs}
use Rattle.ch_custom.proofs.theory.Customizing.{legs_stay_in_topologies}
use Rattle.ch_query.proofs.one_side.Expanding.{leg_up}
use Rattle.ch_tree.specs.Tree.{IsAbove, place_of, AreFalling, IsTree}
use Rattle.ch_tree.specs.Parents.{AreParentsOf, TreesFit, TreesFitPruned, IsTreeOf, IsTreeOfPruned}
use Rattle.ch_tree.proofs.theory.Climbs.{above_then, above_one}

module _ (n : ℕ) (order : List ℕ) (rows : List (List ℕ)) (parents : List ℕ) (are : AreParentsOf n order rows parents) where
  -- each parent has a lesser place
  falling : AreFalling parents
  falling place = elim (cases_lt n place) [
    | inl past ↦ (let e = get_or_past parents place 0 (let size = are.size in omega arith) in omega arith)
    | inr le ↦ elim (cases_eq place 0) [
      | inl zero_place ↦ (let e = ap (slice_index parents) zero_place in let root = are.root in omega arith)
      | inr some ↦
          let is : n - (n - place) ≡ place = omega arith in
          let at = are.each (n - place) (omega arith) (omega arith) in
          let e = ap (slice_index parents) is in
          elim at [
            | inl none ↦ (let z = none.1 in omega arith)
            | inr p ↦ (let later = p.1.later.0 in let value = p.2 in omega arith)
          ]
    ]
  ]

  -- the later place of a pair is above
  above_pair : (fuel i j : ℕ) → n ≤ i + fuel → i < n → j < n → IsPair order rows i j → IsAbove parents (n - i) (n - j)
  above_pair zero i j few lt below pair = absurd (omega arith)
  above_pair (suc fuel) i j few lt below pair = elim (are.each i lt (omega arith)) [
    | inl none ↦ absurd (none.0 j below pair)
    | inr p ↦
        let up : IsAbove parents (n - i) (n - p.0) = subst (IsAbove parents (n - i)) p.2 (above_one parents (n - i)) in
        elim (p.1.rest j below pair) [
          | inl same ↦ subst (λ z. IsAbove parents (n - i) (n - z)) (sym same) up
          | inr rest ↦
              let later = p.1.later.0 in
              above_then parents (n - i) (n - p.0) (n - j) up (above_pair fuel p.0 j (omega arith) p.1.later.1 below rest.1)
        ]
  ]

-- a value that is there
some_is : (o : Option Label) (l : Label) → o ≡ Some l → IsSome o
some_is o l e = rw e refl

module _ (g : Network) (H : LevelsAndLegs) (order : List ℕ) (L : ℕ → Legs) (rows : List (List ℕ)) (limits : IsWithinLimits g)
    (is : IsHierarchyIn (Lowers g.nodes) g H order L) (topology : IsTopology g order rows) where
  -- the ends of a leg are a pair
  leg_pair : (side : Side) (i j : ℕ) (l : Leg) → i < j → j < g.nodes → slice_index order j ≡ l.node →
      Contains (row (rows_of H side) (slice_index order i)) l → IsPair order rows i j
  leg_pair Up i j l less below at has =
      let from = is.up i (omega arith) in
      let e = sym (from.1 l.node) ∙ row_has _ l from.0 has in
      (legs_stay_in_topologies g order L rows limits is.contracted topology i (omega arith) i j less below).0
      (some_is _ _ (ap (L i (slice_index order i)) at ∙ e))
  leg_pair Down i j l less below at has =
      let to = is.down i (omega arith) in
      let e = sym (to.1 l.node) ∙ row_has _ l to.0 has in
      (legs_stay_in_topologies g order L rows limits is.contracted topology i (omega arith) i j less below).1
      (some_is _ _ (ap (λ z. L i z (slice_index order i)) at ∙ e))

-- a hierarchy whose legs are between the ends of pairs
module _ (g : Network) (H : LevelsAndLegs) (order : List ℕ) (rows : List (List ℕ)) (parents : List ℕ) (k : IsLevelled H)
    (nodes : (length order ≡ g.nodes) × All (λ v. v < g.nodes) order × AllPairs ◌≢◌ order) (size : length H.level ≡ g.nodes)
    (levels : (i : ℕ) → i < g.nodes → slice_index H.level (slice_index order i) ≡ i + 1)
    (pairs : (side : Side) (i j : ℕ) (l : Leg) → i < j → j < g.nodes → slice_index order j ≡ l.node →
    Contains (row (rows_of H side) (slice_index order i)) l → IsPair order rows i j)
    (are : AreParentsOf g.nodes order rows parents) where
  -- each leg leads to an ancestor
  leg_above : (side : Side) (v : ℕ) (l : Leg) → v < nodes_of H → Contains (row (rows_of H side) v) l →
      IsAbove parents (place_of H v) (place_of H l.node)
  leg_above side v l lt has =
      let up = leg_up H k side v l has in
      let small = up.node in
      let a = taken_at g.nodes order v nodes (omega arith) in
      let b = taken_at g.nodes order l.node nodes (omega arith) in
      let first : slice_index H.level v ≡ a.0 + 1 = ap (slice_index H.level) (sym a.2) ∙ levels a.0 a.1 in
      let second : slice_index H.level l.node ≡ b.0 + 1 = ap (slice_index H.level) (sym b.2) ∙ levels b.0 b.1 in
      let higher = up.higher in
      let from = a.1 in
      let to = b.1 in
      let pair = pairs side a.0 b.0 l (omega arith) b.1 b.2 (subst (λ z. Contains (row (rows_of H side) z) l) (sym a.2) has) in
      let here : g.nodes - a.0 ≡ place_of H v = omega arith in
      let there : g.nodes - b.0 ≡ place_of H l.node = omega arith in
      subst (λ z. IsAbove parents z (place_of H l.node)) here (subst (IsAbove parents (g.nodes - a.0)) there
      (above_pair g.nodes order rows parents are g.nodes a.0 b.0 (omega arith) a.1 b.1 pair))

  -- so these are a tree for it
  fitting : IsTree H parents
  fitting = record {
    size = are.size ∙ ap (λ z. z + 1) (sym size);
    falls = falling g.nodes order rows parents are;
    legs = leg_above;
  }

-- trees fit
pub trees_fit : TreesFit
trees_fit g H order L rows parents limits k is topology are =
    fitting g H order rows parents k is.contracted.nodes is.sizes.0 is.level (leg_pair g H order L rows limits is topology) are

module _ (g : Network) (P : LevelsAndLegs) (order : List ℕ) (rows : List (List ℕ)) (limits : IsWithinLimits g)
    (is : IsCustomizedAndPruned g order P) (topology : IsTopology g order rows) where
  abbrev H : LevelsAndLegs
  H = is.hierarchy

  -- a leg of the customized hierarchy leads to a higher place
  places : (side : Side) (i j : ℕ) (l : Leg) → i < g.nodes → j < g.nodes → slice_index order j ≡ l.node →
      Contains (row (rows_of H side) (slice_index order i)) l → i < j
  places side i j l lt below at has =
      let up = (leg_up H is.whole side (slice_index order i) l has).higher in
      let one = is.customized.level i lt in
      let two : slice_index H.level l.node ≡ j + 1 = ap (slice_index H.level) (sym at) ∙ is.customized.level j below in
      omega arith

  -- the ends of a leg that is left are a pair
  left_pair : (side : Side) (i j : ℕ) (l : Leg) → i < j → j < g.nodes → slice_index order j ≡ l.node →
      Contains (row (rows_of P side) (slice_index order i)) l → IsPair order rows i j
  left_pair Up i j l less below at has =
      let it : i < g.nodes = omega arith in
      elim (is.pruned.left (slice_index order i) l.node l.cost l.middle (l, refl, refl, inl (has, refl))) [
        | inl whole ↦ elim whole.0.3 [
          | inl up ↦ leg_pair g H order _ rows limits is.customized topology Up i j whole.0.0 less below (at ∙ sym up.1) up.0
          | inr down ↦
              let bad = places Down j i whole.0.0 below it (sym down.1)
              (subst (λ z. Contains (row H.down z) whole.0.0) (sym at) down.0) in
              absurd (omega arith)
        ]
        | inr arc ↦ topology.arcs (record { from = slice_index order i; to = l.node; weight = l.cost.weight }) i j arc.2 less below
            (inl (refl, at))
      ]
  left_pair Down i j l less below at has =
      let it : i < g.nodes = omega arith in
      elim (is.pruned.left l.node (slice_index order i) l.cost l.middle (l, refl, refl, inr (has, refl))) [
        | inl whole ↦ elim whole.0.3 [
          | inl up ↦
              let bad = places Up j i whole.0.0 below it (sym up.1) (subst (λ z. Contains (row H.up z) whole.0.0) (sym at) up.0) in
              absurd (omega arith)
          | inr down ↦ leg_pair g H order _ rows limits is.customized topology Down i j whole.0.0 less below (at ∙ sym down.1) down.0
        ]
        | inr arc ↦ topology.arcs (record { from = l.node; to = slice_index order i; weight = l.cost.weight }) i j arc.2 less below
            (inr (refl, at))
      ]

-- trees fit what pruning leaves
pub trees_fit_pruned : TreesFitPruned
trees_fit_pruned g P order rows parents limits is topology are =
    fitting g P order rows parents is.levelled is.customized.contracted.nodes
    (ap length is.pruned.level ∙ is.customized.sizes.0)
    (λ i lt. ap (λ (z : List ℕ). slice_index z (slice_index order i)) is.pruned.level ∙ is.customized.level i lt)
    (left_pair g P order rows limits is topology) are

-- the parents of a topology are a tree for each hierarchy that is customized in it
pub tree_fits : (f : OrderAndPairs) (order : List ℕ) (rows : List (List ℕ)) (parents : List ℕ) → order ≡ f.order → rows ≡ f.pairs →
    AreParentsOf (length rows) order rows parents → IsTreeOf f parents
tree_fits f order rows parents eo er are g H L limits k is topology size =
    trees_fit g H f.order L f.pairs parents limits k is topology
    (subst (λ n. AreParentsOf n f.order f.pairs parents) size
    (subst (λ (z : List (List ℕ)). AreParentsOf (length z) f.order z parents) er
    (subst (λ (z : List ℕ). AreParentsOf (length rows) z rows parents) eo are)))

pub parents_of : (f : OrderAndPairs) (order : List ℕ) (rows : List (List ℕ)) (parents : List ℕ) → order ≡ f.order → rows ≡ f.pairs →
    AreParentsOf (length rows) order rows parents → AreParentsOf (length f.pairs) f.order f.pairs parents
parents_of f order rows parents eo er are =
    subst (λ (z : List (List ℕ)). AreParentsOf (length z) f.order z parents) er
    (subst (λ (z : List ℕ). AreParentsOf (length rows) z rows parents) eo are)

-- and for what pruning leaves of it
pub tree_fits_pruned : (f : OrderAndPairs) (order : List ℕ) (rows : List (List ℕ)) (parents : List ℕ) → order ≡ f.order → rows ≡ f.pairs →
    AreParentsOf (length rows) order rows parents → IsTreeOfPruned f parents
tree_fits_pruned f order rows parents eo er are g P limits is topology size =
    trees_fit_pruned g P f.order f.pairs parents limits is topology
    (subst (λ n. AreParentsOf n f.order f.pairs parents) size (parents_of f order rows parents eo er are))
