-- The legs of a levelled hierarchy join two nodes within the limits, and there are at most as many as pairs of nodes.
use Rattle.std.proofs.Common.{ℕ, ◌+◌, ◌*◌, ◌<◌, ◌≤◌, length, map, get_or, Contains, sym, ◌∙◌, ap, subst, arith, inl, inr}
use Rattle.std.specs.Prelude.{◌≢◌, AllPairs, slice_index}
use Rattle.std.proofs.lemmas.List.{length-map}
use Rattle.std.proofs.lemmas.List.Elements.{All-contains, Contains-get_or}
use Rattle.std.proofs.lemmas.Nat.{mul-add-lt, same_from_place}
use Rattle.ch_graph.specs.declared.limits.TheConstants.{MOST_WEIGHT}
use Rattle.ch_graph.specs.declared.cost.Cost.{Cost}
use Rattle.ch_graph.specs.declared.saved.SavedLeg.{SavedLeg}
use Rattle.ch_graph.specs.Saved.{OrderAndLegs}
use Rattle.ch_graph.proofs.Lists.{contains_map_of, pairs_map}
use Rattle.ch_hierarchy.specs.Rows.{row}
use Rattle.ch_hierarchy.specs.Hierarchy.{LevelsAndLegs, nodes_of, IsLegUp, IsLevelled}
use Rattle.ch_hierarchy.specs.Kept.{IsLeg}
use Rattle.ch_hierarchy.specs.Saved.{NamesHierarchy, JoinsNodes, IsWithinBounds}
use Rattle.ch_hierarchy.proofs.theory.Ordered.{distinct_most}
use Rattle.ch_hierarchy.proofs.theory.SavedLevels.{in_row_below}

-- the ends of a leg are two nodes, and its cost is within the limits
pub leg_bounds : (H : LevelsAndLegs) → IsLevelled H → (l : SavedLeg) → IsLeg H l.from l.to l.cost l.middle →
    JoinsNodes (nodes_of H) l × IsWithinBounds (nodes_of H) l
leg_bounds H is l (k, cost, middle, inl (has, node)) =
    let up = All-contains (IsLegUp H l.from) (row H.up l.from) k (is.up.1 l.from).1 has in (
      (
        in_row_below H.up (nodes_of H) l.from k is.up.0 has,
        subst (λ q. q < nodes_of H) node up.node,
        λ same. let rise = up.higher in let e = ap (slice_index H.level) (same ∙ sym node) in omega arith,
      ),
      subst (λ (c : Cost). (c.weight ≤ MOST_WEIGHT) × (c.arcs < nodes_of H)) cost (up.weight, up.arcs),
    )
leg_bounds H is l (k, cost, middle, inr (has, node)) =
    let up = All-contains (IsLegUp H l.to) (row H.down l.to) k (is.down.1 l.to).1 has in (
      (
        subst (λ q. q < nodes_of H) node up.node,
        in_row_below H.down (nodes_of H) l.to k is.down.0 has,
        λ same. let rise = up.higher in let e = ap (slice_index H.level) (sym same ∙ sym node) in omega arith,
      ),
      subst (λ (c : Cost). (c.weight ≤ MOST_WEIGHT) × (c.arcs < nodes_of H)) cost (up.weight, up.arcs),
    )

module _ (s : OrderAndLegs) (H : LevelsAndLegs) (names : NamesHierarchy s H) where
  ends : (l : SavedLeg) → Contains s.legs l → JoinsNodes (nodes_of H) l
  ends l h = (leg_bounds H names.levelled l ((names.legs l.from l.to l.cost l.middle).1 h)).0

  -- the ends of a leg, as one number
  abbrev pair_of : SavedLeg → ℕ
  pair_of l = l.from * nodes_of H + l.to

  apart : AllPairs (λ k l. pair_of k ≢ pair_of l) s.legs
  apart i j d less lt same =
      let k = get_or s.legs i d in
      let l = get_or s.legs j d in
      let a = ends k (Contains-get_or s.legs i d (omega arith)) in
      let b = ends l (Contains-get_or s.legs j d lt) in
      names.once i j d less lt (same_from_place k.from k.to l.from l.to (nodes_of H) a.1 b.1 same)

  below : (q : ℕ) → Contains (map pair_of s.legs) q → q < nodes_of H * nodes_of H
  below q h =
      let r = contains_map_of pair_of s.legs q h in
      let e = ends r.0 r.1 in
      subst (λ q. q < nodes_of H * nodes_of H) r.2 (mul-add-lt r.0.from (nodes_of H) r.0.to (nodes_of H) e.0 e.1)

  -- what names a hierarchy has at most as many legs as there are pairs of nodes
  pub few_legs : length s.legs ≤ nodes_of H * nodes_of H
  few_legs = subst (λ q. q ≤ nodes_of H * nodes_of H) (length-map s.legs pair_of)
      (distinct_most (map pair_of s.legs) (nodes_of H * nodes_of H) (pairs_map pair_of ◌≢◌ s.legs apart) below)
