-- A saved hierarchy without any of the seven faults names a hierarchy that is right for the graph.
use Rattle.std.proofs.Common.{◌≡◌, ℕ, ◌<◌, ◌≤◌, length, get_or, Contains, Option, Some, None, refl, sym, ◌∙◌, ap, subst, arith, inl, inr}
use Rattle.std.specs.Prelude.{◌⊎◌, ◌≢◌, slice_get}
use Rattle.std.proofs.lemmas.Bool.{cases_eq, cases_lt}
use Rattle.std.proofs.lemmas.List.Elements.{All-contains}
use Rattle.std.proofs.lemmas.Option.{slice_get-get_or}
use Rattle.ch_graph.specs.declared.arc.InArc.{InArc}
use Rattle.ch_graph.specs.declared.cost.Cost.{Cost}
use Rattle.ch_graph.specs.declared.saved.SavedLeg.{SavedLeg}
use Rattle.ch_graph.specs.Cost.{IsAtMost, cost_sum}
use Rattle.ch_graph.specs.Graph.{Network, IsWithinLimits}
use Rattle.ch_graph.specs.Saved.{OrderAndLegs}
use Rattle.ch_graph.specs.WalkLaws.{arc_cost}
use Rattle.ch_hierarchy.specs.declared.fault.CheckFault.TheVariants.{Order, Pair, Bound, Base, Middle, Arc, Lower}
use Rattle.ch_hierarchy.specs.declared.leg.Leg.{Leg}
use Rattle.ch_hierarchy.specs.Hierarchy.{LevelsAndLegs, nodes_of, IsLegUp, IsLevelled}
use Rattle.ch_hierarchy.specs.Kept.{IsLeg, IsFounded, HasLegWithin, MeetsWithin, IsCovered, IsKept}
use Rattle.ch_hierarchy.specs.Placing.{no_saved_leg}
use Rattle.ch_hierarchy.specs.Rows.{row}
use Rattle.ch_hierarchy.specs.Saved.{IsOrderOf, NamesHierarchy, NamesFor, NamesKept, JoinsNodes, IsWithinBounds, IsSamePair, IsFaultless}
use Rattle.ch_hierarchy.proofs.theory.Decided.{Decided, so_if_decided, decided_same, decided_both, decided_either, HasOne}
use Rattle.ch_hierarchy.proofs.theory.Decided.{one_decided, contains_arc_decided, same_cost_decided, at_most_decided}
use Rattle.ch_hierarchy.proofs.theory.LeastUpward.{meets_decided}
use Rattle.ch_hierarchy.proofs.theory.NamedByLegs.{named_there}
use Rattle.ch_hierarchy.proofs.theory.SavedLevels.{in_row_below}

-- two numbers are equal if they cannot differ
so_equal : (a b : ℕ) → ((a ≡ b → ⊥) → ⊥) → a ≡ b
so_equal a b can = so_if_decided (a ≡ b) (cases_eq a b) can

so_less : (a b : ℕ) → ((a < b → ⊥) → ⊥) → a < b
so_less a b can = elim (cases_lt a b) [ inl less ↦ less | inr ge ↦ absurd (can (λ less. omega arith)) ]

so_most : (a b : ℕ) → ((a ≤ b → ⊥) → ⊥) → a ≤ b
so_most a b can = elim (cases_lt b a) [ inl more ↦ absurd (can (λ le. omega arith)) | inr le ↦ le ]

module _ (g : Network) (H : LevelsAndLegs) where
  -- the leg from the middle to w completes the sum
  abbrev Completes : ℕ → Cost → Cost → Leg → Type 0
  Completes w c first b = (b.node ≡ w) × (c ≡ cost_sum first b.cost)

  -- the leg from u to the middle begins the sum
  abbrev BeginsSum : ℕ → ℕ → ℕ → Cost → Leg → Type 0
  BeginsSum v u w c a = (a.node ≡ u) × HasOne (Completes w c a.cost) (row H.up v)

  -- whether a leg is what its middle says is decided
  founded_decided : (u w : ℕ) (c : Cost) (m : Option ℕ) → Decided (IsFounded g H u w c m)
  founded_decided u w c None =
      decided_both _ _ (cases_eq c.arcs 1) (contains_arc_decided g.arcs (record { from = u; to = w; weight = c.weight }))
  founded_decided u w c (Some v) =
      decided_same (HasOne (BeginsSum v u w c) (row H.down v)) (IsFounded g H u w c (Some v))
      (λ (a, ha, (from, (b, hb, (to, sum)))). (a, b, ha, from, hb, to, sum))
      (λ (a, b, ha, from, hb, to, sum). (a, ha, (from, (b, hb, (to, sum)))))
      (one_decided (BeginsSum v u w c) (λ a. decided_both _ _ (cases_eq a.node u)
      (one_decided (Completes w c a.cost) (λ b. decided_both _ _ (cases_eq b.node w) (same_cost_decided c (cost_sum a.cost b.cost)))
      (row H.up v))) (row H.down v))

  -- the leg of a row leads to this node and costs at most this
  abbrev IsWithin : ℕ → Cost → Leg → Type 0
  IsWithin node most l = (l.node ≡ node) × IsAtMost l.cost most

  within_decided : (node : ℕ) (most : Cost) (l : Leg) → Decided (IsWithin node most l)
  within_decided node most l = decided_both _ _ (cases_eq l.node node) (at_most_decided l.cost most)

  -- whether an arc has a leg that costs no more is decided
  leg_within_decided : (a : InArc) → Decided (HasLegWithin H a)
  leg_within_decided a =
      decided_same (HasOne (IsWithin a.to (arc_cost a)) (row H.up a.from) ⊎ HasOne (IsWithin a.from (arc_cost a)) (row H.down a.to))
      (HasLegWithin H a) there back
      (decided_either _ _ (one_decided (IsWithin a.to (arc_cost a)) (within_decided a.to (arc_cost a)) (row H.up a.from))
      (one_decided (IsWithin a.from (arc_cost a)) (within_decided a.from (arc_cost a)) (row H.down a.to)))
    where
      there : HasOne (IsWithin a.to (arc_cost a)) (row H.up a.from) ⊎ HasOne (IsWithin a.from (arc_cost a)) (row H.down a.to) →
          HasLegWithin H a
      there (inl (l, has, (node, le))) = (l.cost, l.middle, (l, refl, refl, inl (has, node)), le)
      there (inr (l, has, (node, le))) = (l.cost, l.middle, (l, refl, refl, inr (has, node)), le)

      back : HasLegWithin H a →
          HasOne (IsWithin a.to (arc_cost a)) (row H.up a.from) ⊎ HasOne (IsWithin a.from (arc_cost a)) (row H.down a.to)
      back (c, m, (l, cost, middle, inl (has, node)), le) = inl (l, has, (node, subst (λ q. IsAtMost q (arc_cost a)) (sym cost) le))
      back (c, m, (l, cost, middle, inr (has, node)), le) = inr (l, has, (node, subst (λ q. IsAtMost q (arc_cost a)) (sym cost) le))

  -- a node is covered if it cannot fail to be
  so_covered : IsLevelled H → (v : ℕ) → ((IsCovered H v → ⊥) → ⊥) → IsCovered H v
  so_covered is v can a b ha hb apart =
      let node = (All-contains (IsLegUp H v) (row H.down v) a (is.down.1 v).1 ha).node in
      so_if_decided (MeetsWithin H a.node b.node (cost_sum a.cost b.cost)) (meets_decided H is a.node b.node (cost_sum a.cost b.cost) node)
      (λ never. can (λ covered. never (covered a b ha hb apart)))

module _ (g : Network) (s : OrderAndLegs) (limits : IsWithinLimits g) (none : IsFaultless g s) where
  -- the order has each node once
  order_right : IsOrderOf g.nodes s.order
  order_right = record {
    count = so_equal _ _ (λ bad. none Order (λ is. bad is.count));
    within = λ i lt. so_less _ _ (λ bad. none Order (λ is. bad (is.within i lt)));
    distinct = λ i j less lt same. none Order (λ is. is.distinct i j less lt same);
  }

  -- the leg at a place
  stands : (l : SavedLeg) (h : Contains s.legs l) → slice_get s.legs h.0 ≡ Some l
  stands l h = slice_get-get_or s.legs h.0 l h.1 ∙ ap Some h.2

  -- each leg joins two nodes
  joins_right : (l : SavedLeg) → Contains s.legs l → JoinsNodes g.nodes l
  joins_right l h =
      let can : (JoinsNodes g.nodes l → ⊥) → ⊥ = λ bad. none (Pair h.0) (l, stands l h, inl bad) in
      (so_less _ _ (λ bad. can (λ j. bad j.0)), so_less _ _ (λ bad. can (λ j. bad j.1)), λ same. can (λ j. j.2 same))

  -- no two legs have the same ends
  once_right : (i j : ℕ) → i < j → j < length s.legs → IsSamePair (get_or s.legs i no_saved_leg) (get_or s.legs j no_saved_leg) → ⊥
  once_right i j less lt same =
      none (Pair j) (
        get_or s.legs j no_saved_leg,
        slice_get-get_or s.legs j no_saved_leg lt,
        inr (i, get_or s.legs i no_saved_leg, less, slice_get-get_or s.legs i no_saved_leg (omega arith), same),
      )

  -- each leg is within the bounds
  bounds_right : (l : SavedLeg) → Contains s.legs l → IsWithinBounds g.nodes l
  bounds_right l h =
      let can : (IsWithinBounds g.nodes l → ⊥) → ⊥ = λ bad. none (Bound h.0) (l, stands l h, bad) in
      (so_most _ _ (λ bad. can (λ b. bad b.0)), so_less _ _ (λ bad. can (λ b. bad b.1)))

  -- the order and the legs name a hierarchy among the graph's nodes
  named : (H : LevelsAndLegs) × NamesHierarchy s H × (nodes_of H ≡ g.nodes)
  named = named_there g.nodes s limits.size.0 order_right joins_right once_right bounds_right

  module _ (H : LevelsAndLegs) (names : NamesFor g s H) where
    -- each leg is what its middle says
    founded_right : (u w : ℕ) (c : Cost) (m : Option ℕ) → IsLeg H u w c m → IsFounded g H u w c m
    founded_right u w c m leg = so_if_decided (IsFounded g H u w c m) (founded_decided g H u w c m)
        (λ bad. fault m bad ((names.0.legs u w c m).0 leg))
      where
        fault : (m : Option ℕ) → (IsFounded g H u w c m → ⊥) → Contains s.legs (record { from = u; to = w; cost = c; middle = m }) → ⊥
        fault None bad h = none (Base h.0) (record { from = u; to = w; cost = c; middle = None }, refl, (stands _ h, (H, names.0, bad)))
        fault (Some v) bad h = none (Middle h.0)
            (record { from = u; to = w; cost = c; middle = Some v }, v, refl, (stands _ h, (H, names.0, bad)))

    -- each arc that is no loop has a leg that costs no more
    arcs_right : (a : InArc) → Contains g.arcs a → a.from ≢ a.to → HasLegWithin H a
    arcs_right a h apart =
        so_if_decided (HasLegWithin H a) (leg_within_decided g H a)
        (λ bad. none (Arc h.0) (a, slice_get-get_or g.arcs h.0 a h.1 ∙ ap Some h.2, apart, (H, names.0, bad)))

    -- each node is covered, and past the last node there are no legs
    covered_right : (v : ℕ) → IsCovered H v
    covered_right v = elim (cases_lt v g.nodes) [
      | inl lt ↦ so_covered g H names.0.levelled v (λ bad. none (Lower v) (lt, (H, names.0, bad)))
      | inr ge ↦ λ a b ha hb apart. absurd (let inside = in_row_below H.down (nodes_of H) v a names.0.levelled.down.0 ha in
          let same = names.1 in omega arith)
    ]

    -- the hierarchy is right for the graph
    kept : IsKept g H
    kept = record { nodes = names.1; levelled = names.0.levelled; founded = founded_right; arcs = arcs_right; covered = covered_right }

  -- the order and the legs name a hierarchy that is right for the graph
  pub faultless_kept : (H : LevelsAndLegs) × NamesKept g s H
  faultless_kept = let found = named in (found.0, (found.1, kept found.0 (found.1, found.2)))
