-- A hierarchy that is built with enough shortcuts is kept: it is right for its graph.
use Rattle.std.proofs.Common.{◌≡◌, ◌≢◌, ℕ, zero, suc, ◌<◌, ◌≤◌, List, length, Option, Some, None, Contains, slice_index, refl, sym}
use Rattle.std.proofs.Common.{◌∙◌, subst, arith, inl, inr}
use Rattle.std.proofs.lemmas.Bool.{cases_lt}
use Rattle.std.proofs.lemmas.List.{get_or-take, get_or_default, length-take-le}
use Rattle.ch_graph.specs.declared.arc.InArc.{InArc}
use Rattle.ch_graph.specs.declared.cost.Cost.{Cost}
use Rattle.ch_graph.specs.Cost.{IsAtMost, cost_sum}
use Rattle.ch_graph.specs.Graph.{Network}
use Rattle.ch_graph.specs.WalkLaws.{IsWalkCost}
use Rattle.ch_graph.proofs.CostOrder.{IsAtMost_trans}
use Rattle.ch_graph.proofs.WalkCosts.{IsWalkCost-cost_sum, IsLeast-IsAtMost}
use Rattle.ch_graph.proofs.LeastSearch.{IsLeast-of_walk}
use Rattle.ch_hierarchy.specs.declared.leg.Leg.{Leg}
use Rattle.ch_contract.specs.Legs.{Legs, arc_label}
use Rattle.ch_contract.specs.Enough.{ContractsWithEnough}
use Rattle.ch_hierarchy.specs.Rows.{row}
use Rattle.ch_hierarchy.specs.Hierarchy.{LevelsAndLegs}
use Rattle.ch_hierarchy.specs.Paths.{IsMeeting}
use Rattle.ch_hierarchy.specs.Kept.{IsLeg, IsFounded, IsKept}
use Rattle.ch_contract.specs.Keeping.{IsLeft, ContractionKeepsLeastCosts, EnoughKeepsLeastCosts, HierarchiesWithEnoughAreKept}
use Rattle.ch_contract.proofs.theory.RowLegs.{leg_at}
use Rattle.ch_contract.proofs.theory.Chains.{HasLeg}
use Rattle.ch_contract.proofs.theory.OpeningLegs.{opening_covers, opening_within}
use Rattle.ch_contract.proofs.theory.Contracting.{ContractsWithPairs, pairs_by_enough}
use Rattle.ch_contract.proofs.theory.OneContraction.{leg_kept}
use Rattle.ch_contract.proofs.theory.StepLegs.{IsMade, IsContraction, step_leg, step_at}
use Rattle.ch_contract.proofs.theory.KeptCosts.{IsAfter, chain_walk, least_chain}
use Rattle.ch_contract.proofs.theory.BuiltLegs.{IsBuilt, contraction, step_of, after_earlier, up_leg, down_leg, up_step, down_step}
use Rattle.ch_contract.proofs.theory.BuiltLegs.{up_step_leg, down_step_leg}
use Rattle.ch_contract.proofs.theory.Levelled.{levelled}
use Rattle.ch_contract.proofs.theory.Enough.{hierarchy_by, taken_with_enough}
use Rattle.ch_contract.proofs.theory.UpAndDown.{up_and_down}

-- going up from s and then down to t costs at most c
abbrev MeetsWithin : LevelsAndLegs → ℕ → ℕ → Cost → Type 0
MeetsWithin H s t c = (m : ℕ) × (d : Cost) × IsMeeting H s t m d × IsAtMost d c

module _ {g : Network} {h : ℕ} {H : LevelsAndLegs} {order : List ℕ} {L : ℕ → Legs} (built : IsBuilt g h H order L) where
  -- a leg that is made of an arc, or of two legs of its middle, is founded
  made_founded : (i u w : ℕ) (c : Cost) (m : Option ℕ) → i < g.nodes → IsMade g order L i u w c m → IsFounded g H u w c m
  made_founded i u w c None lt made = made
  made_founded i u w c (Some v) lt made =
      let j = made.0 in
      let below : j < g.nodes = omega (arith, made.1) in
      let a : Leg = leg_at u made.3 in
      let b : Leg = leg_at w made.4 in
      let down = down_leg built j u made.3 below (subst (λ x. L j u x ≡ Some made.3) (sym made.2) made.5) in
      let up = up_leg built j w made.4 below (subst (λ x. L j x w ≡ Some made.4) (sym made.2) made.6) in
      (a, b, subst (λ x. Contains (row H.down x) a) made.2 down, refl, subst (λ x. Contains (row H.up x) b) made.2 up, refl, made.7)

  -- up legs are founded
  up_founded : (u : ℕ) (l : Leg) → Contains (row H.up u) l → IsFounded g H u l.node l.cost l.middle
  up_founded u l has =
      let s = up_step built u l has in
      let leg = up_step_leg built s.0 l s.1 (subst (λ x. Contains (row H.up x) l) (sym s.2) has) in
      subst (λ x. IsFounded g H x l.node l.cost l.middle) s.2 (made_founded s.0 (slice_index order s.0) l.node l.cost l.middle s.1 leg.made)

  -- down legs are founded
  down_founded : (w : ℕ) (l : Leg) → Contains (row H.down w) l → IsFounded g H l.node w l.cost l.middle
  down_founded w l has =
      let s = down_step built w l has in
      let leg = down_step_leg built s.0 l s.1 (subst (λ x. Contains (row H.down x) l) (sym s.2) has) in
      subst (λ x. IsFounded g H l.node x l.cost l.middle) s.2 (made_founded s.0 l.node (slice_index order s.0) l.cost l.middle s.1 leg.made)

  -- each leg is founded
  pub built_founded : (u w : ℕ) (c : Cost) (m : Option ℕ) → IsLeg H u w c m → IsFounded g H u w c m
  built_founded u w c m leg =
      let l = leg.0 in
      subst (λ x. IsFounded g H u w x m) leg.1 (subst (IsFounded g H u w l.cost) leg.2 (elim leg.3 [
        | inl up ↦ subst (λ x. IsFounded g H u x l.cost l.middle) up.1 (up_founded u l up.0)
        | inr down ↦ subst (λ x. IsFounded g H x w l.cost l.middle) down.1 (down_founded w l down.0)
      ]))

  -- a leg between two nodes stays or gets cheaper until one of them is contracted
  leg_stays : (i u w : ℕ) (c : Cost) → i ≤ g.nodes → IsAfter order i u → IsAfter order i w → HasLeg (L zero) u w c → HasLeg (L i) u w c
  leg_stays zero u w c le p q leg = leg
  leg_stays (suc i) u w c le p q leg =
      let before : HasLeg (L i) u w c = leg_stays i u w c (omega arith) (λ j below. p j (omega arith)) (λ j below. q j (omega arith)) leg in
      let after : HasLeg (L (suc i)) u w before.0.cost = leg_kept (step_at (contraction built) i (omega arith)) u w before.0
      (λ same. p i (omega arith) (sym same)) (λ same. q i (omega arith) (sym same)) before.1 in
      (after.0, after.1, IsAtMost_trans _ before.0.cost c after.2 before.2)

  -- there is a leg of the hierarchy from u to w that costs at most c
  abbrev HasLegWithin : ℕ → ℕ → Cost → Type 0
  HasLegWithin u w d = (c : Cost) × (m : Option ℕ) × IsLeg H u w c m × IsAtMost c d

  -- a leg from the node of a step, just before it, is in the hierarchy
  from_step : (i w : ℕ) (d : Cost) → i < g.nodes → HasLeg (L i) (slice_index order i) w d → HasLegWithin (slice_index order i) w d
  from_step i w d lt leg = (leg.0.cost, leg.0.middle, (leg_at w leg.0, refl, refl, inl (up_leg built i w leg.0 lt leg.1, refl)), leg.2)

  -- a leg to the node of a step, just before it, is in the hierarchy
  to_step : (i u : ℕ) (d : Cost) → i < g.nodes → HasLeg (L i) u (slice_index order i) d → HasLegWithin u (slice_index order i) d
  to_step i u d lt leg = (leg.0.cost, leg.0.middle, (leg_at u leg.0, refl, refl, inr (down_leg built i u leg.0 lt leg.1, refl)), leg.2)

  -- two nodes with a leg before the first step have one in the hierarchy
  leg_by_step : (i j : ℕ) (d : Cost) → i < g.nodes → j < g.nodes → HasLeg (L zero) (slice_index order i) (slice_index order j) d →
      HasLegWithin (slice_index order i) (slice_index order j) d
  leg_by_step i j d li lj leg = elim (cases_lt i j) [
    | inl first ↦ from_step i (slice_index order j) d li
        (leg_stays i (slice_index order i) (slice_index order j) d (omega arith) (after_earlier built i i (omega arith) li)
        (after_earlier built i j (omega arith) lj) leg)
    | inr second ↦ to_step j (slice_index order i) d lj
        (leg_stays j (slice_index order i) (slice_index order j) d (omega arith) (after_earlier built j i (omega arith) li)
        (after_earlier built j j (omega arith) lj) leg)
  ]

  -- each arc has a leg that costs no more
  pub built_arcs : (a : InArc) → Contains g.arcs a → a.from ≢ a.to → HasLegWithin a.from a.to (arc_label a.weight).cost
  built_arcs a has ne =
      let leg = opening_covers g a has ne in
      let first : L zero a.from a.to ≡ Some leg.0 = built.hierarchy.contracted.start a.from a.to ∙ leg.1 in
      let ends = (step_leg (contraction built) zero (omega arith) a.from a.to leg.0 first).within.ends in
      let s = step_of built a.from ends.0 in
      let t = step_of built a.to ends.1 in
      let d : Cost = (arc_label a.weight).cost in
      subst (λ x. HasLegWithin x a.to d) s.2 (subst (λ x. HasLegWithin (slice_index order s.0) x d) t.2
      (leg_by_step s.0 t.0 d s.1 t.1
      (subst (λ x. HasLeg (L zero) (slice_index order s.0) x d) (sym t.2)
      (subst (λ x. HasLeg (L zero) x a.to d) (sym s.2) (leg.0, first, leg.2)))))

  -- for each walk, going up and then down costs at most as much
  walk_met : (s t : ℕ) (c : Cost) → s < g.nodes → t < g.nodes → IsWalkCost g s t c → MeetsWithin H s t c
  walk_met s t c ls lt walk =
      let least = IsLeast-of_walk g s t c walk in
      let meets = up_and_down built s t least.0 ls lt least.1 in
      (meets.0, least.0, meets.1, least.2)

  -- for two legs through a lower node, going up and then down costs at most as much
  pub built_covered : (v : ℕ) (a b : Leg) → Contains (row H.down v) a → Contains (row H.up v) b → a.node ≢ b.node →
      MeetsWithin H a.node b.node (cost_sum a.cost b.cost)
  built_covered v a b down up ne =
      let s = up_step built v b up in
      let first = down_step_leg built s.0 a s.1 (subst (λ x. Contains (row H.down x) a) (sym s.2) down) in
      let second = up_step_leg built s.0 b s.1 (subst (λ x. Contains (row H.up x) b) (sym s.2) up) in
      let from = first.within.ends in
      let to = second.within.ends in
      walk_met a.node b.node (cost_sum a.cost b.cost) from.0 to.1
      (IsWalkCost-cost_sum g a.node (slice_index order s.0) b.node a.cost b.cost first.walk second.walk)

  -- the hierarchy is kept
  pub built_kept : IsKept g H
  built_kept = record {
    nodes = built.hierarchy.sizes.0;
    levelled = levelled g H order L (hierarchy_by (ContractsWithEnough g.nodes h) (ContractsWithPairs g.nodes) g H order L
        built.hierarchy (λ i lt. pairs_by_enough g.nodes h _ _ _)) built.limits.size.0 (opening_within g built.limits);
    founded = built_founded;
    arcs = built_arcs;
    covered = built_covered;
  }

-- a node that remains after i steps is none of the first i nodes
left_after : (g : Network) (order : List ℕ) (i x : ℕ) → i ≤ length order → IsLeft g order i x → IsAfter order i x
left_after g order i x le left j below e =
    left.1 (j, omega (arith, length-take-le i order le), get_or-take i order j x below ∙ get_or_default order j x 0 (omega arith) ∙ e)

-- contraction with enough shortcuts keeps the least costs
pub enough_keeps_least_costs : EnoughKeepsLeastCosts
enough_keeps_least_costs g h order L limits is i u w c le p q least =
    let all : IsContraction g h order L g.nodes = record { limits = limits; start = is.start; step = is.step } in
    let size = is.nodes.0 in
    let within : i ≤ length order = omega arith in
    record {
      chain = least_chain all i le u w c q.0 (left_after g order i u within p) (left_after g order i w within q) least;
      least = λ xs chain. IsLeast-IsAtMost g u w c _ least (chain_walk all i le u w xs chain);
    }

-- contraction keeps the least costs
pub least_costs_kept : ContractionKeepsLeastCosts
least_costs_kept g h order L limits hops is = enough_keeps_least_costs g h order L limits (taken_with_enough g h order L limits hops is)

-- hierarchies with enough shortcuts are kept
pub hierarchies_with_enough_kept : HierarchiesWithEnoughAreKept
hierarchies_with_enough_kept g h H order L limits is =
    let built : IsBuilt g h H order L = record { limits = limits; hierarchy = is } in
    built_kept built
