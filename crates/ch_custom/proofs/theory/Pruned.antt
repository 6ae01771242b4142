-- Pruned hierarchies are kept, and least walks to higher nodes begin with a leg up.
use Rattle.std.proofs.Common.{◌≡◌, ℕ, ◌<◌, ◌≤◌, List, [], ◌∷◌, length, Contains, Option, Some, None, refl, sym, ◌∙◌, ap}
use Rattle.std.proofs.Common.{subst, arith, inl, inr}
use Rattle.std.specs.Prelude.{slice_index}
use Rattle.std.proofs.lemmas.List.Elements.{All-contains}
use Rattle.ch_graph.specs.declared.cost.Cost.{Cost}
use Rattle.ch_graph.specs.Cost.{IsAtMost, cost_sum}
use Rattle.ch_graph.specs.Graph.{Network, IsWithinLimits}
use Rattle.ch_graph.specs.Walk.{IsLeast}
use Rattle.ch_graph.specs.WalkLaws.{IsWalkCost, arc_cost}
use Rattle.ch_graph.proofs.CostOrder.{same_costs}
use Rattle.ch_graph.proofs.CostSums.{cost_sum_assoc, cost_sum_comm}
use Rattle.ch_graph.proofs.LeastSearch.{IsLeast-of_walk}
use Rattle.ch_graph.proofs.SimpleWalks.{IsLeast-weight}
use Rattle.ch_graph.proofs.WalkCosts.{IsWalkCost-arc, IsWalkCost-cost_sum, IsLeast-IsAtMost, IsLeast-again, IsLeast-front, IsLeast-back}
use Rattle.ch_hierarchy.specs.declared.leg.Leg.{Leg}
use Rattle.ch_hierarchy.specs.Rows.{row}
use Rattle.ch_hierarchy.specs.Hierarchy.{LevelsAndLegs, IsLegUp, IsLevelled}
use Rattle.ch_hierarchy.specs.Paths.{IsUpwardPath, path_cost, IsUp, IsDown}
use Rattle.ch_hierarchy.specs.Kept.{IsLeg, IsFounded, MeetsWithin, IsKept}
use Rattle.ch_hierarchy.proofs.theory.KeptWalks.{kept_has_walks}
use Rattle.ch_hierarchy.proofs.theory.LegPaths.{path_cost-cons, rises_along, falls_along}
use Rattle.ch_hierarchy.proofs.theory.LegWalks.{up_walk, down_walk, rises, falls}
use Rattle.ch_custom.specs.Pruning.{IsArcLeg, IsPruned, PrunedAreKept, IsHigher, IsByLeg, IsByLegDown, KeptHierarchiesTakeLegs}

module _ (g : Network) (H P : LevelsAndLegs) (limits : IsWithinLimits g) (kept : IsKept g H) (levelled : IsLevelled P)
    (is : IsPruned g H P) where
  -- an arc is a walk
  arc_walk : (u w : ℕ) (c : Cost) (m : Option ℕ) → IsArcLeg g u w c m → IsWalkCost g u w c
  arc_walk u w c m a =
      subst (IsWalkCost g u w) (same_costs (arc_cost (record { from = u; to = w; weight = c.weight })) c refl (sym a.1))
      (IsWalkCost-arc g (record { from = u; to = w; weight = c.weight }) a.2)

  -- each leg that is left is a walk
  leg_walk : (u w : ℕ) (c : Cost) (m : Option ℕ) → IsLeg P u w c m → IsWalkCost g u w c
  leg_walk u w c m leg = elim (is.left u w c m leg) [
    | inl least ↦ least.1.walk
    | inr arc ↦ arc_walk u w c m arc
  ]

  up_leg : (v : ℕ) (l : Leg) → Contains (row P.up v) l → IsWalkCost g v l.node l.cost
  up_leg v l has = leg_walk v l.node l.cost l.middle (l, refl, refl, inl (has, refl))

  down_leg : (v : ℕ) (l : Leg) → Contains (row P.down v) l → IsWalkCost g l.node v l.cost
  down_leg v l has = leg_walk l.node v l.cost l.middle (l, refl, refl, inr (has, refl))

  -- a least path up stays
  up_stays : (a b : ℕ) (legs : List Leg) → IsUpwardPath H.up a b legs → IsLeast g a b (path_cost legs) → IsUpwardPath P.up a b legs
  up_stays a b [] p least = p
  up_stays a b (l ∷ legs) p least =
      let whole = subst (IsLeast g a b) (path_cost-cons l legs) least in
      let first = up_walk g H kept a l p.0 in
      let rest = rises g H kept l.node b legs p.1 in (
        is.up a l p.0 (IsLeast-front g a l.node b l.cost (path_cost legs) whole first rest),
        up_stays l.node b legs p.1 (IsLeast-back g a l.node b l.cost (path_cost legs) whole first rest),
      )

  -- a least path down stays
  down_stays : (a b : ℕ) (legs : List Leg) → IsUpwardPath H.down a b legs → IsLeast g b a (path_cost legs) → IsUpwardPath P.down a b legs
  down_stays a b [] p least = p
  down_stays a b (l ∷ legs) p least =
      let whole = subst (IsLeast g b a) (path_cost-cons l legs ∙ cost_sum_comm l.cost (path_cost legs)) least in
      let last = down_walk g H kept a l p.0 in
      let rest = falls g H kept l.node b legs p.1 in (
        is.down a l p.0 (IsLeast-back g b l.node a (path_cost legs) l.cost whole rest last),
        down_stays l.node b legs p.1 (IsLeast-front g b l.node a (path_cost legs) l.cost whole rest last),
      )

  -- a least path up costs the least of all paths up, and so does one down
  least_up : (a b : ℕ) (legs : List Leg) → IsUpwardPath H.up a b legs → IsLeast g a b (path_cost legs) → IsUp P a b (path_cost legs)
  least_up a b legs p l = record {
    path = (legs, up_stays a b legs p l, refl);
    weight = IsLeast-weight g a b (path_cost legs) limits l;
    least = λ others q light. IsLeast-IsAtMost g a b (path_cost legs) (path_cost others) l (rises_along g P.up up_leg a b others q);
  }

  least_down : (a b : ℕ) (legs : List Leg) → IsUpwardPath H.down a b legs → IsLeast g b a (path_cost legs) → IsDown P b a (path_cost legs)
  least_down a b legs p l = record {
    path = (legs, down_stays a b legs p l, refl);
    weight = IsLeast-weight g b a (path_cost legs) limits l;
    least = λ others q light. IsLeast-IsAtMost g b a (path_cost legs) (path_cost others) l (falls_along g P.down down_leg a b others q);
  }

  -- for each walk, going up and then down costs at most as much
  walk_met : (s t : ℕ) (c : Cost) → IsWalkCost g s t c → MeetsWithin P s t c
  walk_met s t c walk =
      let least = IsLeast-of_walk g s t c walk in
      let m = (kept_has_walks g H limits kept).meets s t least.0 least.1 in
      let ups = m.1 in
      let downs = m.2 in
      let rise = m.3 in
      let fall = m.4 in
      let up = rises g H kept s m.0 ups rise in
      let down = falls g H kept t m.0 downs fall in
      let same = IsLeast-again g s t least.0 (cost_sum (path_cost ups) (path_cost downs)) least.1
      (IsWalkCost-cost_sum g s m.0 t (path_cost ups) (path_cost downs) up down) m.5 in
      let whole = subst (IsLeast g s t) (sym same) least.1 in (
        m.0,
        least.0,
        (
          path_cost ups,
          path_cost downs,
          least_up s m.0 ups rise (IsLeast-front g s m.0 t (path_cost ups) (path_cost downs) whole up down),
          least_down t m.0 downs fall (IsLeast-back g s m.0 t (path_cost ups) (path_cost downs) whole up down),
          same,
        ),
        least.2,
      )

  -- the halves of a least leg are least, so they are left
  halves_left : (u w : ℕ) (c : Cost) (m : Option ℕ) → IsFounded g H u w c m → IsLeast g u w c → IsFounded g P u w c m
  halves_left u w c None f least = f
  halves_left u w c (Some v) f least =
      let a = f.0 in
      let b = f.1 in
      let whole = subst (IsLeast g u w) f.6 least in
      let first : IsWalkCost g u v a.cost = subst (λ z. IsWalkCost g z v a.cost) f.3 (down_walk g H kept v a f.2) in
      let second : IsWalkCost g v w b.cost = subst (λ z. IsWalkCost g v z b.cost) f.5 (up_walk g H kept v b f.4) in
      let front = IsLeast-front g u v w a.cost b.cost whole first second in
      let back = IsLeast-back g u v w a.cost b.cost whole first second in (
        a,
        b,
        is.down v a f.2 (subst (λ z. IsLeast g z v a.cost) (sym f.3) front),
        f.3,
        is.up v b f.4 (subst (λ z. IsLeast g v z b.cost) (sym f.5) back),
        f.5,
        f.6,
      )

  founded_left : (u w : ℕ) (c : Cost) (m : Option ℕ) → IsLeg P u w c m → IsFounded g P u w c m
  founded_left u w c m leg = elim (is.left u w c m leg) [
    | inl least ↦ halves_left u w c m (kept.founded u w c m least.0) least.1
    | inr arc ↦ subst (IsFounded g P u w c) (sym arc.0) (arc.1, arc.2)
  ]

  -- what is left is right for the graph
  pruned_kept : IsKept g P
  pruned_kept = record {
    nodes = ap (λ z. length z) is.level ∙ kept.nodes;
    levelled = levelled;
    founded = founded_left;
    arcs = is.arcs;
    covered = λ v a b down up apart. walk_met a.node b.node (cost_sum a.cost b.cost)
        (IsWalkCost-cost_sum g a.node v b.node a.cost b.cost (down_leg v a down) (up_leg v b up));
  }

-- pruned hierarchies are kept
pub pruned_are_kept : PrunedAreKept
pruned_are_kept g H P limits kept levelled is = pruned_kept g H P limits kept levelled is

module _ (g : Network) (H : LevelsAndLegs) (limits : IsWithinLimits g) (kept : IsKept g H) where
  -- levels rise along a path
  rows_rise : (rows : List (List Leg)) →
      ((v : ℕ) (l : Leg) → Contains (row rows v) l → slice_index H.level v < slice_index H.level l.node) →
      (a b : ℕ) (legs : List Leg) → IsUpwardPath rows a b legs → slice_index H.level a ≤ slice_index H.level b
  rows_rise rows higher a b [] p = let e = ap (slice_index H.level) p in omega arith
  rows_rise rows higher a b (l ∷ legs) p =
      let one = higher a l p.0 in
      let rest = rows_rise rows higher l.node b legs p.1 in
      omega arith

  up_higher : (v : ℕ) (l : Leg) → Contains (row H.up v) l → slice_index H.level v < slice_index H.level l.node
  up_higher v l has = (All-contains (IsLegUp H v) (row H.up v) l (kept.levelled.up.1 v).1 has).higher

  down_higher : (v : ℕ) (l : Leg) → Contains (row H.down v) l → slice_index H.level v < slice_index H.level l.node
  down_higher v l has = (All-contains (IsLegUp H v) (row H.down v) l (kept.levelled.down.1 v).1 has).higher

  -- a least walk to a higher node goes up first
  first_leg : (v x : ℕ) (c : Cost) → IsHigher H v x → IsLeast g v x c → IsByLeg g H v x c
  first_leg v x c higher least =
      let m = (kept_has_walks g H limits kept).meets v x c least in
      at m.0 m.1 m.2 m.3 m.4 m.5
    where
      at : (m : ℕ) (ups downs : List Leg) → IsUpwardPath H.up v m ups → IsUpwardPath H.down x m downs →
          IsAtMost (cost_sum (path_cost ups) (path_cost downs)) c → IsByLeg g H v x c
      at m [] downs rise fall cheap =
          let e = ap (slice_index H.level) rise in
          let low = rows_rise H.down down_higher x m downs fall in
          absurd (omega arith)
      at m (l ∷ ups) downs rise fall cheap =
          let one = up_walk g H kept v l rise.0 in
          let on = rises g H kept l.node m ups rise.1 in
          let down = falls g H kept x m downs fall in
          let rest = IsWalkCost-cost_sum g l.node m x (path_cost ups) (path_cost downs) on down in
          let split : cost_sum (path_cost (l ∷ ups)) (path_cost downs) ≡ cost_sum l.cost (cost_sum (path_cost ups) (path_cost downs)) =
          ap (λ z. cost_sum z (path_cost downs)) (path_cost-cons l ups) ∙ cost_sum_assoc l.cost (path_cost ups) (path_cost downs) in
          let same = IsLeast-again g v x c (cost_sum l.cost (cost_sum (path_cost ups) (path_cost downs))) least
          (IsWalkCost-cost_sum g v l.node x l.cost (cost_sum (path_cost ups) (path_cost downs)) one rest)
          (subst (λ z. IsAtMost z c) split cheap) in
          record {
            leg = l;
            first = rise.0;
            rest = cost_sum (path_cost ups) (path_cost downs);
            onward = IsLeast-back g v l.node x l.cost (cost_sum (path_cost ups) (path_cost downs))
                (subst (IsLeast g v x) (sym same) least) one rest;
            sum = sym same;
          }

  -- a least walk from a higher node goes down last
  last_leg : (v x : ℕ) (c : Cost) → IsHigher H v x → IsLeast g x v c → IsByLegDown g H v x c
  last_leg v x c higher least =
      let m = (kept_has_walks g H limits kept).meets x v c least in
      at m.0 m.1 m.2 m.3 m.4 m.5
    where
      at : (m : ℕ) (ups downs : List Leg) → IsUpwardPath H.up x m ups → IsUpwardPath H.down v m downs →
          IsAtMost (cost_sum (path_cost ups) (path_cost downs)) c → IsByLegDown g H v x c
      at m ups [] rise fall cheap =
          let e = ap (slice_index H.level) fall in
          let low = rows_rise H.up up_higher x m ups rise in
          absurd (omega arith)
      at m ups (l ∷ downs) rise fall cheap =
          let one = down_walk g H kept v l fall.0 in
          let on = falls g H kept l.node m downs fall.1 in
          let up = rises g H kept x m ups rise in
          let rest = IsWalkCost-cost_sum g x m l.node (path_cost ups) (path_cost downs) up on in
          let split : cost_sum (path_cost ups) (path_cost (l ∷ downs)) ≡ cost_sum (cost_sum (path_cost ups) (path_cost downs)) l.cost =
          ap (cost_sum (path_cost ups)) (path_cost-cons l downs ∙ cost_sum_comm l.cost (path_cost downs))
          ∙ sym (cost_sum_assoc (path_cost ups) (path_cost downs) l.cost) in
          let same = IsLeast-again g x v c (cost_sum (cost_sum (path_cost ups) (path_cost downs)) l.cost) least
          (IsWalkCost-cost_sum g x l.node v (cost_sum (path_cost ups) (path_cost downs)) l.cost rest one)
          (subst (λ z. IsAtMost z c) split cheap) in
          record {
            leg = l;
            last = fall.0;
            rest = cost_sum (path_cost ups) (path_cost downs);
            before = IsLeast-front g x l.node v (cost_sum (path_cost ups) (path_cost downs)) l.cost
                (subst (IsLeast g x v) (sym same) least) rest one;
            sum = sym same;
          }

-- kept hierarchies take legs
pub kept_hierarchies_take_legs : KeptHierarchiesTakeLegs
kept_hierarchies_take_legs g H limits kept = record { up = first_leg g H limits kept; down = last_leg g H limits kept }
