-- Paths by weights alone: the legs of a hierarchy lead to the same nodes and weigh the same.
use Rattle.std.proofs.Common.{◌≡◌, ℕ, ◌<◌, List, [], ◌∷◌, map, All, Contains, refl, sym, ◌∙◌, ap, subst, arith}
use Rattle.std.proofs.Math.ListN.{get_or-map}
use Rattle.std.proofs.lemmas.List.{length-map}
use Rattle.std.proofs.lemmas.List.Elements.{All-map}
use Rattle.ch_graph.specs.declared.cost.Cost.{Cost}
use Rattle.ch_graph.specs.Cost.{cost_sum}
use Rattle.ch_graph.proofs.Lists.{contains_map, contains_map_of, pairs_map}
use Rattle.ch_graph.proofs.WalkCosts.{IsWalkCost-cost_sum, IsLeast-IsAtMost}
use Rattle.ch_hierarchy.specs.declared.leg.Leg.{Leg}
use Rattle.ch_hierarchy.specs.Hierarchy.{LevelsAndLegs, IsLegUp, AreLegsUp, IsLevelled}
use Rattle.ch_hierarchy.specs.Paths.{IsUpwardPath, path_cost}
use Rattle.ch_hierarchy.specs.Rows.{row, IsRow}
use Rattle.ch_hierarchy.specs.Turned.{turned_hierarchy}
use Rattle.ch_hierarchy.specs.declared.side.Side.{Side}
use Rattle.ch_hierarchy.specs.declared.side.Side.TheVariants.{Up, Down}
use Rattle.ch_hierarchy.specs.Side.{rows_of, other}
use Rattle.ch_hierarchy.proofs.theory.KeptWalks.{kept_has_walks, meetings_are_distances}
use Rattle.ch_hierarchy.proofs.theory.LegPaths.{path_cost-cons}
use Rattle.ch_query.specs.Distance.{IsKeptForSome}
use Rattle.ch_query.specs.Search.{IsUpwardCost, IsStalled, AvoidsIdle}
use Rattle.ch_query.specs.SearchSpace.{IsTight}
use Rattle.ch_query.specs.Weighed.{weighed_cost, weighed_leg, weighed}
use Rattle.ch_query.proofs.one_side.Expanding.{reached_by_leg}
use Rattle.ch_query.proofs.one_side.TightNodes.{kept_turned, least_meeting_turned, sum_walk}

-- the row of a node has the same legs by weight
row_weighed : (rows : List (List Leg)) (v : ℕ) → row (map (map weighed_leg) rows) v ≡ map weighed_leg (row rows v)
row_weighed rows v = get_or-map (map weighed_leg) rows v []

-- the rows of a side are its rows, each leg by weight alone
pub weighed_rows : (H : LevelsAndLegs) (side : Side) → rows_of (weighed H) side ≡ map (map weighed_leg) (rows_of H side)
weighed_rows H Up = refl
weighed_rows H Down = refl

-- each row is the same row, each leg by weight alone
pub weighed_row : (H : LevelsAndLegs) (side : Side) (v : ℕ) → row (rows_of (weighed H) side) v ≡ map weighed_leg (row (rows_of H side) v)
weighed_row H side v = ap (λ rows. row rows v) (weighed_rows H side) ∙ row_weighed (rows_of H side) v

-- legs still lead to higher nodes
legs_up_weighed : (H : LevelsAndLegs) (rows : List (List Leg)) → AreLegsUp H rows → AreLegsUp (weighed H) (map (map weighed_leg) rows)
legs_up_weighed H rows are = (
  length-map rows (map weighed_leg) ∙ are.0,
  λ v. subst (λ legs. IsRow legs × All (IsLegUp (weighed H) v) legs) (sym (row_weighed rows v)) (
    pairs_map weighed_leg (λ a b. a.node < b.node) (row rows v) (are.1 v).0,
    All-map (IsLegUp (weighed H) v) weighed_leg (row rows v) (λ i d lt.
        let up = (are.1 v).1 i d lt in
        record { node = up.node; higher = up.higher; weight = up.weight; arcs = let node = up.node in omega arith }),
  ),
)

-- the hierarchy by weights alone is levelled
pub weighed_levelled : (H : LevelsAndLegs) → IsLevelled H → IsLevelled (weighed H)
weighed_levelled H is =
    record { count = is.count; levels = is.levels; up = legs_up_weighed H H.up is.up; down = legs_up_weighed H H.down is.down }

-- each leg by weight alone is made of a leg
leg_of_weighed : (rows : List (List Leg)) (v : ℕ) (l : Leg) → Contains (row (map (map weighed_leg) rows) v) l →
    (k : Leg) × Contains (row rows v) k × (weighed_leg k ≡ l)
leg_of_weighed rows v l has = contains_map_of weighed_leg (row rows v) l (subst (λ legs. Contains legs l) (row_weighed rows v) has)

-- the cost of a path by weights alone is its weight
pub path_cost-weighed : (legs : List Leg) → path_cost (map weighed_leg legs) ≡ weighed_cost (path_cost legs)
path_cost-weighed [] = refl
path_cost-weighed (l ∷ legs) =
    path_cost-cons (weighed_leg l) (map weighed_leg legs) ∙ ap (cost_sum (weighed_cost l.cost)) (path_cost-weighed legs)
    ∙ ap weighed_cost (sym (path_cost-cons l legs))

-- a path is a path by weights alone
pub path_weighed : (rows : List (List Leg)) (a b : ℕ) (legs : List Leg) → IsUpwardPath rows a b legs →
    IsUpwardPath (map (map weighed_leg) rows) a b (map weighed_leg legs)
path_weighed rows a b [] path = path
path_weighed rows a b (l ∷ legs) path = (
  subst (λ ks. Contains ks (weighed_leg l)) (sym (row_weighed rows a)) (contains_map weighed_leg (row rows a) l path.0),
  path_weighed rows l.node b legs path.1,
)

-- each path by weights alone is made of a path
pub path_of_weighed : (rows : List (List Leg)) (a b : ℕ) (legs : List Leg) → IsUpwardPath (map (map weighed_leg) rows) a b legs →
    (before : List Leg) × IsUpwardPath rows a b before × (map weighed_leg before ≡ legs)
path_of_weighed rows a b [] path = ([], path, refl)
path_of_weighed rows a b (l ∷ legs) path =
    let first = leg_of_weighed rows a l path.0 in
    let rest = path_of_weighed rows first.0.node b legs
    (subst (λ (k : Leg). IsUpwardPath (map (map weighed_leg) rows) k.node b legs) (sym first.2) path.1) in
    (first.0 ∷ rest.0, (first.1, rest.1), ap (λ k. k ∷ map weighed_leg rest.0) first.2 ∙ ap (λ ks. l ∷ ks) rest.2)

-- a reached node is reached by weights alone
pub weighed_reached : (rows : List (List Leg)) (s v : ℕ) (c : Cost) → IsUpwardCost rows s v c →
    IsUpwardCost (map (map weighed_leg) rows) s v (weighed_cost c)
weighed_reached rows s v c r = record {
  path = (map weighed_leg r.path.0, path_weighed rows s v r.path.0 r.path.1, path_cost-weighed r.path.0 ∙ ap weighed_cost r.path.2);
  weight = r.weight;
}

-- a node that is reached by weights alone is reached at that weight
reached_of_weighed : (rows : List (List Leg)) (s v : ℕ) (c : Cost) → IsUpwardCost (map (map weighed_leg) rows) s v c →
    (d : Cost) × IsUpwardCost rows s v d × (d.weight ≡ c.weight)
reached_of_weighed rows s v c r =
    let before = path_of_weighed rows s v r.path.0 r.path.1 in
    let same : (path_cost before.0).weight ≡ c.weight =
    ap (λ (q : Cost). q.weight) (sym (path_cost-weighed before.0) ∙ ap path_cost before.2 ∙ r.path.2) in
    let light = r.weight in
    (path_cost before.0, record { path = (before.0, before.1, refl); weight = omega arith }, same)

-- the same on both sides
pub reached_weight : (H : LevelsAndLegs) (side : Side) (s v : ℕ) (c : Cost) → IsUpwardCost (rows_of (weighed H) side) s v c →
    (d : Cost) × IsUpwardCost (rows_of H side) s v d × (d.weight ≡ c.weight)
reached_weight H side s v c r = reached_of_weighed (rows_of H side) s v c (subst (λ rows. IsUpwardCost rows s v c) (weighed_rows H side) r)

-- if a search by weights alone stalls at a node, a walk from s to it weighs less. So it stalls at no node on a
-- lightest path to a tight node
up_avoids : (H : LevelsAndLegs) → IsKeptForSome H → (s m : ℕ) (a : Cost) → IsTight H Up s m a →
    AvoidsIdle (rows_of (weighed H) Up) (IsStalled (rows_of (weighed H) Up) (rows_of (weighed H) Down) s) m (weighed_cost a)
up_avoids H k s m a tight x e legs i path le =
    let back = leg_of_weighed H.down x i.leg i.has in
    let there = reached_of_weighed H.up s i.leg.node i.cost i.reached in
    let on = path_of_weighed H.up x m legs path in
    let node = ap (λ (q : Leg). q.node) back.2 in
    let reached = subst (λ q. IsUpwardCost H.up s q there.0) (sym node) there.1 in
    let first = sum_walk H k s x back.0.node there.0 back.0.cost reached (reached_by_leg H k.2.levelled Down x back.0 back.1) in
    let walk = IsWalkCost-cost_sum k.0 s x m (cost_sum there.0 back.0.cost) (path_cost on.0) first
    ((kept_has_walks k.0 H k.1 k.2).rises x m on.0 on.1) in
    let least = ((meetings_are_distances k.0 H k.1 k.2).least s m a).1 tight.1 in
    let low = (IsLeast-IsAtMost k.0 s m a _ least walk).0 in
    let weight = there.2 in
    let leg : back.0.cost.weight ≡ i.leg.cost.weight = ap (λ (q : Leg). q.cost.weight) back.2 in
    let rest : (path_cost on.0).weight ≡ (path_cost legs).weight =
    ap (λ (q : Cost). q.weight) (sym (path_cost-weighed on.0) ∙ ap path_cost on.2) in
    let below = i.below in
    let light = below.0 in
    let most = le.0 in
    let fewer = below.1 (omega arith) in
    let no_fewer = le.1 (omega arith) in
    omega arith

-- the same in both directions
pub weighed_avoids : (H : LevelsAndLegs) → IsKeptForSome H → (side : Side) (s m : ℕ) (a : Cost) → IsTight H side s m a →
    AvoidsIdle (rows_of (weighed H) side) (IsStalled (rows_of (weighed H) side) (rows_of (weighed H) (other side)) s) m (weighed_cost a)
weighed_avoids H k Up s m a tight = up_avoids H k s m a tight
weighed_avoids H k Down s m a tight = up_avoids (turned_hierarchy H) (kept_turned H k) s m a (tight.0, least_meeting_turned H m s a tight.1)
