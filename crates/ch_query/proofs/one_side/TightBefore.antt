-- A node that is before a tight node on a least path is tight, and there is one unless the tight node is the source.
use Rattle.std.proofs.Common.{◌≡◌, ℕ, List, [], ◌∷◌, Contains, refl, sym, ◌∙◌, ap, subst}
use Rattle.ch_graph.specs.declared.cost.Cost.{Cost}
use Rattle.ch_graph.specs.Cost.{cost_sum}
use Rattle.ch_graph.specs.Walk.{IsLeast}
use Rattle.ch_graph.proofs.CostSums.{cost_sum_assoc}
use Rattle.ch_graph.proofs.WalkCosts.{IsLeast-IsAtMost, IsLeast-front}
use Rattle.ch_hierarchy.specs.declared.leg.Leg.{Leg}
use Rattle.ch_hierarchy.specs.Hierarchy.{LevelsAndLegs}
use Rattle.ch_hierarchy.specs.Rows.{row}
use Rattle.ch_hierarchy.specs.Paths.{IsUpwardPath, path_cost}
use Rattle.ch_hierarchy.specs.Turned.{turned_hierarchy}
use Rattle.ch_hierarchy.specs.declared.side.Side.{Side}
use Rattle.ch_hierarchy.specs.declared.side.Side.TheVariants.{Up, Down}
use Rattle.ch_hierarchy.specs.Side.{rows_of}
use Rattle.ch_hierarchy.proofs.theory.KeptWalks.{kept_has_walks, meetings_are_distances}
use Rattle.ch_hierarchy.proofs.theory.LegPaths.{path_cost-cons}
use Rattle.ch_query.specs.Distance.{IsKeptForSome}
use Rattle.ch_query.specs.Search.{IsUpwardCost}
use Rattle.ch_query.specs.SearchSpace.{IsTight}
use Rattle.ch_query.proofs.one_side.Expanding.{reached_by_leg}
use Rattle.ch_query.proofs.one_side.PathLaws.{cost_push}
use Rattle.ch_query.proofs.one_side.TightNodes.{kept_turned, least_meeting_turned, walk_up}

-- u is before the tight node v on a path of the least cost
before_up : (H : LevelsAndLegs) (k : IsKeptForSome H) (s v u : ℕ) (c e : Cost) (l : Leg) → IsTight H Up s v e → IsUpwardCost H.up s u c →
    Contains (row H.up u) l → l.node ≡ v → cost_sum c l.cost ≡ e → IsTight H Up s u c
before_up H k s v u c e l tight up has node sum =
    let law = meetings_are_distances k.0 H k.1 k.2 in
    let whole : IsLeast k.0 s v (cost_sum c l.cost) = subst (IsLeast k.0 s v) (sym sum) ((law.least s v e).1 tight.1) in
    let step = subst (λ q. IsUpwardCost H.up u q l.cost) node (reached_by_leg H k.2.levelled Up u l has) in
    let front = IsLeast-front k.0 s u v c l.cost whole (walk_up H k s u c up) (walk_up H k u v l.cost step) in
    let rises = (kept_has_walks k.0 H k.1 k.2).rises s u in (
      record {
        path = up.path;
        weight = up.weight;
        least = λ legs path _. IsLeast-IsAtMost k.0 s u c (path_cost legs) front (rises legs path);
      },
      (law.least s u c).0 front,
    )

-- the same in both directions
pub tight_before : (H : LevelsAndLegs) (k : IsKeptForSome H) (side : Side) (s v u : ℕ) (c e : Cost) (l : Leg) → IsTight H side s v e →
    IsUpwardCost (rows_of H side) s u c → Contains (row (rows_of H side) u) l → l.node ≡ v → cost_sum c l.cost ≡ e → IsTight H side s u c
tight_before H k Up s v u c e l tight up has node sum = before_up H k s v u c e l tight up has node sum
tight_before H k Down s v u c e l tight up has node sum =
    let back = before_up (turned_hierarchy H) (kept_turned H k) s v u c e l (tight.0, least_meeting_turned H v s e tight.1) up has node
    sum in
    (back.0, least_meeting_turned (turned_hierarchy H) s u c back.1)

-- a path to v of this cost ends with a leg from u
pub record EndsWith (rows : List (List Leg)) (a v : ℕ) (cost : Cost) : Type 0 where
  pub u : ℕ
  pub leg : Leg
  pub before : List Leg
  pub path : IsUpwardPath rows a u before
  pub has : Contains (row rows u) leg
  pub node : leg.node ≡ v
  pub sum : cost_sum (path_cost before) leg.cost ≡ cost

-- a path of a leg and more legs does
ends_after : (rows : List (List Leg)) (a v : ℕ) (l : Leg) (legs : List Leg) → IsUpwardPath rows a v (l ∷ legs) →
    EndsWith rows a v (path_cost (l ∷ legs))
ends_after rows a v l [] path =
    record { u = a; leg = l; before = []; path = refl; has = path.0; node = path.1; sum = sym (cost_push [] l) }
ends_after rows a v l (k ∷ legs) path =
    let rest = ends_after rows l.node v k legs path.1 in
    record {
      u = rest.u;
      leg = rest.leg;
      before = l ∷ rest.before;
      path = (path.0, rest.path);
      has = rest.has;
      node = rest.node;
      sum = ap (λ q. cost_sum q rest.leg.cost) (path_cost-cons l rest.before)
          ∙ cost_sum_assoc l.cost (path_cost rest.before) rest.leg.cost ∙ ap (cost_sum l.cost) rest.sum
          ∙ sym (path_cost-cons l (k ∷ legs));
    }

-- so does each path that leads from one node to another
pub ends_with : (rows : List (List Leg)) (a v : ℕ) (legs : List Leg) → IsUpwardPath rows a v legs → (v ≡ a → ⊥) →
    EndsWith rows a v (path_cost legs)
ends_with rows a v [] path ne = absurd (ne (sym path))
ends_with rows a v (l ∷ legs) path ne = ends_after rows a v l legs path
