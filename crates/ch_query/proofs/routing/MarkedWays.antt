-- The ways back along marks from the node of the least sum make the route.
use Rattle.std.proofs.Common.{◌≡◌, ℕ, ◌<◌, List, [], reverse, sym, ◌∙◌, ap, subst, arith, inl, inr}
use Rattle.std.specs.Prelude.{◌≢◌}
use Rattle.std.specs.List.Sorted.{IsPermutation}
use Rattle.std.proofs.lemmas.Bool.{cases_eq}
use Rattle.ch_graph.specs.declared.cost.TheConstants.{UNREACHED}
use Rattle.ch_graph.specs.declared.cost.Cost.{Cost}
use Rattle.ch_graph.proofs.SimpleWalks.{IsLeast-arcs}
use Rattle.ch_hierarchy.specs.Hierarchy.{LevelsAndLegs, nodes_of}
use Rattle.ch_hierarchy.specs.Paths.{IsMeeting, IsMeet}
use Rattle.ch_hierarchy.specs.Ranked.{rank_of}
use Rattle.ch_hierarchy.specs.declared.side.Side.TheVariants.{Up, Down}
use Rattle.ch_hierarchy.proofs.code.Ranked.{rank_below, rank_one}
use Rattle.ch_hierarchy.proofs.theory.KeptWalks.{meetings_are_distances}
use Rattle.ch_query.specs.declared.routes.unpacking.PendingLeg.{PendingLeg}
use Rattle.ch_query.specs.declared.weights.marked.LeastSum.{LeastSum}
use Rattle.ch_query.specs.declared.weights.marked.TheConstants.{TIED}
use Rattle.ch_query.specs.Descents.{IsTraced}
use Rattle.ch_query.specs.Distance.{IsKeptForSome}
use Rattle.ch_query.specs.Marks.{HasWayBack, IsMarkedWay}
use Rattle.ch_query.specs.Ways.{AreWayLegs}
use Rattle.ch_query.proofs.one_side.End.{least_reached}
use Rattle.ch_query.proofs.one_side.Expanding.{leg_up}
use Rattle.ch_query.proofs.one_side.TightBefore.{ends_with}
use Rattle.ch_query.proofs.one_side.TightNodes.{tight_up, tight_down}
use Rattle.ch_query.proofs.routing.MarkedSteps.{untied}
use Rattle.ch_query.proofs.routing.RouteArcs.{route_traced, traced_pending, traced_arcs, turned_pending, turned_arcs}

-- a node where two paths meet is a node of the hierarchy
meeting_within : (H : LevelsAndLegs) → IsKeptForSome H → (s t n : ℕ) (d : Cost) → t < nodes_of H → IsMeeting H s t n d → n < nodes_of H
meeting_within H k s t n d within (a, b, rise, fall, sum) = elim (cases_eq n t) [
  | inl same ↦ omega arith
  | inr ne ↦
      let last = ends_with H.down t n fall.path.0 fall.path.1 ne in
      let up = (leg_up H k.2.levelled Down last.u last.leg last.has).node in
      let node = last.node in
      omega arith
]

module _ (H : LevelsAndLegs) (k : IsKeptForSome H) (s t : ℕ) (marks : List ℕ) (least : LeastSum) (w : IsMarkedWay H s t marks least)
    (within : t < nodes_of H) (known : least.weight ≢ UNREACHED) (single : least.rank ≢ TIED) where
  -- the least cost
  abbrev cost : Cost
  cost = (w.some known).0

  -- the rank is that of each node where two paths of the least cost meet
  rank_is : (n : ℕ) → IsMeeting H s t n cost → least.rank ≡ rank_of H n
  rank_is n there = untied least.rank (rank_of H n) single (w.meets n cost (w.some known).1 there)

  -- it is the rank of a node
  pub rank_within : least.rank < nodes_of H
  rank_within =
      let h = (w.some known).1 in
      let is = rank_is h.meets.0 h.meets.1 in
      let low = rank_below H k.2.levelled h.meets.0 (meeting_within H k s t h.meets.0 cost within h.meets.1) in
      omega arith

  module _ (node : ℕ) (node_within : node < nodes_of H) (at : rank_of H node ≡ least.rank) where
    -- each node where two paths of the least cost meet is this node
    same_node : (n : ℕ) → IsMeeting H s t n cost → node ≡ n
    same_node n there =
        rank_one H k.2.levelled node n node_within (meeting_within H k s t n cost within there) (at ∙ rank_is n there)

    -- so it is the meet
    meet : IsMeet H s t node cost
    meet =
        let h = (w.some known).1 in
        record {
          meets = subst (λ n. IsMeeting H s t n cost) (sym (same_node h.meets.0 h.meets.1)) h.meets.1;
          least = λ n d there. (
            h.least n d there,
            λ same. let is = same_node n (subst (IsMeeting H s t n) same there) in omega arith,
          );
        }

    -- the marks lead back to the end
    pub way_down : HasWayBack H Down t node marks
    way_down =
        let h = (w.some known).1 in
        let weighs = (w.some known).2 in
        let a = meet.meets.0 in
        let b = meet.meets.1 in
        let sum = ap (λ (q : Cost). q.weight) meet.meets.4 in (
          b,
          tight_down H k s t node a b cost h (least_reached H.up s node a meet.meets.2) (least_reached H.down t node b meet.meets.3)
              meet.meets.4,
          λ u c l tight has there low. w.back.1 u c l tight has there (omega arith),
        )

    -- and to the start
    pub way_up : HasWayBack H Up s node marks
    way_up =
        let h = (w.some known).1 in
        let weighs = (w.some known).2 in
        let a = meet.meets.0 in
        let b = meet.meets.1 in
        let sum = ap (λ (q : Cost). q.weight) meet.meets.4 in (
          a,
          tight_up H k s t node a b cost h (least_reached H.up s node a meet.meets.2) (least_reached H.down t node b meet.meets.3)
              meet.meets.4,
          λ u c l tight has there low. w.back.0 u c l tight has there (omega arith),
        )

    -- the legs of both ways back are those of the route
    pub marked_legs : (none fallen turned all : List PendingLeg) → none ≡ [] → IsTraced H Down t node none fallen →
        IsPermutation fallen turned → turned ≡ reverse fallen →
        IsTraced H Up s node turned all → (cost : Cost) × (cost.weight ≡ least.weight) × AreWayLegs H s t cost all
    marked_legs none fallen turned all empty fall_by turn turn_is rise =
        let law = meetings_are_distances k.0 H k.1 k.2 in
        let fall = subst (λ old. IsTraced H Down t node old fallen) empty fall_by in
        let down = traced_arcs H Down t node meet.meets.1 meet.meets.3 [] fallen fall in
        let up = traced_arcs H Up s node meet.meets.0 meet.meets.2 turned all rise in
        let same = turned_arcs fallen turned turn in
        let sum = ap (λ (q : Cost). q.arcs) meet.meets.4 in
        let nodes = k.2.nodes in (
          cost,
          (w.some known).2,
          record {
            pending = traced_pending H Up s node turned all rise (turned_pending H fallen turned turn
                (traced_pending H Down t node [] fallen fall (λ p has. absurd (let lt = has.1 in omega arith))));
            arcs = omega arith;
            few = (let few = IsLeast-arcs k.0 s t cost k.1 (omega arith) ((law.least s t cost).1 (w.some known).1) in omega arith);
            route = route_traced H s t node cost meet fallen turned all fall turn_is rise;
          },
        )
