-- Tight nodes, which are on least ways. A search that stalls reaches each of them at its least cost.
use Rattle.std.proofs.Common.{◌≡◌, ℕ, sym, ◌∙◌, subst}
use Rattle.ch_graph.specs.declared.cost.Cost.{Cost}
use Rattle.ch_graph.specs.Cost.{cost_sum}
use Rattle.ch_graph.specs.Walk.{IsLeast}
use Rattle.ch_graph.specs.WalkLaws.{IsWalkCost}
use Rattle.ch_graph.proofs.CostOrder.{IsBelow_not}
use Rattle.ch_graph.proofs.CostSums.{cost_sum_comm}
use Rattle.ch_graph.proofs.WalkCosts.{IsWalkCost-cost_sum, IsLeast-IsAtMost, IsLeast-front}
use Rattle.ch_hierarchy.specs.Hierarchy.{LevelsAndLegs}
use Rattle.ch_hierarchy.specs.Paths.{path_cost, IsLeastUpwardPath}
use Rattle.ch_hierarchy.specs.KeptLaws.{IsLeastMeeting}
use Rattle.ch_hierarchy.specs.Turned.{turned_graph, turned_hierarchy}
use Rattle.ch_hierarchy.specs.declared.side.Side.{Side}
use Rattle.ch_hierarchy.specs.declared.side.Side.TheVariants.{Up, Down}
use Rattle.ch_hierarchy.specs.Side.{rows_of, other}
use Rattle.ch_hierarchy.proofs.theory.KeptWalks.{kept_has_walks, meetings_are_distances}
use Rattle.ch_hierarchy.proofs.theory.Turned.{walk_turned, turned_limits, turned_meeting, turned_kept}
use Rattle.ch_query.specs.ByNode.{keys_of}
use Rattle.ch_query.specs.declared.sides.search.Search.{Search}
use Rattle.ch_query.specs.Covering.{IsPastCost}
use Rattle.ch_query.specs.Descents.{HasReached}
use Rattle.ch_query.specs.Distance.{IsKeptForSome}
use Rattle.ch_query.specs.Questions.{stalling}
use Rattle.ch_query.specs.Search.{IsUpwardCost, IsStalled, AvoidsIdle}
use Rattle.ch_query.specs.SearchSpace.{IsTight}
use Rattle.ch_query.specs.Underway.{IsUnderway}
use Rattle.ch_query.proofs.one_side.End.{settled_least}
use Rattle.ch_query.proofs.one_side.Expanding.{reached_by_leg}
use Rattle.ch_query.proofs.one_side.PathLaws.{below_then, below_sum}

-- a hierarchy that is right for some graph is right for the reversed graph when it is reversed
abbrev pub kept_turned : (H : LevelsAndLegs) → IsKeptForSome H → IsKeptForSome (turned_hierarchy H)
kept_turned H k = (turned_graph k.0, turned_limits k.0 k.1, turned_kept k.0 H k.2)

-- a least meeting is a least meeting in the other direction
pub least_meeting_turned : (H : LevelsAndLegs) (s t : ℕ) (c : Cost) → IsLeastMeeting H s t c → IsLeastMeeting (turned_hierarchy H) t s c
least_meeting_turned H s t c h = record {
  meets = (h.meets.0, turned_meeting H s t h.meets.0 c h.meets.1);
  least = λ m d there. h.least m d (turned_meeting (turned_hierarchy H) t s m d there);
}

-- if s reaches a node upwards, a walk leads there
pub walk_up : (H : LevelsAndLegs) (k : IsKeptForSome H) (s m : ℕ) (a : Cost) → IsUpwardCost H.up s m a → IsWalkCost k.0 s m a
walk_up H k s m a r = subst (IsWalkCost k.0 s m) r.path.2 ((kept_has_walks k.0 H k.1 k.2).rises s m r.path.0 r.path.1)

-- if t reaches a node along the down rows, a walk leads from there to t
walk_down : (H : LevelsAndLegs) (k : IsKeptForSome H) (t m : ℕ) (b : Cost) → IsUpwardCost H.down t m b → IsWalkCost k.0 m t b
walk_down H k t m b r = walk_turned k.0 m t b (walk_up (turned_hierarchy H) (kept_turned H k) t m b r)

-- the two walks together are a walk
pub sum_walk : (H : LevelsAndLegs) (k : IsKeptForSome H) (s t m : ℕ) (a b : Cost) → IsUpwardCost H.up s m a → IsUpwardCost H.down t m b →
    IsWalkCost k.0 s t (cost_sum a b)
sum_walk H k s t m a b up down = IsWalkCost-cost_sum k.0 s m t a b (walk_up H k s m a up) (walk_down H k t m b down)

-- if the two walks together cost as little as the least meeting, the node is tight from s
pub tight_up : (H : LevelsAndLegs) (k : IsKeptForSome H) (s t m : ℕ) (a b c : Cost) → IsLeastMeeting H s t c →
    IsUpwardCost H.up s m a → IsUpwardCost H.down t m b →
    cost_sum a b ≡ c → IsTight H Up s m a
tight_up H k s t m a b c h up down sum =
    let law = meetings_are_distances k.0 H k.1 k.2 in
    let whole = subst (IsLeast k.0 s t) (sym sum) ((law.least s t c).1 h) in
    let front = IsLeast-front k.0 s m t a b whole (walk_up H k s m a up) (walk_down H k t m b down) in
    let rises = (kept_has_walks k.0 H k.1 k.2).rises s m in (
      record {
        path = up.path;
        weight = up.weight;
        least =
            λ legs path _. IsLeast-IsAtMost k.0 s m a (path_cost legs) front (rises legs path);
      },
      (law.least s m a).0 front,
    )

-- the same from t
pub tight_down : (H : LevelsAndLegs) (k : IsKeptForSome H) (s t m : ℕ) (a b c : Cost) → IsLeastMeeting H s t c →
    IsUpwardCost H.up s m a → IsUpwardCost H.down t m b →
    cost_sum a b ≡ c → IsTight H Down t m b
tight_down H k s t m a b c h up down sum =
    let back = tight_up (turned_hierarchy H) (kept_turned H k) t s m b a c (least_meeting_turned H s t c h) down up
    (cost_sum_comm b a ∙ sum) in
    (back.0, least_meeting_turned (turned_hierarchy H) t m b back.1)

-- if a search from s stalls at a node, a walk from s to it costs less. So it stalls at no node on a least path to a
-- tight node
up_avoids : (H : LevelsAndLegs) (k : IsKeptForSome H) (s m : ℕ) (c : Cost) → IsTight H Up s m c →
    AvoidsIdle H.up (IsStalled H.up H.down s) m c
up_avoids H k s m c tight x e legs i path le =
    let cheaper = cost_sum i.cost i.leg.cost in
    let there = sum_walk H k s x i.leg.node i.cost i.leg.cost i.reached (reached_by_leg H k.2.levelled Down x i.leg i.has) in
    let walk = IsWalkCost-cost_sum k.0 s x m cheaper (path_cost legs) there ((kept_has_walks k.0 H k.1 k.2).rises x m legs path) in
    let least = ((meetings_are_distances k.0 H k.1 k.2).least s m c).1 tight.1 in
    IsBelow_not (cost_sum cheaper (path_cost legs)) c (below_then _ _ c (below_sum cheaper e (path_cost legs) i.below) le)
    (IsLeast-IsAtMost k.0 s m c _ least walk)

-- the same in both directions
tight_avoids : (H : LevelsAndLegs) → IsKeptForSome H → (side : Side) (s m : ℕ) (c : Cost) → IsTight H side s m c →
    AvoidsIdle (rows_of H side) (IsStalled (rows_of H side) (rows_of H (other side)) s) m c
tight_avoids H k Up s m c tight = up_avoids H k s m c tight
tight_avoids H k Down s m c tight = up_avoids (turned_hierarchy H) (kept_turned H k) s m c (tight.0, least_meeting_turned H m s c tight.1)

-- the cost of a tight node is that of a least upward path
pub tight_least : (H : LevelsAndLegs) (side : Side) (s m : ℕ) (c : Cost) → IsTight H side s m c → IsLeastUpwardPath (rows_of H side) s m c
tight_least H Up s m c tight = tight.0
tight_least H Down s m c tight = tight.0

-- once each remaining key is more, a search that stalls has reached a tight node. It stalls at no node on a least path there
pub tight_reached : (H : LevelsAndLegs) → IsKeptForSome H → (side : Side) (s : ℕ) (x : Search) → IsUnderway H (stalling side s) x →
    (m : ℕ) (a : Cost) → IsTight H side s m a → IsPastCost (keys_of H x) a → HasReached H (stalling side s) x m a
tight_reached H k side s x u m a tight past =
    let least = tight_least H side s m a tight in
    let avoids = tight_avoids H k side s m a tight in
    record {
      underway = u;
      known = (settled_least _ _ _ _ _ u.search m a least.weight past avoids least).0;
      least = least;
      past = past;
      avoids = avoids;
    }
