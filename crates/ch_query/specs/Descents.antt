-- The way back from the meet to the source of one side, as the program goes it.
use Rattle.std.specs.Prelude.{◌≡◌, ℕ, ◌+◌, ◌≤◌, List, ◌++◌, map, Some, Vec, vec_len, vec_capacity}
use Rattle.std.specs.declared.alloc.Global.{Global}
use Rattle.ch_graph.specs.declared.cost.Cost.{Cost}
use Rattle.ch_graph.specs.Cost.{IsBelow, cost_at}
use Rattle.ch_hierarchy.specs.Hierarchy.{LevelsAndLegs}
use Rattle.ch_hierarchy.specs.Paths.{IsLeastUpwardPath}
use Rattle.ch_hierarchy.specs.declared.side.Side.{Side}
use Rattle.ch_hierarchy.specs.declared.side.Side.TheVariants.{Up, Down}
use Rattle.ch_hierarchy.specs.Side.{rows_of}
use Rattle.ch_query.specs.declared.question.Question.{Question}
use Rattle.ch_query.specs.declared.sides.search.Search.{Search}
use Rattle.ch_query.specs.declared.routes.unpacking.PendingLeg.{PendingLeg}
use Rattle.ch_query.specs.Search.{AvoidsIdle}
use Rattle.ch_query.specs.Underway.{idle_of, IsUnderway}
use Rattle.ch_query.specs.ByNode.{costs_of, keys_of}
use Rattle.ch_query.specs.Routes.{DescentStep, IsDescent}

-- the search reached m at the least cost c, stalled on no path to m of that cost, and has settled all nodes of at
-- most that cost
pub record HasReached (H : LevelsAndLegs) (q : Question) (x : Search) (m : ℕ) (c : Cost) : Type 0 where
  pub underway : IsUnderway H q x
  pub known : cost_at (costs_of H x) m ≡ Some c
  pub least : IsLeastUpwardPath (rows_of H q.side) q.source m c
  pub past : (v : ℕ) (d : Cost) → cost_at (keys_of H x) v ≡ Some d → IsBelow c d
  pub avoids : AvoidsIdle (rows_of H q.side) (idle_of H q) m c

-- the search has reached m, and there is room for one pending leg for each arc of its cost
abbrev pub HasReachedWithRoom : LevelsAndLegs → Question → Search → ℕ → Vec PendingLeg Global → Type 0
HasReachedWithRoom H q x m pending = (c : Cost) × HasReached H q x m c × (vec_len pending + c.arcs ≤ vec_capacity pending)

-- the leg of a step of this side, from the node where it begins to the node where it ends
abbrev pub pending_of : Side → DescentStep → PendingLeg
pending_of Up step = record { from = step.low; to = step.leg.node; cost = step.leg.cost; middle = step.leg.middle }
pending_of Down step = record { from = step.leg.node; to = step.low; cost = step.leg.cost; middle = step.leg.middle }

-- the legs of the chosen steps back to the source were appended
pub record IsTraced (H : LevelsAndLegs) (side : Side) (s m : ℕ) (old new : List PendingLeg) : Type 0 where
  pub steps : List DescentStep
  pub descent : IsDescent (rows_of H side) s m steps
  pub pushed : new ≡ old ++ map (pending_of side) steps
