-- Legs that still have to be unpacked: a stack with the leg that is travelled first on top, at the end.
use Rattle.std.specs.Prelude.{◌≡◌, ℕ, ◌≤◌, List, [], ◌∷◌, ◌++◌, Contains, Vec, vec_len, vec_capacity}
use Rattle.std.specs.List.{sum_by}
use Rattle.std.specs.declared.alloc.Global.{Global}
use Rattle.ch_graph.specs.declared.arc.InArc.{InArc}
use Rattle.ch_hierarchy.specs.declared.leg.Leg.{Leg}
use Rattle.ch_hierarchy.specs.Rows.{row}
use Rattle.ch_hierarchy.specs.Hierarchy.{LevelsAndLegs}
use Rattle.ch_hierarchy.specs.Kept.{IsLeg}
use Rattle.ch_query.specs.declared.routes.unpacking.PendingLeg.{PendingLeg}
use Rattle.ch_query.specs.Routes.{IsUnpacked}

-- the pending leg is a leg of the hierarchy
abbrev pub IsPending : LevelsAndLegs → PendingLeg → Type 0
IsPending H p = IsLeg H p.from p.to p.cost p.middle

abbrev pub ArePending : LevelsAndLegs → List PendingLeg → Type 0
ArePending H pending = (p : PendingLeg) → Contains pending p → IsPending H p

-- the number of arcs that the legs stand for
abbrev pub pending_arcs : List PendingLeg → ℕ
pending_arcs pending = sum_by (λ p. p.cost.arcs) pending

-- there is room for one pending leg and one arc for each arc that the legs stand for
pub record HasRoomToUnpack (pending : Vec PendingLeg Global) (arcs : Vec InArc Global) : Type 0 where
  pub legs : pending_arcs pending.items ≤ vec_capacity pending
  pub arcs_left : pending_arcs pending.items ≤ vec_capacity arcs
  pub empty : vec_len arcs ≡ 0

-- the arcs that the legs stand for, from the last leg on
abbrev pub ArePendingArcs : LevelsAndLegs → List PendingLeg → List InArc → Type 0
ArePendingArcs H [] arcs = arcs ≡ []
ArePendingArcs H (p ∷ pending) arcs =
    (before here : List InArc) × ArePendingArcs H pending before × IsUnpacked H p.from p.to p.cost.weight p.middle here
    × (arcs ≡ before ++ here)

-- the two legs through v that make a leg from u to w
pub record AreHalves (H : LevelsAndLegs) (u v w : ℕ) (a b : Leg) : Type 0 where
  pub first : Contains (row H.down v) a × (a.node ≡ u)
  pub second : Contains (row H.up v) b × (b.node ≡ w)

-- the two legs through v take the place of one leg, and the leg from u is on top
pub record IsSplit (H : LevelsAndLegs) (u v w : ℕ) (old new : List PendingLeg) : Type 0 where
  pub a : Leg
  pub b : Leg
  pub halves : AreHalves H u v w a b
  pub pushed : new ≡ (old ++ record { from = v; to = w; cost = b.cost; middle = b.middle } ∷ [])
      ++ record { from = u; to = v; cost = a.cost; middle = a.middle } ∷ []
