-- The legs of a hierarchy in one list, each with the lower of its two nodes.
use Rattle.std.specs.Prelude.{◌≡◌, ℕ, ◌<◌, List, length, slice_index_or, Contains, None, Some}
use Rattle.ch_graph.specs.declared.arc.InArc.{InArc}
use Rattle.ch_hierarchy.specs.Rows.{row}
use Rattle.ch_hierarchy.specs.Hierarchy.{LevelsAndLegs}
use Rattle.ch_hierarchy.specs.declared.side.Side.{Side}
use Rattle.ch_hierarchy.specs.declared.side.Side.TheVariants.{Up, Down}
use Rattle.ch_hierarchy.specs.Side.{rows_of}
use Rattle.ch_query.specs.Routes.{IsUnpacked}
use Rattle.ch_flows.specs.declared.handing.Halves.{Halves}
use Rattle.ch_flows.specs.declared.plan.Link.{Link}

-- the nodes from which and to which a leg of v and the node x leads
abbrev pub tail_of : Side → ℕ → ℕ → ℕ
tail_of Up v x = v
tail_of Down v x = x

abbrev pub head_of : Side → ℕ → ℕ → ℕ
head_of Up v x = x
head_of Down v x = v

abbrev pub from_of : Link → ℕ
from_of link = tail_of link.side link.low link.leg.node

abbrev pub to_of : Link → ℕ
to_of link = head_of link.side link.low link.leg.node

-- the leg at a place
abbrev pub link_at : List Link → ℕ → Link
link_at links i = slice_index_or links i
    (record { side = Up; low = 0; leg = record { node = 0; cost = record { weight = 0; arcs = 0 }; middle = None } })

-- it is a leg of the hierarchy
abbrev pub IsLink : LevelsAndLegs → Link → Type 0
IsLink H link = Contains (row (rows_of H link.side) link.low) link.leg

-- the arcs that it stands for
abbrev pub IsLinkUnpacked : LevelsAndLegs → Link → List InArc → Type 0
IsLinkUnpacked H link arcs = IsUnpacked H (from_of link) (to_of link) link.leg.cost.weight link.leg.middle arcs

-- the leg on this side between the lower node v and x
pub record IsBetween (side : Side) (v x : ℕ) (link : Link) : Type 0 where
  pub side_is : link.side ≡ side
  pub low_is : link.low ≡ v
  pub node_is : link.leg.node ≡ x

-- the places of the two legs of the middle
pub record AreHalvesOf (links : List Link) (link : Link) (halves : Halves) : Type 0 where
  pub middle : ℕ
  pub is : link.leg.middle ≡ Some middle
  pub first : IsBetween Down middle (from_of link) (link_at links halves.first)
  pub second : IsBetween Up middle (to_of link) (link_at links halves.second)

-- no two places have legs with the same ends
abbrev pub AreApart : List Link → Type 0
AreApart links = (i j : ℕ) → i < length links → j < length links → from_of (link_at links i) ≡ from_of (link_at links j) →
    to_of (link_at links i) ≡ to_of (link_at links j) → i ≡ j
