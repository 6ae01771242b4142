-- The legs of a hierarchy in one list, and for each leg the places of the two legs that it stands for.
use Rattle.std.specs.Prelude.{◌≡◌, ℕ, ◌*◌, ◌<◌, ◌≤◌, ⊤, Bool, is_some, List, length, slice_index, slice_index_or, Option, None, Some}
use Rattle.ch_graph.specs.declared.arc.InArc.{InArc}
use Rattle.ch_hierarchy.specs.Hierarchy.{LevelsAndLegs, IsLevelled, nodes_of}
use Rattle.ch_query.specs.Routes.{IsUnpacked}
use Rattle.ch_flows.specs.declared.handing.Halves.{Halves}
use Rattle.ch_flows.specs.declared.plan.Link.{Link}
use Rattle.ch_flows.specs.Handing.{AreParts, most_flow, part_at, shares_of, weighed}
use Rattle.ch_query.specs.declared.routes.Route.{Route}
use Rattle.ch_query.specs.declared.routes.unpacking.PendingLeg.{PendingLeg}
use Rattle.ch_flows.specs.declared.plan.Plan.{Plan}
use Rattle.ch_flows.specs.Flows.{AreServed, IsAnswer, arcs_of, flow, times, without_route}
use Rattle.ch_flows.specs.Layouts.{IsLaid}
use Rattle.ch_flows.specs.Links.{IsLink, IsLinkUnpacked, AreHalvesOf, AreApart, from_of, link_at, to_of}
use Rattle.ch_flows.specs.declared.pairs.FlowError.{FlowError}

-- legs of the hierarchy, and the places of the halves of each
pub record IsPlan (H : LevelsAndLegs) (links : List Link) (parts : List (Option Halves)) : Type 0 where
  pub levelled : IsLevelled H
  pub long : length links ≡ length parts
  pub legs : (i : ℕ) → i < length links → IsLink H (link_at links i)
  pub arcs : (i : ℕ) → i < length parts → part_at parts i ≡ None → (link_at links i).leg.middle ≡ None
  pub halves : (i : ℕ) (two : Halves) → i < length parts → part_at parts i ≡ Some two → AreHalvesOf links (link_at links i) two
  pub later : AreParts parts
  pub apart : AreApart links

-- a number for each leg: how often its arcs lead from u to w
abbrev pub AreTimes : LevelsAndLegs → List Link → ℕ → ℕ → (ℕ → ℕ) → Type 0
AreTimes H links u w share = (i : ℕ) (arcs : List InArc) → i < length links → IsLinkUnpacked H (link_at links i) arcs →
    share i ≡ times u w arcs

-- the places of the legs of a way: these stand for the arcs, each as often as it is there
pub record IsWay (H : LevelsAndLegs) (links : List Link) (way : List ℕ) (arcs : List InArc) : Type 0 where
  pub within : (k d : ℕ) → k < length way → slice_index_or way k d < length links
  pub times : (u w : ℕ) (share : ℕ → ℕ) → AreTimes H links u w share → shares_of share way ≡ times u w arcs

-- the flows of legs count, for all ends, as often as the routes of pairs lead from one to the other, each times its demand
abbrev pub IsTally : LevelsAndLegs → List Link → List (ℕ × Option Route) → List ℕ → Type 0
IsTally H links served flows = (u w : ℕ) (share : ℕ → ℕ) → AreTimes H links u w share → weighed share flows ≡ flow u w served

-- the same of a total, for each numbering of the legs, of what was added to legs or is held
abbrev pub IsTallyBy : LevelsAndLegs → List Link → List (ℕ × Option Route) → ((ℕ → ℕ) → ℕ) → Type 0
IsTallyBy H links served total = (u w : ℕ) (share : ℕ → ℕ) → AreTimes H links u w share → total share ≡ flow u w served

-- each leg that is an arc has the flow of that arc
abbrev pub AreFlows : List Link → List (Option Halves) → List (ℕ × Option Route) → List ℕ → Type 0
AreFlows links parts served flows = (j : ℕ) → j < length parts → part_at parts j ≡ None →
    slice_index flows j ≡ flow (from_of (link_at links j)) (to_of (link_at links j)) served

-- some arc has more than the greatest flow
abbrev pub IsTooMuch : List Link → List (Option Halves) → List (ℕ × Option Route) → Type 0
IsTooMuch links parts served = (j : ℕ) × (j < length parts) × (part_at parts j ≡ None)
    × (most_flow < flow (from_of (link_at links j)) (to_of (link_at links j)) served)

-- the place of a leg of the hierarchy
pub record IsLegPlace (H : LevelsAndLegs) (links : List Link) (leg : PendingLeg) (p : ℕ) : Type 0 where
  pub within : p < length links
  pub unpacked : (arcs : List InArc) → IsUnpacked H leg.from leg.to leg.cost.weight leg.middle arcs →
      IsLinkUnpacked H (link_at links p) arcs

-- the places of the legs of a pair's way, if there is one
abbrev pub IsWayFound : LevelsAndLegs → List Link → ℕ → ℕ → List ℕ → Bool → Type 0
IsWayFound H links s t way found =
    (answer : Option Route) × (found ≡ is_some answer) × IsAnswer H s t answer × IsWay H links way (arcs_of answer)

-- the legs of the hierarchy as they were laid out, with the places of the halves of each
pub record IsPlanOf (H : LevelsAndLegs) (plan : Plan) : Type 0 where
  pub laid : IsLaid H plan.layout.starts.items plan.layout.links.items (2 * nodes_of H)
  pub is : IsPlan H plan.layout.links.items plan.parts.items

-- the first n pairs are counted: in the flows of legs, and those without a route
abbrev pub AreCounted : LevelsAndLegs → List Link → List ℕ → List ℕ → List ℕ → ℕ → List ℕ → ℕ → Type 0
AreCounted H links sources targets demands n flows missed = (served : List (ℕ × Option Route))
    × AreServed H sources targets demands n served × IsTally H links served flows × (missed ≡ without_route served)

-- the same of a total
abbrev pub AreCountedBy : LevelsAndLegs → List Link → List ℕ → List ℕ → List ℕ → ℕ → ((ℕ → ℕ) → ℕ) → ℕ → Type 0
AreCountedBy H links sources targets demands n total missed = (served : List (ℕ × Option Route))
    × AreServed H sources targets demands n served × IsTallyBy H links served total × (missed ≡ without_route served)

-- pair n has this way and this demand
abbrev pub IsPairAt : LevelsAndLegs → List Link → List ℕ → List ℕ → List ℕ → ℕ → List ℕ → Bool → ℕ → Type 0
IsPairAt H links sources targets demands n way found demand =
    IsWayFound H links (slice_index sources n) (slice_index targets n) way found × (slice_index demands n ≡ demand)

-- the flows of all pairs: each leg that is an arc has the flow of that arc; and the number of pairs without a route
abbrev pub AreFlowsOf : LevelsAndLegs → Plan → List ℕ → List ℕ → List ℕ → List ℕ → ℕ → Type 0
AreFlowsOf H plan sources targets demands flows missed = (served : List (ℕ × Option Route))
    × AreServed H sources targets demands (length sources) served × AreFlows plan.layout.links.items plan.parts.items served flows
    × (missed ≡ without_route served)

-- the pairs were refused because some arc has too much by the first n of them, or because there is no memory
abbrev pub IsRefusal : LevelsAndLegs → Plan → List ℕ → List ℕ → List ℕ → FlowError → Type 0
IsRefusal H plan sources targets demands FlowError.TooLarge = (n : ℕ) × (served : List (ℕ × Option Route)) × (n ≤ length sources)
    × AreServed H sources targets demands n served × IsTooMuch plan.layout.links.items plan.parts.items served
IsRefusal H plan sources targets demands FlowError.NoMemory = ⊤
