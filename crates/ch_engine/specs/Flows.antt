-- Flows on the lines of the graph: the sum of the demands of the pairs whose routes take the arc on a line.
use Rattle.std.specs.Prelude.{◌≡◌, ℕ, ◌<◌, ◌≤◌, ◌⊎◌, List, length, slice_index, Option, None}
use Rattle.ch_graph.specs.declared.arc.InArc.{InArc}
use Rattle.ch_graph.specs.Graph.{Network, IsWithinLimits}
use Rattle.ch_hierarchy.specs.Hierarchy.{LevelsAndLegs}
use Rattle.ch_hierarchy.specs.Kept.{IsKept}
use Rattle.ch_query.specs.declared.routes.Route.{Route}
use Rattle.ch_flows.specs.declared.plan.Plan.{Plan}
use Rattle.ch_flows.specs.Cells.{cell_sources, cell_targets}
use Rattle.ch_flows.specs.Flows.{AreServed, flow, without_route}
use Rattle.ch_flows.specs.Handing.{most_flow, part_at}
use Rattle.ch_flows.specs.Links.{from_of, link_at, to_of}
use Rattle.ch_engine.specs.declared.flows.Flowed.{Flowed}
use Rattle.ch_engine.specs.Held.{Held}
use Rattle.ch_engine.specs.Lines.{AreLines, IsFirstLine, Leads, Lines, arc_on}

-- the line is the one that routes name for its arc: of the lines between the same nodes the first of least weight
abbrev pub IsNamed : List InArc → ℕ → Type 0
IsNamed arcs line = IsFirstLine arcs (Leads arcs (arc_on arcs line).from (arc_on arcs line).to) line

-- the flow on a line, in each graph that the hierarchy is right for and that has these lines: a line that routes name has
-- the demands of the pairs whose routes lead from its one end to the other, as often as they do, and other lines have none
abbrev pub IsLineFlow : LevelsAndLegs → Lines → List (ℕ × Option Route) → ℕ → ℕ → Type 0
IsLineFlow H lines served line f = (g : Network) → IsWithinLimits g → IsKept g H → AreLines g H lines →
    (IsNamed g.arcs line → f ≡ flow (arc_on g.arcs line).from (arc_on g.arcs line).to served) × ((IsNamed g.arcs line → ⊥) → f ≡ 0)

-- the flows of pairs on all lines, and the number of pairs without a route
abbrev pub AreLineFlows : Held → List ℕ → List ℕ → List ℕ → List ℕ → ℕ → Type 0
AreLineFlows held sources targets demands flows missed = (served : List (ℕ × Option Route))
    × AreServed held.hierarchy sources targets demands (length sources) served × (missed ≡ without_route served)
    × ((line : ℕ) → line < length flows → IsLineFlow held.hierarchy held.lines served line (slice_index flows line))

-- by the first n pairs some arc has more than the greatest flow
abbrev pub IsFlowTooLarge : Held → List ℕ → List ℕ → List ℕ → Type 0
IsFlowTooLarge held sources targets demands = (n u w : ℕ) × (served : List (ℕ × Option Route)) × (n ≤ length sources)
    × AreServed held.hierarchy sources targets demands n served × (most_flow < flow u w served)

-- all flows are written, or none
abbrev pub AreFlowsWritten : Held → List ℕ → List ℕ → List ℕ → List ℕ → List ℕ → Flowed → Type 0
AreFlowsWritten held sources targets demands before after (Flowed.All missed) =
    AreLineFlows held sources targets demands after missed × (length after ≡ length before)
AreFlowsWritten held sources targets demands before after Flowed.TooLarge =
    IsFlowTooLarge held sources targets demands × (after ≡ before)
AreFlowsWritten held sources targets demands before after Flowed.NoMemory = after ≡ before

-- the same of the pairs of each source with each target
abbrev pub AreTableFlowsWritten : Held → List ℕ → List ℕ → List ℕ → List ℕ → List ℕ → Flowed → Type 0
AreTableFlowsWritten held sources targets = AreFlowsWritten held (cell_sources sources targets) (cell_targets sources targets)

-- a line has the flow of the arc that it was written for, among the first n legs; or it was written for none, and has 0
abbrev pub IsPut : List InArc → Plan → List ℕ → ℕ → ℕ → ℕ → Type 0
IsPut arcs plan legs n line f =
    ((i : ℕ) × (i < n) × (part_at plan.parts.items i ≡ None)
    × IsFirstLine arcs (Leads arcs (from_of (link_at plan.layout.links.items i)) (to_of (link_at plan.layout.links.items i))) line
    × (f ≡ slice_index legs i))
    ⊎ (((i : ℕ) → i < n → part_at plan.parts.items i ≡ None →
    IsFirstLine arcs (Leads arcs (from_of (link_at plan.layout.links.items i)) (to_of (link_at plan.layout.links.items i))) line → ⊥)
    × (f ≡ 0))

-- the same of all lines, in each graph that the hierarchy is right for and that has these lines
abbrev pub ArePut : LevelsAndLegs → Lines → Plan → List ℕ → ℕ → List ℕ → Type 0
ArePut H lines plan legs n out = (g : Network) → IsWithinLimits g → IsKept g H → AreLines g H lines →
    (line : ℕ) → line < length out → IsPut g.arcs plan legs n line (slice_index out line)
