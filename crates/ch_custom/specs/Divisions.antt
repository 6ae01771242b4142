-- What holds of a topology that is cut into parts while its legs are lowered.
use Rattle.std.specs.Prelude.{ℕ, List}
use Rattle.ch_hierarchy.specs.declared.side.Side.TheVariants.{Up, Down}
use Rattle.ch_custom.specs.declared.division.Division.{Division}
use Rattle.ch_custom.specs.declared.leg_pair.LegPair.{LegPair}
use Rattle.ch_custom.specs.LegPairs.{rows_at}
use Rattle.ch_custom.specs.Parts.{IsDivision, AreRowsOf, AreTakenAt, AreOfPart, AreOfParts}
use Rattle.ch_custom.specs.Topologies.{AreMetricsAt}

-- the topology is one of the graph, and the parts are apart
abbrev pub IsApart : Division → Type 0
IsApart d = IsDivision d.graph.now d.order.now d.levels.now d.rows.now d.rest d.parts.now

-- these are the rows of a part
abbrev pub HasRows : Division → ℕ → List (List ℕ) → Type 0
HasRows d part own = AreRowsOf d.rows.now d.parts.now part own

-- the legs in these rows are lowered over the nodes before this place
abbrev pub AreLoweredAt : Division → List (List ℕ) → ℕ → List (List LegPair) → Type 0
AreLoweredAt d own place metric = AreMetricsAt d.graph.now d.order.now own place (rows_at Up metric) (rows_at Down metric)

-- these are the legs of the node at this place just before it is taken
abbrev pub IsTakenAt : Division → ℕ → List LegPair → Type 0
IsTakenAt d place taken = AreTakenAt d.graph.now d.order.now d.rows.now place taken

-- these are the legs of a part, and of each of the first parts, lowered over all nodes
abbrev pub HasLegsOf : Division → ℕ → List (List LegPair) → Type 0
HasLegsOf d part metric = AreOfPart d.graph.now d.order.now d.rows.now d.parts.now part metric

abbrev pub HasLegsOfAll : Division → List (List (List LegPair)) → Type 0
HasLegsOfAll d metrics = AreOfParts d.graph.now d.order.now d.rows.now d.parts.now metrics
