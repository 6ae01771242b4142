-- The arcs before the current one have their lines, and the sum is the total of the values on them.
use Rattle.std.proofs.Common.{◌≡◌, ◌<◌, ℕ, List, length, slice_index, slice_index_or}
use Rattle.ch_graph.specs.declared.arc.InArc.{InArc}
use Rattle.ch_engine.specs.Routes.{IsArcLine}
use Rattle.ch_engine.specs.RouteSums.{IsTotal, sum_on}
use Rattle.ch_engine.proofs.network.Network.sum_of.Given as goal

abbrev pub invariant-loop-j : goal.invariant-loop-j
invariant-loop-j l =
    (along : List ℕ) × (length along ≡ l.j)
    × ((k : ℕ) (d : InArc) → k < l.j → IsArcLine l.self.0 l.self.1 (slice_index_or l.arcs k d) (slice_index along k))
    × IsTotal (sum_on l.values along) l.sum
