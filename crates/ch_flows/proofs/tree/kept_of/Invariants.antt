-- The entries before the current one are kept or left out.
use Rattle.ch_hierarchy.specs.Side.{other, rows_of}
use Rattle.ch_flows.specs.Trees.{AreKept}
use Rattle.ch_flows.proofs.tree.kept_of.Given as goal

abbrev pub invariant-loop-i : goal.invariant-loop-i
invariant-loop-i l = AreKept (rows_of l.hierarchy l.side) (rows_of l.hierarchy (other l.side)) l.entries l.kept.items l.i
