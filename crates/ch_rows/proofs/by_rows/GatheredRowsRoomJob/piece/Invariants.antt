-- The rows of the sources before the current one are gathered, and the scratch space is clean.
use Rattle.std.proofs.Common.{◌≡◌, take}
use Rattle.ch_hierarchy.specs.Hierarchy.{nodes_of}
use Rattle.ch_rows.specs.Table.{IsGathered}
use Rattle.ch_rows.proofs.by_rows.GatheredRowsRoomJob.piece.Given as goal

abbrev pub invariant-loop-source : goal.invariant-loop-source
invariant-loop-source g l =
    IsGathered (g.J.RowJob.meaning l.self.2) l.self.0.hierarchy l.self.0.limit l.self.0.targets (take l.source-index l.sources) l.gathered
    × (l.room ≡ nodes_of l.self.0.hierarchy)
