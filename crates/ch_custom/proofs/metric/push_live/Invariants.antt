-- The list has the legs before this place.
use Rattle.std.proofs.Common.{◌≡◌, take, set}
use Rattle.std.specs.Prelude.{filter}
use Rattle.ch_custom.specs.LegPairs.{row_of}
use Rattle.ch_custom.specs.Opening.{is_live}
use Rattle.ch_custom.proofs.metric.push_live.Given as goal

abbrev pub invariant-loop-place : goal.invariant-loop-place
invariant-loop-place l = l.lists ≡ set l.fn.lists l.node (filter is_live (take l.place (row_of l.side l.row)))
