-- The numbers before the current one are nodes.
use Rattle.std.proofs.Common.{◌<◌, take}
use Rattle.std.specs.Prelude.{All}
use Rattle.ch_engine.proofs.words.are_nodes.Given as goal

abbrev pub invariant-loop-number : goal.invariant-loop-number
invariant-loop-number l = All (λ node. node < l.nodes) (take l.number-index l.numbers)
