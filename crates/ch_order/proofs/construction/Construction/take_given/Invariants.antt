-- Some of the given nodes before the current one are contracted, in their order.
use Rattle.std.proofs.Common.{take}
use Rattle.ch_order.specs.Quick.{IsBegunWith}
use Rattle.ch_order.proofs.construction.Construction.take_given.Given as goal

abbrev pub invariant-loop-place : goal.invariant-loop-place
invariant-loop-place g l = IsBegunWith l.graph l.hops.number (take l.place l.given) l.construction
