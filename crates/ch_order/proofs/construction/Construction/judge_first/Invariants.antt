-- The nodes judged so far have other keys, the first node of the queue has a key, and all else is as before.
use Rattle.std.proofs.Common.{◌≡◌}
use Rattle.ch_order.specs.Construction.{IsSized, IsJudging, progress_of}
use Rattle.ch_order.specs.Quick.{HasKey, IsRekeyed}
use Rattle.ch_order.proofs.construction.Construction.judge_first.Given as goal

abbrev pub invariant-loop : goal.invariant-loop
invariant-loop l =
    IsSized l.self
    × (l.self.remaining.nodes ≡ l.fn.self.remaining.nodes)
    × IsRekeyed (progress_of l.fn.self) (progress_of l.self)
    × HasKey l.self.waiting l.node
    × IsJudging l.hops.number l.self
