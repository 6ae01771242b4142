-- The nodes so far have other keys, and all else is as before.
use Rattle.std.proofs.Common.{◌≡◌, ℕ}
use Rattle.ch_order.specs.Construction.{IsSized, IsJudging, progress_of}
use Rattle.ch_order.specs.Quick.{IsRekeyed}
use Rattle.ch_order.proofs.construction.Construction.estimate_all.Given as goal

abbrev pub invariant-loop-node : goal.invariant-loop-node
invariant-loop-node l =
    IsSized l.self
    × (l.self.remaining.nodes ≡ l.fn.self.remaining.nodes)
    × IsRekeyed (progress_of l.fn.self) (progress_of l.self)
    × ((h : ℕ) → IsJudging h l.fn.self → IsJudging h l.self)
