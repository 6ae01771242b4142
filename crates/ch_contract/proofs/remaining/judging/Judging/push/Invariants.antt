-- The list has the shortcuts over this leg and the legs from the node before the current one.
use Rattle.std.proofs.Common.{ℕ}
use Rattle.ch_contract.specs.Remaining.{legs_of}
use Rattle.ch_contract.specs.ShortcutLists.{legs_touching, AreShortcutsBefore}
use Rattle.ch_contract.proofs.code.ShortcutLemmas.{IsBoundary}
use Rattle.ch_contract.proofs.remaining.judging.Judging.push.Given as goal

-- the list has the shortcuts before some boundary between the legs that were taken and the others
abbrev pub invariant-loop-second : goal.invariant-loop-second
invariant-loop-second g l = (b : ℕ) × IsBoundary l.self.touching.up.now l.second-index b
    × AreShortcutsBefore l.self.remaining.now.nodes l.self.hops.number
    (legs_touching l.self.touching.node l.self.touching.up.now l.self.touching.down.now) (legs_of l.self.remaining.now)
    l.self.touching.node l.first.node b l.list.items
