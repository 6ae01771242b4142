-- The list has the shortcuts that begin with the legs before the current one, and the search is clean.
use Rattle.std.proofs.Common.{ℕ}
use Rattle.ch_contract.specs.KnownCosts.{IsClean, known_of}
use Rattle.ch_contract.specs.Remaining.{legs_of}
use Rattle.ch_contract.specs.ShortcutLists.{legs_touching, AreShortcutsBefore}
use Rattle.ch_contract.proofs.code.ShortcutLemmas.{IsBoundary}
use Rattle.ch_contract.proofs.remaining.judging.Judging.fill.Given as goal

-- the list has the shortcuts before a boundary between the legs so far and the others, and the search is clean
abbrev pub invariant-loop-first : goal.invariant-loop-first
invariant-loop-first g l =
    ((a : ℕ) × IsBoundary l.self.touching.down.now l.first-index a × AreShortcutsBefore l.self.remaining.now.nodes l.self.hops.number
    (legs_touching l.self.touching.node l.self.touching.up.now l.self.touching.down.now) (legs_of l.self.remaining.now)
    l.self.touching.node a 0 l.list.items) × IsClean l.self.remaining.now.nodes (known_of g.K.HeldCost.cost l.search.known)
