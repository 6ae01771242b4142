-- The nodes before this place have handed their rows on, and their triangles are counted.
use Rattle.std.proofs.Common.{◌≡◌, ◌≤◌, take}
use Rattle.ch_custom.specs.Pairs.{AreHandedOn}
use Rattle.ch_custom.specs.Triangles.{triangles_over, AreNeeded}
use Rattle.ch_custom.proofs.topology.hand_all_on.Given as goal

abbrev pub invariant-loop-place : goal.invariant-loop-place
invariant-loop-place l = AreHandedOn l.graph l.order l.levels l.place l.pairs × AreNeeded l.graph l.order l.pairs
    × (l.triangles ≡ triangles_over l.pairs (take l.place l.order)) × (l.triangles ≤ l.most)
