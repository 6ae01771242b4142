-- The nodes of the part are nodes, and none is lost.
use Rattle.std.proofs.Common.{◌≡◌, vec_len, length}
use Rattle.ch_dissect.specs.Rows.{AreBelow}
use Rattle.ch_dissect.proofs.parts.Parts.arrange.Given as goal

abbrev pub invariant-loop-number : goal.invariant-loop-number
invariant-loop-number l = (l.self.count ≡ l.initial.self.count)
    × AreBelow l.self.count l.self.arranged.items × (vec_len l.self.arranged ≡ length l.groups)
