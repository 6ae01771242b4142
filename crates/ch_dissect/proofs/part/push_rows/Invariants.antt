-- The rows before this one end among the heads, which are nodes of the part.
use Rattle.std.proofs.Common.{◌≡◌, ◌+◌, vec_len}
use Rattle.ch_dissect.specs.Rows.{AreBelow, AreUpTo}
use Rattle.ch_dissect.proofs.part.push_rows.Given as goal

abbrev pub invariant-loop-at : goal.invariant-loop-at
invariant-loop-at l = (vec_len l.starts ≡ l.at + 1) × AreUpTo (vec_len l.heads) l.starts.items × AreBelow l.count l.heads.items
