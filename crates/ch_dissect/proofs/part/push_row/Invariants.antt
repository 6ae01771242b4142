-- The heads are nodes of the part, and none is lost.
use Rattle.std.proofs.Common.{◌≤◌, vec_len}
use Rattle.ch_dissect.specs.Rows.{AreBelow}
use Rattle.ch_dissect.proofs.part.push_row.Given as goal

abbrev pub invariant-loop-place : goal.invariant-loop-place
invariant-loop-place l = AreBelow l.count l.heads.items × (vec_len l.initial.heads ≤ vec_len l.heads)
