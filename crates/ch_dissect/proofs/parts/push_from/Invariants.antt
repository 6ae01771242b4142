-- The nodes before this one are copied.
use Rattle.std.proofs.Common.{◌≡◌, ℕ, vec_len}
use Rattle.ch_dissect.specs.Rows.{AreBelow}
use Rattle.ch_dissect.proofs.parts.push_from.Given as goal

abbrev pub invariant-loop-number : goal.invariant-loop-number
invariant-loop-number l = (vec_len l.copy ≡ l.number) × ((n : ℕ) → AreBelow n l.nodes → AreBelow n l.copy.items)
