-- The items before the current one have paid what they owe, and each of them owes the first cell nine less twice its number.
use Rattle.std.proofs.Common.{◌≡◌, ℕ, ◌+◌, ◌*◌, ◌<◌, ◌≤◌}
use Rattle.ch_work.specs.Owed.{HasPaid}
use Rattle.ch_work.specs.Passes.{view_of, IsPassOf}
use Rattle.ch_checks.proofs.work.cells.FallingCellJob.piece.Given as goal

-- one of the items so far owes x to the first cell
abbrev pub Owed : ℕ → ℕ → ℕ → ℕ → Type 0
Owed from to cell x = (item : ℕ) × (from ≤ item) × (item < to) × (cell ≡ 0) × (x + 2 * item ≡ 9)

abbrev pub invariant-loop-item : goal.invariant-loop-item
invariant-loop-item l = IsPassOf l.board l.pass × HasPaid (Owed l.from l.item) (view_of l.fn.pass) (view_of l.pass)
