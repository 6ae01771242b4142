-- How work is cut.
use Rattle.std.specs.Prelude.{ℕ, ◌≤◌}
use Rattle.ch_work.specs.declared.limits.TheConstants.{MOST_WORKERS, MOST_PIECE}

-- the number of workers, the number of items in a piece, and the least number of neighbours that are cut into pieces
pub record Division : Type 0 where
  pub workers : ℕ
  pub piece : ℕ
  pub wide : ℕ

-- the numbers of workers and of items in a piece are at least 1 and within the limits
pub record IsWithinLimits (d : Division) : Type 0 where
  pub workers : (1 ≤ d.workers) × (d.workers ≤ MOST_WORKERS)
  pub piece : (1 ≤ d.piece) × (d.piece ≤ MOST_PIECE)
