-- Words of places, lowered to the least sums of a search space and the buckets of its ranks.
use Rattle.std.specs.Prelude.{◌≡◌, ℕ, ◌<◌, ◌≤◌, ◌⊎◌, List, [], length, slice_index, slice_index_or, Contains}

-- each place has the least of its old word and its sums, where P relates a place to its sums
pub record AreLowered (P : ℕ → ℕ → Type 0) (before after : List ℕ) : Type 0 where
  pub size : length after ≡ length before
  pub lower : (j : ℕ) → slice_index after j ≤ slice_index before j
  pub sound : (j : ℕ) → j < length before → (slice_index after j ≡ slice_index before j) ⊎ P j (slice_index after j)
  pub whole : (j x : ℕ) → P j x → slice_index after j ≤ x

-- x is a sum of place j at one of the ranks of a search space. P relates a weight and a bucket to places and their sums
abbrev pub IsSumOver : {E : Type 0} → (ℕ → List E → ℕ → ℕ → Type 0) → List (ℕ × ℕ) → List (List E) → ℕ → ℕ → Type 0
IsSumOver P space buckets j x = (rank a : ℕ) × Contains space (rank, a) × P a (slice_index_or buckets rank []) j x
