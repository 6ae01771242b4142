-- The ancestors of a node, as a list of ranks.
use Rattle.std.specs.Prelude.{◌≡◌, ℕ, ◌+◌, ◌<◌, ◌⊎◌, List, length, slice_index}
use Rattle.ch_tree.specs.Tree.{IsAbove}

-- falling ranks: those of all places from `start` up that are below `place`
pub record AreRanksTo (parents : List ℕ) (start place : ℕ) (ranks : List ℕ) : Type 0 where
  pub here : IsAbove parents start place
  pub head : ((length ranks ≡ 0) × (place ≡ start)) ⊎ ((0 < length ranks) × (slice_index ranks 0 + 1 ≡ start))
  pub falls : (i j : ℕ) → i < j → j < length ranks → slice_index ranks j < slice_index ranks i
  pub sound : (i : ℕ) → i < length ranks → IsAbove parents start (slice_index ranks i + 1) × (place < slice_index ranks i + 1)
  pub whole : (r : ℕ) → IsAbove parents start (r + 1) → place < r + 1 → (i : ℕ) × (i < length ranks) × (slice_index ranks i ≡ r)

-- falling ranks: those of all places from `start` up
abbrev pub AreRanksAbove : List ℕ → ℕ → List ℕ → Type 0
AreRanksAbove parents start ranks = AreRanksTo parents start 0 ranks
