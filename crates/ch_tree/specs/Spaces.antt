-- Lists of the ancestors of a node, by rank, with their weights.
use Rattle.std.specs.Prelude.{◌≡◌, ◌≢◌, ℕ, ◌+◌, ◌<◌, ◌≤◌, ◌⊎◌, List, length, AllPairs, Contains}
use Rattle.ch_hierarchy.specs.declared.leg.Leg.{Leg}
use Rattle.ch_hierarchy.specs.declared.side.Side.{Side}
use Rattle.ch_hierarchy.specs.Hierarchy.{LevelsAndLegs, nodes_of}
use Rattle.ch_hierarchy.specs.Ranked.{rank_of}
use Rattle.ch_hierarchy.specs.Rows.{row}
use Rattle.ch_hierarchy.specs.Side.{rows_of, other}
use Rattle.ch_tree.specs.Tree.{IsAbove, weight_at}

-- each entry is a rank with its weight, which is at most `most`, and no rank has two
pub record AreEntries (most : ℕ) (costs : List ℕ) (list : List (ℕ × ℕ)) : Type 0 where
  pub distinct : AllPairs (λ a b. a.0 ≢ b.0) list
  pub sound : (rank x : ℕ) → Contains list (rank, x) → (rank < length costs) × (weight_at costs rank ≡ x) × (x ≤ most)

-- a leg from a higher node shows a lighter way to v
abbrev pub IsBeaten : LevelsAndLegs → Side → List ℕ → ℕ → Type 0
IsBeaten H side costs v = (l : Leg) × Contains (row (rows_of H (other side)) v) l
    × (weight_at costs (rank_of H l.node) + l.cost.weight < weight_at costs (rank_of H v))

-- the same for the node of this rank
abbrev pub IsBeatenAt : LevelsAndLegs → Side → List ℕ → ℕ → Type 0
IsBeatenAt H side costs rank = (v : ℕ) → v < nodes_of H → rank_of H v ≡ rank → IsBeaten H side costs v

-- each place from `first` up whose weight is at most `most` has an entry, or it may be left out
pub record AreGathered (MayGo : ℕ → Type 0) (parents : List ℕ) (first most : ℕ) (costs : List ℕ) (list : List (ℕ × ℕ)) : Type 0 where
  pub entries : AreEntries most costs list
  pub whole : (rank : ℕ) → IsAbove parents first (rank + 1) → weight_at costs rank ≤ most →
      MayGo rank ⊎ Contains list (rank, weight_at costs rank)

-- each place from `first` up that is below `place` and whose weight is at most `most` has an entry, or it may be left out, and no
-- other place has one
pub record AreGatheredTo (MayGo : ℕ → Type 0) (parents : List ℕ) (first most place : ℕ) (costs : List ℕ) (list : List (ℕ × ℕ)) :
    Type 0 where
  pub entries : AreEntries most costs list
  pub here : IsAbove parents first place
  pub below : (rank x : ℕ) → Contains list (rank, x) → place < rank + 1
  pub whole : (rank : ℕ) → IsAbove parents first (rank + 1) → place < rank + 1 → weight_at costs rank ≤ most →
      MayGo rank ⊎ Contains list (rank, weight_at costs rank)
