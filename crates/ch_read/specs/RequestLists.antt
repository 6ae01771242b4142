-- The lists of a request.
use Rattle.std.specs.Prelude.{ℕ, List, Option}
use Rattle.ch_read.specs.declared.new_weights.NewWeight.{NewWeight}

-- the sources and the targets of a table, and its own limit, if it has one
pub record TwoLists : Type 0 where
  pub sources : List ℕ
  pub targets : List ℕ
  pub within : Option ℕ

-- the places of near rows, and the greatest number of them in a row, if there is one
pub record PlaceList : Type 0 where
  pub nodes : List ℕ
  pub count : Option ℕ

-- new weights in the order of their lines, and the number of the line that begins their list
pub record WeightList : Type 0 where
  pub line : ℕ
  pub listed : List NewWeight
