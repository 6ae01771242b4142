-- The room of both sides between queries.
use Rattle.std.specs.Prelude.{ℕ}
use Rattle.ch_query.specs.declared.sides.search.Search.{Search}
use Rattle.ch_query.specs.Underway.{IsClean}

-- two clean searches for n nodes, one for each side
pub record AreSides (n : ℕ) (up down : Search) : Type 0 where
  pub clean : IsClean n up × IsClean n down
