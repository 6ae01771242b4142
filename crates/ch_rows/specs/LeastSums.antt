-- What is offered to each place by the search of a source.
use Rattle.std.specs.Prelude.{ℕ, List, length, Option}
use Rattle.ch_hierarchy.specs.declared.side.Side.TheVariants.{Up}
use Rattle.ch_query.specs.SearchSpace.{IsRankedSpace}
use Rattle.ch_rows.specs.Buckets.{HoldNearest}
use Rattle.ch_rows.specs.Near.{Wanted}
use Rattle.ch_rows.specs.Offers.{AreOffered, AreUnoffered}
use Rattle.ch_rows.specs.Sums.{IsSumOf}

-- each place has the least sum, within the bound, of a search space up from s and of the buckets of the targets
pub record AreLeastSums (wanted : Wanted) (bound : Option ℕ) (s : ℕ) (least : List ℕ) : Type 0 where
  pub buckets : List (List (ℕ × ℕ))
  pub held : HoldNearest wanted.hierarchy wanted.limit wanted.count wanted.targets buckets
  pub space : List (ℕ × ℕ)
  pub up : IsRankedSpace wanted.hierarchy Up bound s space
  pub fresh : List ℕ
  pub none : AreUnoffered (length wanted.targets) fresh
  pub offered : AreOffered (IsSumOf bound space buckets) fresh least
