-- Laws of search spaces.
use Rattle.std.specs.Prelude.{◌≡◌, ℕ, ◌+◌, ◌≤◌, List, Contains, Option, MatchOption}
use Rattle.ch_hierarchy.specs.Hierarchy.{LevelsAndLegs}
use Rattle.ch_hierarchy.specs.declared.side.Side.TheVariants.{Up, Down}
use Rattle.ch_query.specs.Distance.{IsKeptForSome}
use Rattle.ch_query.specs.Limits.{IsWithin, IsDistanceWithin}
use Rattle.ch_query.specs.SearchSpace.{IsRankedSpace}

-- x is the sum of the weights of one node in two lists by rank
abbrev pub IsSharedSum : List (ℕ × ℕ) → List (ℕ × ℕ) → ℕ → Type 0
IsSharedSum ups downs x = (v a b : ℕ) × Contains ups (v, a) × Contains downs (v, b) × (a + b ≡ x)

-- the least of these sums that is within the limit, or none if no sum is
abbrev pub IsLeastSharedSum : Option ℕ → List (ℕ × ℕ) → List (ℕ × ℕ) → Option ℕ → Type 0
IsLeastSharedSum limit ups downs answer = MatchOption answer ((x : ℕ) → IsSharedSum ups downs x → IsWithin limit x → ⊥)
    (λ x. IsSharedSum ups downs x × IsWithin limit x × ((y : ℕ) → IsSharedSum ups downs y → IsWithin limit y → x ≤ y))

-- in a kept hierarchy, take search spaces up from s and down to t within one limit: their least shared sum within the
-- limit is the distance within it
abbrev pub SearchSpacesGiveDistances : Type 0
SearchSpacesGiveDistances = (H : LevelsAndLegs) (limit : Option ℕ) (s t : ℕ) (ups downs : List (ℕ × ℕ)) (answer : Option ℕ) →
    IsKeptForSome H →
    IsRankedSpace H Up limit s ups → IsRankedSpace H Down limit t downs → IsLeastSharedSum limit ups downs answer →
    IsDistanceWithin H limit s t answer
