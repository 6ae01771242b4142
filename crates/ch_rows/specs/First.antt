-- The first of pairs of a weight and a place, in order of weight and then of place.
use Rattle.std.specs.Prelude.{◌≡◌, ℕ, ◌<◌, ◌⊎◌, List, length, take, Option, Some, None, All, AllPairs, Contains}
use Rattle.std.specs.List.Sorted.{IsPermutation, IsSorted}
use Rattle.std.specs.Ordering.{nat_cmp, ordering_then}
use Rattle.ch_query.specs.Limits.{IsWithin}

-- a weighs less than b, or weighs the same and has the lesser place
abbrev pub IsNearer : ℕ × ℕ → ℕ × ℕ → Type 0
IsNearer a b = (a.0 < b.0) ⊎ ((a.0 ≡ b.0) × (a.1 < b.1))

-- the list has as many pairs as are asked for, and each comes before e
abbrev pub AreFullOfNearer : Option ℕ → List (ℕ × ℕ) → ℕ × ℕ → Type 0
AreFullOfNearer count list e = (count ≡ Some (length list)) × All (λ f. IsNearer f e) list

-- the list has the first of all pairs with P, in order: as many as are asked for, or all if no number is asked for
pub record AreFirst (count : Option ℕ) (P : ℕ × ℕ → Type 0) (list : List (ℕ × ℕ)) : Type 0 where
  pub order : AllPairs IsNearer list
  pub few : IsWithin count (length list)
  pub sound : (e : ℕ × ℕ) → Contains list e → P e
  pub whole : (e : ℕ × ℕ) → P e → Contains list e ⊎ AreFullOfNearer count list e

-- the first of a list: `k` of them, or all
abbrev pub cut_of : Option ℕ → List (ℕ × ℕ) → List (ℕ × ℕ)
cut_of None list = list
cut_of (Some k) list = take k list

-- the list is in std's order of pairs
abbrev pub IsInOrder : List (ℕ × ℕ) → Type 0
IsInOrder list = IsSorted (λ a b. ordering_then (nat_cmp a.0 b.0) (nat_cmp a.1 b.1)) list

-- the list is put in order, and all after the number that is asked for are left out
pub record IsSortedAndCut (count : Option ℕ) (list result : List (ℕ × ℕ)) : Type 0 where
  pub sorted : List (ℕ × ℕ)
  pub permutation : IsPermutation list sorted
  pub order : IsInOrder sorted
  pub cut : result ≡ cut_of count sorted
