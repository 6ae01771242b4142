-- Weights that are offered to places, and the least weight of each place.
use Rattle.std.specs.Prelude.{◌≡◌, ◌≢◌, ℕ, ◌<◌, List, length, slice_index, AllPairs, Contains}
use Rattle.ch_query.specs.Lowered.{AreLowered}
use Rattle.ch_rows.specs.declared.offers.TheConstants.{UNOFFERED}

-- the places are those with an offer, each once
pub record AreListed (least places : List ℕ) : Type 0 where
  pub distinct : AllPairs ◌≢◌ places
  pub sound : (j : ℕ) → Contains places j → (j < length least) × (slice_index least j ≢ UNOFFERED)
  pub whole : (j : ℕ) → j < length least → slice_index least j ≢ UNOFFERED → Contains places j

-- none of n places has an offer
pub record AreUnoffered (n : ℕ) (least : List ℕ) : Type 0 where
  pub size : length least ≡ n
  pub each : (j : ℕ) → j < n → slice_index least j ≡ UNOFFERED

-- after these offers, each place has the least of its old weight and the weights offered to it
abbrev pub AreOffered : (ℕ × ℕ → Type 0) → List ℕ → List ℕ → Type 0
AreOffered Offer = AreLowered (λ j x. Offer (x, j))

-- the row has the weight of each place with an offer, once
pub record AreTaken (least : List ℕ) (row : List (ℕ × ℕ)) : Type 0 where
  pub apart : AllPairs (λ a b. a.1 ≢ b.1) row
  pub sound : (e : ℕ × ℕ) → Contains row e → (e.1 < length least) × (slice_index least e.1 ≡ e.0) × (e.0 ≢ UNOFFERED)
  pub whole : (j : ℕ) → j < length least → slice_index least j ≢ UNOFFERED → Contains row (slice_index least j, j)
