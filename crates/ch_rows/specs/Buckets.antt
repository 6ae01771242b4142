-- Buckets: the paths of the nodes of a list that reach each node.
use Rattle.std.specs.Prelude.{◌≡◌, ◌≢◌, ℕ, ◌<◌, ◌≤◌, List, [], length, map, slice_index, slice_index_or, All, AllPairs, Contains, Option}
use Rattle.std.specs.List.{AllZip}
use Rattle.ch_graph.specs.declared.cost.Cost.{Cost}
use Rattle.ch_graph.specs.declared.limits.TheConstants.{MOST_LISTED, MOST_WEIGHT}
use Rattle.ch_hierarchy.specs.declared.leg.Leg.{Leg}
use Rattle.ch_hierarchy.specs.Hierarchy.{LevelsAndLegs, nodes_of}
use Rattle.ch_hierarchy.specs.Paths.{IsLeastUpwardPath}
use Rattle.ch_hierarchy.specs.declared.side.Side.{Side}
use Rattle.ch_hierarchy.specs.declared.side.Side.TheVariants.{Down}
use Rattle.ch_query.specs.Distance.{IsKeptForSome}
use Rattle.ch_query.specs.Limits.{IsWithin}
use Rattle.ch_query.specs.SearchSpace.{IsRankedSpace}
use Rattle.ch_rows.specs.First.{IsNearer, AreFirst, IsSortedAndCut}

-- an entry for each place whose node has an upward path to v of a weight within the limit: the place and the least
-- weight, in order of place
pub record IsBucket (rows : List (List Leg)) (limit : Option ℕ) (nodes : List ℕ) (v : ℕ) (bucket : List (ℕ × ℕ)) : Type 0 where
  pub order : AllPairs (λ a b. a.0 < b.0) bucket
  pub sound : (j x : ℕ) → Contains bucket (j, x) →
      (j < length nodes) × (c : Cost) × IsLeastUpwardPath rows (slice_index nodes j) v c × (c.weight ≡ x) × IsWithin limit x
  pub whole : (j : ℕ) (c : Cost) → j < length nodes → IsLeastUpwardPath rows (slice_index nodes j) v c → IsWithin limit c.weight →
      Contains bucket (j, c.weight)

-- there is a bucket for each node
pub record AreBuckets (rows : List (List Leg)) (limit : Option ℕ) (nodes : List ℕ) (buckets : List (List (ℕ × ℕ))) : Type 0 where
  pub count : length buckets ≡ length rows
  pub each : (v : ℕ) → IsBucket rows limit nodes v (slice_index_or buckets v [])

-- the nodes that s reaches upward at a weight within the limit, each once, with the least weights
pub record IsReach (rows : List (List Leg)) (limit : Option ℕ) (s : ℕ) (list : List (ℕ × ℕ)) : Type 0 where
  pub apart : AllPairs (λ a b. a.0 ≢ b.0) list
  pub sound : (v x : ℕ) → Contains list (v, x) → (c : Cost) × IsLeastUpwardPath rows s v c × (c.weight ≡ x) × IsWithin limit x
  pub whole : (v : ℕ) (c : Cost) → IsLeastUpwardPath rows s v c → IsWithin limit c.weight → Contains list (v, c.weight)

-- no rank occurs twice
abbrev pub AreRanksApart : List (ℕ × ℕ) → Type 0
AreRanksApart list = AllPairs (λ a b. a.0 ≢ b.0) list

-- there is a bucket for each of n items; that of q has (j, x) exactly if list j has (r, x) for a rank r whose item is
-- q
pub record HoldLists (n : ℕ) (item : ℕ → ℕ) (lists : List (List (ℕ × ℕ))) (buckets : List (List (ℕ × ℕ))) : Type 0 where
  pub count : length buckets ≡ n
  pub sound : (q j x : ℕ) → Contains (slice_index_or buckets q []) (j, x) →
      (j < length lists) × (r : ℕ) × Contains (slice_index_or lists j []) (r, x) × (item r ≡ q)
  pub whole : (r j x : ℕ) → j < length lists → Contains (slice_index_or lists j []) (r, x) →
      Contains (slice_index_or buckets (item r) []) (j, x)

-- a place and a weight, as the weight and the place
abbrev pub turned : ℕ × ℕ → ℕ × ℕ
turned e = (e.1, e.0)

-- list e.1 has the weight e.0 at this rank
abbrev pub IsEntryAt : List (List (ℕ × ℕ)) → ℕ → ℕ × ℕ → Type 0
IsEntryAt lists rank e = (e.1 < length lists) × Contains (slice_index_or lists e.1 []) (rank, e.0)

-- each row of places and weights is put in order of weight and place, and cut
pub record AreSortedAndCut (count : Option ℕ) (rows firsts : List (List (ℕ × ℕ))) : Type 0 where
  pub size : length firsts ≡ length rows
  pub each : (i : ℕ) → i < length rows → IsSortedAndCut count (map turned (slice_index_or rows i [])) (slice_index_or firsts i [])

-- there is a bucket for each of n ranks: the first of the entries of all lists at that rank
pub record HoldFirst (n : ℕ) (count : Option ℕ) (lists : List (List (ℕ × ℕ))) (buckets : List (List (ℕ × ℕ))) : Type 0 where
  pub size : length buckets ≡ n
  pub each : (rank : ℕ) → rank < n → AreFirst count (IsEntryAt lists rank) (slice_index_or buckets rank [])

-- the hierarchy is right for some graph, and what is held is a search space within the limit of each of the nodes, by
-- ranks
pub record HoldSpaces (H : LevelsAndLegs) (side : Side) (limit : Option ℕ) (nodes : List ℕ) (Held : List (List (ℕ × ℕ)) → Type 0) :
    Type 0 where
  pub kept : IsKeptForSome H
  pub few : length nodes ≤ MOST_LISTED
  pub spaces : List (List (ℕ × ℕ))
  pub each : AllZip (IsRankedSpace H side limit) nodes spaces
  pub held : Held spaces

-- the buckets hold these spaces, with each entry at its rank's item
abbrev pub HoldSearchSpaces : LevelsAndLegs → Side → Option ℕ → (ℕ → ℕ) → List ℕ → List (List (ℕ × ℕ)) → Type 0
HoldSearchSpaces H side limit item nodes buckets = HoldSpaces H side limit nodes (λ spaces. HoldLists (nodes_of H) item spaces buckets)

-- the buckets hold the spaces down to the targets, each entry at its rank
abbrev pub HoldTargets : LevelsAndLegs → Option ℕ → List ℕ → List (List (ℕ × ℕ)) → Type 0
HoldTargets H limit targets buckets = HoldSearchSpaces H Down limit (λ rank. rank) targets buckets

-- the buckets hold the spaces down to the targets, and at each rank only the first entries
abbrev pub HoldNearest : LevelsAndLegs → Option ℕ → Option ℕ → List ℕ → List (List (ℕ × ℕ)) → Type 0
HoldNearest H limit count targets buckets = HoldSpaces H Down limit targets (λ spaces. HoldFirst (nodes_of H) count spaces buckets)

-- the entry has a place below `places` and the weight of a path
abbrev pub IsEntryAmong : ℕ → ℕ × ℕ → Type 0
IsEntryAmong places entry = (entry.0 < places) × (entry.1 ≤ MOST_WEIGHT)

-- the entries are in order, with weights of paths and places below `places`
pub record IsBucketAmong (places : ℕ) (bucket : List (ℕ × ℕ)) : Type 0 where
  pub order : AllPairs IsNearer bucket
  pub entries : All (λ e. (e.0 ≤ MOST_WEIGHT) × (e.1 < places)) bucket
