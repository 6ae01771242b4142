-- Tables of distances.
use Rattle.std.specs.Prelude.{◌≡◌, ℕ, ◌+◌, ◌*◌, List, Option, map, slice_range}
use Rattle.std.specs.List.{AllZip, flat_map, range_with_len}
use Rattle.ch_hierarchy.specs.Hierarchy.{LevelsAndLegs}
use Rattle.ch_query.specs.Limits.{IsDistanceWithin}

-- a cell for each target, in order: the distance if it is within the limit, and otherwise none
abbrev pub IsRowBy : LevelsAndLegs → Option ℕ → List ℕ → ℕ → List (Option ℕ) → Type 0
IsRowBy H limit targets s cells = AllZip (IsDistanceWithin H limit s) targets cells

-- rows of `columns` cells each, one after another
abbrev pub rows_of_cells : ℕ → ℕ → List (Option ℕ) → List (List (Option ℕ))
rows_of_cells rows columns cells = map (λ i. slice_range cells (i * columns) (i * columns + columns)) (range_with_len 0 rows)

-- x is gathered from the rows of these sources, and M is the meaning of such a value
abbrev pub IsGathered : {X : Type 0} → (List ℕ → List (List (Option ℕ)) → X → Type 0) → LevelsAndLegs → Option ℕ → List ℕ → List ℕ → X →
    Type 0
IsGathered M H limit targets sources x = (rows : List (List (Option ℕ))) × AllZip (IsRowBy H limit targets) sources rows × M sources rows x

-- the sources are cut into parts, and each value is gathered from the rows of its part, in order
abbrev pub AreGathered : {X : Type 0} → (List ℕ → List (List (Option ℕ)) → X → Type 0) → LevelsAndLegs → Option ℕ → List ℕ → List ℕ →
    List X → Type 0
AreGathered M H limit targets sources values =
    (parts : List (List ℕ)) × (flat_map (λ part. part) parts ≡ sources) × AllZip (IsGathered M H limit targets) parts values
