-- The text that the options of a run ask for.
use Rattle.std.specs.Prelude.{ℕ, Bool, true, false, ◌&&◌, not, List}
use Rattle.ch_graph.specs.Graph.{Network}
use Rattle.ch_hierarchy.specs.Hierarchy.{LevelsAndLegs}
use Rattle.ch_contract.specs.Built.{IsHierarchyBy}
use Rattle.ch_contract.specs.declared.measure.OrderBy.{OrderBy}
use Rattle.ch_job.specs.declared.options.Options.{Options}
use Rattle.ch_text.specs.Distances.{IsDistanceText}
use Rattle.ch_run.specs.NearText.{IsNearText}
use Rattle.ch_text.specs.Routes.{IsRouteText}
use Rattle.ch_text.specs.SaveText.{IsHierarchyText}

-- routes are written if the options ask for them and a hierarchy is used
abbrev pub writes_routes : Options → Bool
writes_routes options = not options.plain && options.routes

-- the text of the distances, with the routes by one of these hierarchies if they are asked for
abbrev pub IsTextBy : Bool → Network → (LevelsAndLegs → Type 0) → List (ℕ × ℕ) → List ℕ → Type 0
IsTextBy false g From queries text = IsDistanceText g queries text
IsTextBy true g From queries text = IsRouteText g From queries text

-- the text of the near rows, with the direction, the limit and the count of the options
abbrev pub IsNearTextFor : Options → Network → List ℕ → List ℕ → List ℕ → Type 0
IsNearTextFor options g sources targets text = IsNearText g options.direction options.within options.count sources targets text

-- the text of one of these hierarchies
abbrev pub IsSaveTextOf : (LevelsAndLegs → Type 0) → List ℕ → Type 0
IsSaveTextOf From text = (H : LevelsAndLegs) × From H × IsHierarchyText H text

-- the text of the graph's contraction hierarchy in this order, with at most h legs in a witness
abbrev pub IsSaveText : OrderBy → Network → ℕ → List ℕ → Type 0
IsSaveText by g h text = IsSaveTextOf (IsHierarchyBy by g h) text
