-- The text of tables.
use Rattle.std.specs.Prelude.{ℕ, List, ◌++◌, flat_map, Option, codes}
use Rattle.std.specs.List.{AllZip}
use Rattle.ch_graph.specs.Graph.{Network}
use Rattle.ch_graph.specs.Walk.{IsAnswer}
use Rattle.ch_query.specs.Limits.{IsCut}
use Rattle.ch_text.specs.Distances.{node_text, weight_text}
use Rattle.ch_text.specs.RowTexts.{HasRows}

abbrev pub cell_text : Option ℕ → List ℕ
cell_text cell = codes " " ++ weight_text cell

-- a source and its cells
abbrev pub row_text : ℕ × List (Option ℕ) → List ℕ
row_text row = codes "t " ++ node_text row.0 ++ flat_map cell_text row.1 ++ codes "\n"

-- the distance from s to t if it is within the limit, and otherwise none
abbrev pub IsCell : Network → Option ℕ → ℕ → ℕ → Option ℕ → Type 0
IsCell g limit s t cell = (distance : Option ℕ) × IsAnswer g s t distance × IsCut limit distance cell

-- a cell for each target, in order
abbrev pub IsTableRow : Network → Option ℕ → List ℕ → ℕ → List (Option ℕ) → Type 0
IsTableRow g limit targets s cells = AllZip (IsCell g limit s) targets cells

-- the text has a row for each source, in order
abbrev pub IsTableText : Network → Option ℕ → List ℕ → List ℕ → List ℕ → Type 0
IsTableText g limit sources targets text = HasRows (IsTableRow g limit targets) row_text sources text
