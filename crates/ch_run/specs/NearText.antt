-- The text of near rows.
use Rattle.std.specs.Prelude.{ℕ, List, Option}
use Rattle.ch_graph.specs.Graph.{Network}
use Rattle.ch_hierarchy.specs.declared.direction.Direction.{Direction}
use Rattle.ch_rows.specs.Near.{IsNearestRow}
use Rattle.ch_text.specs.NearText.{near_row_text}
use Rattle.ch_text.specs.RowTexts.{HasRows}

-- the text has a line for each source, in order: the targets that are nearest to it in the graph
abbrev pub IsNearText : Network → Direction → Option ℕ → Option ℕ → List ℕ → List ℕ → List ℕ → Type 0
IsNearText g direction limit count sources targets text =
    HasRows (IsNearestRow g direction limit count targets) (near_row_text targets) sources text
