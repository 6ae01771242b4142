-- The text of tables, by a hierarchy.
use Rattle.std.specs.Prelude.{ℕ, List, Option}
use Rattle.ch_hierarchy.specs.Hierarchy.{LevelsAndLegs}
use Rattle.ch_rows.specs.Table.{IsRowBy}
use Rattle.ch_text.specs.RowTexts.{HasRows}
use Rattle.ch_text.specs.TableText.{row_text}

-- the text has a row for each source, in order, with the distances by the hierarchy
abbrev pub IsTableTextBy : LevelsAndLegs → Option ℕ → List ℕ → List ℕ → List ℕ → Type 0
IsTableTextBy H limit sources targets text = HasRows (IsRowBy H limit targets) row_text sources text
