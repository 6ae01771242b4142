-- The text of near rows by a hierarchy, which parts of a run over near rows promise.
use Rattle.std.specs.Prelude.{ℕ, List}
use Rattle.ch_rows.specs.Near.{IsWantedRow, Wanted}
use Rattle.ch_text.specs.NearText.{near_row_text}
use Rattle.ch_text.specs.RowTexts.{HasRows}

-- the text has a line for each source, in order: its near row in the hierarchy, as it is wanted
abbrev pub HasNearRows : Wanted → List ℕ → List ℕ → Type 0
HasNearRows wanted sources text = HasRows (IsWantedRow wanted) (near_row_text wanted.targets) sources text
