-- Targets that are kept for one caller.
use Rattle.std.specs.Prelude.{◌≡◌, ℕ, List, length, MatchOption, ⊤}
use Rattle.ch_hierarchy.specs.Hierarchy.{LevelsAndLegs, nodes_of}
use Rattle.ch_query.specs.Limits.{IsWithin}
use Rattle.ch_rows.specs.declared.kept.KeptTargets.{KeptTargets}
use Rattle.ch_rows.specs.Cells.{AreCells}
use Rattle.ch_hierarchy.specs.Direction.{facing}
use Rattle.ch_rows.specs.Near.{IsNearRow}
use Rattle.ch_rows.specs.Offers.{AreUnoffered}
use Rattle.ch_rows.specs.Searched.{Asked, AreSearched, asked_of, wanted_in}
use Rattle.ch_rows.specs.Sweep.{AreRowsTo}

-- what is asked of kept targets
abbrev pub asked_by : KeptTargets → Asked
asked_by kept = asked_of kept.searched

-- the targets were searched from in this hierarchy; the room serves a search for them; the rows are those of all nodes
pub record AreKeptIn (H : LevelsAndLegs) (kept : KeptTargets) : Type 0 where
  pub searched : AreSearched H kept.searched
  pub room : MatchOption kept.room ⊤ (λ room. (room.scratch ≡ nodes_of H) × AreUnoffered (length kept.searched.targets.items) room.offers)
  pub rows : MatchOption kept.rows ⊤ (AreRowsTo (wanted_in H (asked_of kept.searched)) (nodes_of H))

-- the row of a source, in this hierarchy
abbrev pub IsRowOf : LevelsAndLegs → Asked → ℕ → List (ℕ × ℕ) → Type 0
IsRowOf H asked s row = IsNearRow (facing asked.direction H) asked.limit asked.count asked.targets s row

-- no row leaves a target out because of their number
abbrev pub IsWhole : Asked → Type 0
IsWhole asked = IsWithin asked.count (length asked.targets)

-- the cells of a source, in this hierarchy
abbrev pub AreCellsOf : LevelsAndLegs → Asked → ℕ → List ℕ → Type 0
AreCellsOf H asked s words = AreCells (wanted_in H asked) s words
