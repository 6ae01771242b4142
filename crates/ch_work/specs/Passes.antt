-- Boards and passes, in words.
use Rattle.std.specs.Prelude.{◌≡◌, true}
use Rattle.ch_work.specs.declared.board.known.Known.{Known}
use Rattle.ch_work.specs.declared.board.known.Size.{Size}
use Rattle.ch_work.specs.declared.board.Board.{Board}
use Rattle.ch_work.specs.declared.board.Pass.{Pass}

-- what a pass has done and seen
abbrev pub view_of : Pass → Known
view_of pass = pass.seat.me.0

-- the numbers that a board was made for
abbrev pub size_of : Board → Size
size_of board = board.table.shared.key

-- the pass is one of this board
abbrev pub IsPassOf : Board → Pass → Type 0
IsPassOf board pass = pass.seat.table_id ≡ board.table.shared.table_id

-- the pass has learned that no number is left
abbrev pub HasEnded : Pass → Type 0
HasEnded pass = pass.ended ≡ true
