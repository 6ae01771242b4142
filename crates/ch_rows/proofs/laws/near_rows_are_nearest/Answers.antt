-- A near row by a right hierarchy has the first targets by the least weights of walks and then by place.
use Rattle.ch_rows.proofs.GraphRows.{row_of_graph}
use Rattle.ch_rows.proofs.laws.near_rows_are_nearest.Goals as goal

pub returns : goal.returns
returns c g H direction limit count targets s row limits kept near = row_of_graph g H direction limit count targets s row limits kept near
