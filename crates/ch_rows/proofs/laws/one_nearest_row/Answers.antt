-- A source has at most one row of the first targets.
use Rattle.ch_rows.specs.Near.{IsWalkTo}
use Rattle.ch_rows.proofs.OneFirst.{one_first}
use Rattle.ch_rows.proofs.laws.one_nearest_row.Goals as goal

pub returns : goal.returns
returns c g direction limit count targets s a b first second = one_first count (IsWalkTo g direction limit targets s) a b first second
