-- The sources before the current one have paid what they owe at the node.
use Rattle.std.proofs.Common.{[], take}
use Rattle.std.specs.Prelude.{slice_index_or}
use Rattle.ch_rows.specs.Owed.{IsOwedBy}
use Rattle.ch_work.specs.Owed.{HasPaid}
use Rattle.ch_work.specs.Passes.{view_of, IsPassOf}
use Rattle.ch_rows.proofs.owed.Sums.pay_item.Given as goal

abbrev pub invariant-loop-source : goal.invariant-loop-source
invariant-loop-source l =
    IsPassOf l.board l.pass
    × HasPaid (IsOwedBy l.self.limit l.self.columns (take l.source-index (slice_index_or l.self.ups l.item []))
    (slice_index_or l.self.downs l.item [])) (view_of l.fn.pass) (view_of l.pass)
