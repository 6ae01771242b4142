-- The nodes from the last on have their part.
use Rattle.std.proofs.Common.{◌≡◌, ◌-◌, length}
use Rattle.ch_custom.specs.Parts.{ArePartsFrom}
use Rattle.ch_custom.proofs.parts.parts_of.Given as goal

abbrev pub invariant-loop-step : goal.invariant-loop-step
invariant-loop-step l = ArePartsFrom l.order l.rows l.rest (length l.order - l.step) l.parts.items × (length l.loads.items ≡ l.rest)
