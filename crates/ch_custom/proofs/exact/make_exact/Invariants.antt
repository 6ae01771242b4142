-- The legs of the last nodes of the order are exact.
use Rattle.std.proofs.Common.{◌-◌, length}
use Rattle.ch_custom.specs.Exact.{AreExactFrom}
use Rattle.ch_custom.proofs.exact.make_exact.Given as goal

abbrev pub invariant-loop-step : goal.invariant-loop-step
invariant-loop-step l = AreExactFrom l.graph l.order l.rows (length l.order - l.step) l.metric
