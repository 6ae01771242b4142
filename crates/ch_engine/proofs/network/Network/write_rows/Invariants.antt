-- The rows before the current one have their weights and sums, and what is behind is as before.
use Rattle.std.proofs.Common.{◌≡◌, ◌*◌, length}
use Rattle.ch_engine.specs.Held.{only}
use Rattle.ch_engine.specs.NearRows.{StaysFrom}
use Rattle.ch_engine.specs.TableSums.{AreTableSums}
use Rattle.ch_engine.proofs.network.Network.write_rows.Given as goal

abbrev pub invariant-loop-i : goal.invariant-loop-i
invariant-loop-i l = record {
  scratch : l.scratch ≡ l.fn.scratch;
  at : l.first ≡ l.i * length l.table.targets.now;
  weighed : length l.weights ≡ length l.fn.weights;
  long : length l.sums ≡ length l.fn.sums;
  cells : AreTableSums (only l.self.0 l.self.1) l.table.kept.now.values.items l.table.sources.now l.table.targets.now l.weights l.sums
      l.first;
  behind : StaysFrom l.first l.fn.weights l.weights × StaysFrom l.first l.fn.sums l.sums;
}
