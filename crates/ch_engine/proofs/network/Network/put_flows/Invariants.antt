-- The arcs before the current leg have their flows on their lines.
use Rattle.std.proofs.Common.{◌≡◌, length}
use Rattle.ch_engine.specs.Flows.{ArePut}
use Rattle.ch_engine.proofs.network.Network.put_flows.Given as goal

abbrev pub invariant-loop-place : goal.invariant-loop-place
invariant-loop-place l = record {
  long : length l.out ≡ length l.fn.out;
  put : ArePut l.self.0 l.self.1 l.plan l.legs l.place l.out;
}
