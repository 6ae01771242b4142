-- What the labels know is still true, and the arcs before the current one have had their part of the round.
use Rattle.std.proofs.Common.{ℕ, take}
use Rattle.ch_graph.specs.Relaxing.{IsPartial, IsRound}
use Rattle.ch_graph.proofs.plain.relax_all.Given as goal

abbrev pub invariant-loop-arc : goal.invariant-loop-arc
invariant-loop-arc l = record {
  known : (s : ℕ) → IsPartial l.graph s l.initial.best → IsPartial l.graph s l.best;
  round : IsRound l.changed l.initial.best l.best (take l.arc-index l.graph.arcs);
}
