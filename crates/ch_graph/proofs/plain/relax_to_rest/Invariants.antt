-- What the labels know is true after each round, and each round that changes a label lowers their total, so the rounds end.
use Rattle.std.proofs.Common.{ℕ}
use Rattle.ch_graph.specs.Relaxing.{IsPartial, total}
use Rattle.ch_graph.proofs.plain.relax_to_rest.Given as goal

abbrev pub invariant-loop : goal.invariant-loop
invariant-loop l = (s : ℕ) → IsPartial l.graph s l.initial.best → IsPartial l.graph s l.best

abbrev pub decreases-loop : goal.decreases-loop
decreases-loop l = total l.best
