-- The pairs are those of the lines before the current one, each with the end of its arc on this side.
use Rattle.std.proofs.Common.{◌≡◌, map}
use Rattle.std.specs.List.{range_with_len}
use Rattle.ch_graph.specs.Sorting.{with_key}
use Rattle.ch_engine.specs.Lines.{arc_on, near_end}
use Rattle.ch_engine.proofs.lines.lines_by_end.Given as goal

abbrev pub invariant-loop-line : goal.invariant-loop-line
invariant-loop-line l = l.pairs.items ≡ map (with_key (λ line. near_end l.side (arc_on l.arcs line))) (range_with_len 0 l.line)
