-- The text has grown by the lines of the arcs before the current one.
use Rattle.std.proofs.Common.{◌≡◌, ◌++◌, take, flat_map}
use Rattle.ch_text.specs.Routes.{arc_text}
use Rattle.ch_text.proofs.text.push_arcs.Given as goal

abbrev pub invariant-loop-arc : goal.invariant-loop-arc
invariant-loop-arc l = l.text.items ≡ l.fn.text.items ++ flat_map arc_text (take l.arc-index l.arcs)
