-- The text has grown by the lines of the nodes before the current one.
use Rattle.std.proofs.Common.{◌≡◌, ◌++◌, take, flat_map}
use Rattle.ch_text.specs.SaveText.{order_text}
use Rattle.ch_text.proofs.hierarchy_text.push_order.Given as goal

abbrev pub invariant-loop-node : goal.invariant-loop-node
invariant-loop-node l = l.text.items ≡ l.fn.text.items ++ flat_map order_text (take l.node-index l.order)
