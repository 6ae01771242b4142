-- There is one more empty row.
use Rattle.std.proofs.Common.{List, ℕ, Vec, Global}
use Rattle.ch_custom.proofs.theory.Growing.{replicate_more}
use Rattle.ch_custom.proofs.pairs.Pairs.empty.Goals as goal

-- the nodes of a row
abbrev items_of : Vec ℕ Global → List ℕ
items_of r = r.items

pub loop-node-preserved : goal.loop-node-preserved
loop-node-preserved c =
    replicate_more items_of c.loop-node.rows.items c.push.new.self.items c.loop-node._node c.new.result c.loop-node.invariant
    c.new.ensures.items c.in_ok-push.ensures.items
