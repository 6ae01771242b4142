-- What a line completes, and what it leaves incomplete, has nodes of the graph and weights within the limits.
use Rattle.ch_read.proofs.Requests.{node_added, settled_within, weight_added}
use Rattle.ch_read.proofs.request_line.read_line.Goals as goal
use Rattle.ch_read.proofs.request_line.read_line.Goals.{then-is_letter-6+in_ok-begin_table}
use Rattle.ch_read.proofs.request_line.read_line.Goals.{else-is_letter-6+then-is_letter-7+in_ok-begin_places}
use Rattle.ch_read.proofs.request_line.read_line.Goals.{else-is_letter-6+else-is_letter-7+then-is_letter-8+in_ok-node+in_ok-push}

pub returns-then-is_letter-4-clause-within : goal.returns-then-is_letter-4-clause-within
returns-then-is_letter-4-clause-within c =
    settled_within c.args.nodes c.begin_weights.new.begun _ _ (c.in_ok-begin_weights.ensures.within c.args.nodes) c.settle.ensures

pub returns-then-is_letter-5-clause-within : goal.returns-then-is_letter-5-clause-within
returns-then-is_letter-5-clause-within c =
    settled_within c.args.nodes c.push_weight.new.self _ _ (rw c.in_ok-push_weight.ensures.pushed
    (weight_added c.args.nodes c.args.begun.now c.in_ok-weight.weight c.requires c.in_ok-weight.ensures.within.0
    c.in_ok-weight.ensures.within.1)) c.settle-then-is_letter-5.ensures

pub returns-clause-within : goal.returns-clause-within
returns-clause-within c =
    settled_within c.args.nodes c.if-is_letter-6.begun _ _ (elim c.if-is_letter-6.branch [
      | then-is_letter-6+in_ok-begin_table w ↦ rw (w.begun-is) (w.in_ok-begin_table.ensures.within c.args.nodes)
      | else-is_letter-6+then-is_letter-7+in_ok-begin_places w ↦ rw (w.begun-is) (w.in_ok-begin_places.ensures.within c.args.nodes)
      | else-is_letter-6+else-is_letter-7+then-is_letter-8+in_ok-node+in_ok-push w ↦
          rw (w.begun-is, w.in_ok-push.ensures.pushed) (node_added c.args.nodes c.args.begun.now w.in_ok-node.node c.requires
          w.in_ok-node.ensures.within.0 w.in_ok-node.ensures.within.1)
    ]) c.settle-2.ensures
