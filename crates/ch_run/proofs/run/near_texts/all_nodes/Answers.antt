-- One more node is listed.
use Rattle.std.proofs.Common.{◌≡◌, ◌++◌, ◌∷◌, [], List, ℕ, sym, ap, ◌∙◌, arith}
use Rattle.std.proofs.lemmas.List.FromFn.{length-range_with_len}
use Rattle.ch_text.proofs.RowTexts.{next_node}
use Rattle.ch_run.proofs.run.near_texts.all_nodes.Goals as goal

pub loop-node-preserved : goal.loop-node-preserved
loop-node-preserved c =
    let node = c.loop-node.node in
    c.in_ok-push.ensures.items ∙ ap (λ (l : List ℕ). l ++ node ∷ []) c.loop-node.invariant ∙ sym (next_node node)

pub returns-clause-nodes : goal.returns-clause-nodes
returns-clause-nodes c =
    let ended : c.loop-node.node ≡ c.args.nodes = omega (arith, c.loop-node-test.false, c.loop-node.auto.node-end) in
    rw ended at c.loop-node.invariant

pub returns-clause-few : goal.returns-clause-few
returns-clause-few c =
    let ended : c.loop-node.node ≡ c.args.nodes = omega (arith, c.loop-node-test.false, c.loop-node.auto.node-end) in
    let long = length-range_with_len 0 c.args.nodes in
    rw (c.loop-node.invariant, ended, long) c.ranges.nodes.fits
