-- The nodes that are read are nodes of the graph, and an error is the fault of the bytes.
use Rattle.std.proofs.Common.{◌≡◌, ◌<◌, sym, subst}
use Rattle.std.specs.Prelude.{All}
use Rattle.ch_read.specs.declared.form.Form.TheVariants.{Nodes}
use Rattle.ch_read.proofs.Limits.{fault_both_ways, error_of_items, nodes_within}
use Rattle.ch_read.proofs.nodes.read_nodes.Goals as goal

pub returns-in_err-nodes-clause-fault : goal.returns-in_err-nodes-clause-fault
returns-in_err-nodes-clause-fault c =
    fault_both_ways (Nodes c.args.n) c.args.bytes.now _ c.in_err-nodes.field-0.0
    (error_of_items (λ e. e ≡ c.in_err-nodes.field-0.0) c.from_residual.result c.from_residual.ensures.1) c.in_err-nodes.ensures

pub returns-clause-range : goal.returns-clause-range
returns-clause-range c =
    subst (All (λ x. x < c.args.n)) (sym c.in_ok-nodes.ensures.1)
    (nodes_within c.args.n c.args.bytes.now c.in_ok-nodes.field-0-0 c.in_ok-nodes.ensures.0)
