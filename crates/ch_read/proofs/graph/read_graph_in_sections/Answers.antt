-- A file read in sections is a graph within the limits, and an error is the fault of its bytes.
use Rattle.std.proofs.Common.{sym, subst}
use Rattle.ch_graph.specs.Graph.{IsWithinLimits}
use Rattle.ch_read.specs.declared.form.Form.TheVariants.{Graph}
use Rattle.ch_read.proofs.Limits.{fault_both_ways, graph_within}
use Rattle.ch_read.proofs.graph.read_graph_in_sections.Goals as goal

pub returns-in_err-heading-clause-fault : goal.returns-in_err-heading-clause-fault
returns-in_err-heading-clause-fault g c = fault_both_ways Graph c.args.bytes.now c.from_residual.result c.in_err-heading.field-0.0
    c.from_residual.ensures.1 c.in_err-heading.ensures

pub from_judged-requires : goal.from_judged-requires
from_judged-requires g c =
    let within = graph_within c.args.bytes.now c.in_ok-heading.heading c.in_ok-heading.ensures.0 in
    subst (λ arcs. IsWithinLimits (record { nodes = c.in_ok-heading.heading.nodes; arcs = arcs })) (sym c.in_ok-heading.ensures.1) within
