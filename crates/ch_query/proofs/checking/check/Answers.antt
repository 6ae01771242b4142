-- What is refused has this first fault, and what is accepted has none and names a hierarchy that is right for the graph.
use Rattle.ch_hierarchy.proofs.theory.SavedFaults.{checks_refused}
use Rattle.ch_query.proofs.faults.Checked.{accepted_by, checks_founded, kept_by}
use Rattle.ch_query.proofs.checking.check.Goals as goal

pub returns-in_err-hierarchy-clause-accepted : goal.returns-in_err-hierarchy-clause-accepted
returns-in_err-hierarchy-clause-accepted g c =
    accepted_by c.args.graph.now c.args.saved c.from_residual.result
    (checks_refused c.args.graph.now c.args.saved c.from_residual.result c.in_err-hierarchy.field-0.0 c.from_residual.ensures.1
    c.in_err-hierarchy.ensures.fault)

pub returns-in_err-hierarchy-clause-fault : goal.returns-in_err-hierarchy-clause-fault
returns-in_err-hierarchy-clause-fault g c =
    (checks_refused c.args.graph.now c.args.saved c.from_residual.result c.in_err-hierarchy.field-0.0 c.from_residual.ensures.1
    c.in_err-hierarchy.ensures.fault).1

pub returns-clause-accepted : goal.returns-clause-accepted
returns-clause-accepted g c =
    accepted_by c.args.graph.now c.args.saved c.covered.result
    (checks_founded c.args.graph.now c.args.saved c.in_ok-hierarchy.hierarchy c.covered.result c.in_ok-hierarchy.ensures.value
    c.covered.ensures.value c.covered.ensures.fault)

pub returns-clause-hierarchy : goal.returns-clause-hierarchy
returns-clause-hierarchy g c =
    kept_by c.args.graph.now c.args.saved c.covered.result
    (checks_founded c.args.graph.now c.args.saved c.in_ok-hierarchy.hierarchy c.covered.result c.in_ok-hierarchy.ensures.value
    c.covered.ensures.value c.covered.ensures.fault)

pub returns-clause-fault : goal.returns-clause-fault
returns-clause-fault g c =
    (checks_founded c.args.graph.now c.args.saved c.in_ok-hierarchy.hierarchy c.covered.result c.in_ok-hierarchy.ensures.value
    c.covered.ensures.value c.covered.ensures.fault).1
