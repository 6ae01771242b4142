-- A fault is that of the file's bytes, a refused node is out of range in its graph, and any other answer is the distance.
use Rattle.std.proofs.Common.{◌≡◌, ◌≤◌, ◌⊎◌, inl, inr, refl, subst, arith}
use Rattle.ch_read.specs.declared.fault.ReadFault.{ReadFault}
use Rattle.ch_read.specs.declared.form.Form.TheVariants.{Graph}
use Rattle.ch_read.specs.Checks.{IsFault}
use Rattle.ch_run_checks.proofs.calling.distance_in.Goals as goal
use Rattle.ch_run_checks.proofs.calling.distance_in.Goals.{then-from-nodes-via-then-from-nodes}
use Rattle.ch_run_checks.proofs.calling.distance_in.Goals.{then-from-nodes-via-else-from-nodes+then-to-nodes}

pub returns-in-Err-Fault-clause-file : goal.returns-in-Err-Fault-clause-file
returns-in-Err-Fault-clause-file g c fault same =
    let is : c.in-Err-Fault.fault ≡ fault = cc in
    let read = (c.in-Err-Fault.ensures.fault c.in-Err-Fault.fault).0 (let field = c.in-Err-Fault.fault-is in cc) in
    subst (λ (f : ReadFault). IsFault Graph c.args.file.now f.line f.kind) is read

pub returns-then-from-nodes-clause-node : goal.returns-then-from-nodes-clause-node
returns-then-from-nodes-clause-node g c same =
    let far : (c.in-Ok.graph.nodes ≤ c.args.from) ⊎ (c.in-Ok.graph.nodes ≤ c.args.to) = elim c.then-from-nodes.branch [
      | then-from-nodes-via-then-from-nodes w ↦ inl (let nodes = c.nodes.ensures.nodes in let past = w.if-from-nodes.true in omega arith)
      | then-from-nodes-via-else-from-nodes+then-to-nodes w ↦
          inr (let nodes = w.nodes-else-from-nodes.ensures.nodes in let past = w.if-to-nodes.true in omega arith)
    ] in
    (c.in-Ok.graph, (c.in-Ok.ensures.value c.in-Ok.graph).0 refl, far)

pub returns-clause-answer : goal.returns-clause-answer
returns-clause-answer g c = (
  c.in-Ok.graph,
  (c.in-Ok.ensures.value c.in-Ok.graph).0 refl,
  c.distance.ensures.distance c.in-Ok.graph c.build.ensures.limits c.in-Ok-build.ensures.kept,
)
