-- Each part has a row for each node, and the rows of all are right.
use Rattle.std.proofs.Common.{arith}
use Rattle.std.proofs.lemmas.Result.{IfOk-weaker}
use Rattle.ch_custom.proofs.theory.Parts.{part_rows, gathered_metrics}
use Rattle.ch_custom.proofs.division.Division.gathered.Goals as goal

pub gathered-requires-clause-rows : goal.gathered-requires-clause-rows
gathered-requires-clause-rows c v lt =
    let d = c.requires.division in
    let size = d.divided.size in
    let le = d.divided.within v (omega arith) in
    let count = c.requires.count in
    part_rows _ _ _ c.nodes-nodes.ensures.limits d.ready _ _ c.requires.metrics _ v (omega arith) (omega arith)

pub returns : goal.returns
returns c =
    let d = c.requires.division in
    IfOk-weaker c.gathered.result _ _ (λ m e. gathered_metrics _ _ _ c.nodes-nodes.ensures.limits d.ready _ _ c.requires.metrics _ d.divided
    c.requires.count m e) c.gathered.ensures
