-- A bound on hops that is capped at the number of nodes finds the same witnesses.
use Rattle.ch_contract.specs.Remaining.{legs_of}
use Rattle.ch_contract.proofs.code.Candidates.{capped_witness}
use Rattle.ch_contract.proofs.remaining.Remaining.has_witness.Goals as goal

pub returns : goal.returns
returns c =
    let met = c.is_witnessed.ensures in
    let capped = capped_witness c.args.self.now.nodes (legs_of c.args.self.now) c.args.v c.args.u c.args.w c.args.hops.number c.args.cost
    c.min.result c.nodes-nodes.ensures.limits c.nodes-nodes.ensures.count c.args.hops.in_range.1 c.min.ensures in
    ((λ t. capped.0 (met.0 t)), λ w. met.1 (capped.1 w))
