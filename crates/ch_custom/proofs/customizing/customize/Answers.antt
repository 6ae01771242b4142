-- The order of the topology is the one that was lent.
use Rattle.std.proofs.Common.{subst}
use Rattle.std.specs.Prelude.{IfOk}
use Rattle.ch_contract.specs.Built.{IsHierarchyIn}
use Rattle.ch_custom.specs.Customizing.{Lowers}
use Rattle.ch_custom.specs.Topologies.{legs_after}
use Rattle.ch_custom.proofs.customizing.customize.Goals as goal

pub returns-clause-hierarchy : goal.returns-clause-hierarchy
returns-clause-hierarchy c =
    subst (λ o. IfOk c.customize_over.result
    (λ h. IsHierarchyIn (Lowers c.args.graph.now.nodes) c.args.graph.now h o (legs_after c.args.graph.now o))) c.order.ensures.order
    c.customize_over.ensures.hierarchy
