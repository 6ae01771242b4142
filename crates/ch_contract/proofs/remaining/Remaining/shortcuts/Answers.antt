-- The list of a node's shortcuts among the legs that touch it is the list of its shortcuts among all legs.
use Rattle.std.proofs.Common.{arith, subst}
use Rattle.ch_contract.specs.Contraction.{AreShortcuts}
use Rattle.ch_contract.specs.Remaining.{legs_of}
use Rattle.ch_contract.proofs.code.LightLegs.{within_light}
use Rattle.ch_contract.proofs.code.Touching.{are_touching, own_shortcuts}
use Rattle.ch_contract.proofs.remaining.Remaining.shortcuts.Goals as goal

pub invariant_of-judging : goal.invariant_of-judging
invariant_of-judging c =
    let limits = c.nodes.ensures.limits in
    let light = within_light _ _ limits in
    record {
      within = limits;
      light = light;
      touches = are_touching (legs_of c.args.self.now) _ _ _ c.touching-touching.ensures.up c.touching-touching.ensures.down _ _
          limits light;
    }

pub returns : goal.returns
returns c =
    let t = c.touching-touching in
    subst (λ v. AreShortcuts c.args.self.now.nodes c.args.hops.number (legs_of c.args.self.now) v c.fill.new.list.items) t.ensures.node
    (own_shortcuts (legs_of c.args.self.now) t.result.node t.result.up.now t.result.down.now t.ensures.up t.ensures.down _ _ _
    (c.in_ok-fill.ensures.list.0 (omega (arith, c.fill.new.list.ok))))
