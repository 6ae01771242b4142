-- At first no leg was taken, and at the end those of all entries.
use Rattle.std.proofs.Common.{◌≡◌, ℕ, length, refl, ◌∙◌, subst, arith}
use Rattle.ch_flows.specs.Trees.{AreSlots, step_at}
use Rattle.ch_flows.proofs.Trees.{slot_none}
use Rattle.ch_flows.proofs.tree.take_all.Goals as goal

pub loop-j-init : goal.loop-j-init
loop-j-init c = record {
  long = refl;
  slots = λ i low. slot_none c.args.side c.args.hierarchy.now c.args.layout.now.links.items c.args.entries.now 0 i
      (step_at c.args.steps.now i) (c.requires.none i low);
}

pub loop-j-preserved : goal.loop-j-preserved
loop-j-preserved c = record {
  long = c.take_legs.ensures.long ∙ c.loop-j.invariant.long;
  slots = c.take_legs.ensures.slots c.loop-j.invariant.slots;
}

pub returns-clause-slots : goal.returns-clause-slots
returns-clause-slots c =
    let end : c.loop-j.j ≡ length c.args.entries.now = omega (arith, c.loop-j-test.false, c.loop-j.auto.j-end) in
    subst (λ (n : ℕ). AreSlots c.args.side c.args.hierarchy.now c.args.layout.now.links.items c.args.entries.now n c.loop-j.steps) end
    c.loop-j.invariant.slots
