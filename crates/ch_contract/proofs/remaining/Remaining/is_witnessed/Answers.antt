-- A search that meets the last legs of a chain within the cost finds a witness, and each witness is met so.
use Rattle.std.proofs.Common.{◌≡◌, ◌≤◌, ◌-◌, sym, subst, arith, ap, ◌∙◌}
use Rattle.std.specs.Prelude.{IsTrue, ◌↔◌}
use Rattle.std.proofs.lemmas.List.{length-map}
use Rattle.ch_graph.specs.declared.limits.TheConstants.{MOST_HOPS}
use Rattle.ch_contract.specs.Legs.{HasWitness}
use Rattle.ch_contract.specs.KnownCosts.{AreLeastCosts, AreLegsUpTo, known_at, known_of}
use Rattle.ch_contract.specs.Meeting.{AreListsWithin}
use Rattle.ch_contract.specs.Candidates.{IsKnown, known_legs}
use Rattle.ch_graph.specs.Cost.{IsAtMost}
use Rattle.ch_contract.specs.Remaining.{RemainingLegs, legs_of}
use Rattle.ch_contract.specs.LegLists.{legs_from, legs_into}
use Rattle.ch_contract.proofs.code.Candidates.{ins_light, known_small, known_witness, met_witness, two_less}
use Rattle.ch_contract.proofs.remaining.Remaining.is_witnessed.Goals as goal

pub meets-requires : goal.meets-requires
unfolding legs_of
meets-requires g c =
    let n = c.self.inside.nodes in
    let outs = c.self.inside.outs.rows in
    let ins = c.self.inside.ins.rows in
    let nodes = ap (λ (m : RemainingLegs). m.nodes) c.self.view_is in
    let known = subst (λ (m : RemainingLegs). IsKnown m c.args.wanted c.args.hops.number
    (known_of g.K.HeldCost.cost c.args.search.now.known)) (sym c.self.view_is) c.requires.known in
    let count = c.self.invariant.0.sizes.1 in
    let few : c.args.hops.number - 2 ≤ MOST_HOPS = omega (arith, c.args.hops.in_range) in
    let light = subst (λ (m : RemainingLegs). AreLegsUpTo g.K.HeldCost.limit (legs_of m)) (sym c.self.view_is) c.requires.light in
    record {
      start = omega (arith, c.requires.node);
      size = sym (length-map c.args.search.now.known.costs.items g.K.HeldCost.cost) ∙ known.size ∙ sym count;
      limits = subst (λ n. AreListsWithin g.K.HeldCost.limit n ins) (sym count)
          (ins_light n outs ins c.self.invariant.0 g.K.HeldCost.limit light);
      small = known_small n outs ins c.self.invariant.0 g.K.HeldCost.limit c.args.wanted (c.args.hops.number - 2)
          (known_of g.K.HeldCost.cost c.args.search.now.known) few (omega (arith, c.requires.end)) c.requires.most
          (subst (λ k. AreLeastCosts (legs_into outs) c.args.wanted k (known_of g.K.HeldCost.cost c.args.search.now.known))
          (two_less c.args.hops.number c.if-hops-eq1.false) known.least);
      most = c.requires.cost.0;
    }

pub returns : goal.returns
unfolding legs_of
returns g c =
    let n = c.self.inside.nodes in
    let outs = c.self.inside.outs.rows in
    let ins = c.self.inside.ins.rows in
    let known = subst (λ (m : RemainingLegs). IsKnown m c.args.wanted c.args.hops.number
    (known_of g.K.HeldCost.cost c.args.search.now.known)) (sym c.self.view_is) c.requires.known in
    let held = c.requires.cost.0 in
    let met = met_witness n outs ins c.self.invariant.0 c.args.wanted c.args.hops.number
    (known_of g.K.HeldCost.cost c.args.search.now.known) c.args.w c.args.cost
    (subst (λ k. AreLeastCosts (legs_into outs) c.args.wanted k (known_of g.K.HeldCost.cost c.args.search.now.known))
    (two_less c.args.hops.number c.if-hops-eq1.false) known.least)
    (held.weight, omega (arith, held.arcs)) c.requires.cost.1 c.args.hops.in_range.0 c.requires.apart.0 c.requires.apart.1 in
    subst (λ (m : RemainingLegs). IsTrue c.meets.result ↔ HasWitness (legs_from m.rows) c.args.wanted.avoided c.args.wanted.end
    c.args.w c.args.cost c.args.hops.number) c.self.view_is
    ((λ t. met.0 (c.meets.ensures.0 t)), λ w. c.meets.ensures.1 (met.1 w))

pub knows-requires : goal.knows-requires
knows-requires g c =
    let size = sym (length-map c.args.search.now.known.costs.items g.K.HeldCost.cost) ∙ c.requires.known.size in
    record { node = omega (arith, size, c.requires.node); most = c.requires.cost.0 }

pub returns-then-hops-eq1 : goal.returns-then-hops-eq1
unfolding legs_of
returns-then-hops-eq1 g c =
    let n = c.self.inside.nodes in
    let outs = c.self.inside.outs.rows in
    let ins = c.self.inside.ins.rows in
    let cost = g.K.HeldCost.cost in
    let search_known = known_of cost c.args.search.now.known in
    let one : c.args.hops.number ≡ 1 = c.if-hops-eq1.true in
    let known = subst (λ (m : RemainingLegs). IsKnown m c.args.wanted c.args.hops.number search_known) (sym c.self.view_is)
    c.requires.known in
    let held = c.requires.cost.0 in
    let met = known_witness n outs ins c.self.invariant.0 c.args.wanted search_known c.args.w c.args.cost
    (subst (λ k. AreLeastCosts (legs_into outs) c.args.wanted (known_legs k) search_known) one known.least)
    (held.weight, omega (arith, held.arcs)) c.requires.cost.1 c.requires.apart.0 c.requires.apart.1 in
    let at = subst (λ k. IsAtMost (known_at search_known c.args.w) c.args.cost ↔ HasWitness (legs_from outs) c.args.wanted.avoided
    c.args.wanted.end c.args.w c.args.cost k) (sym one) met in
    subst (λ (m : RemainingLegs). IsTrue c.knows.result ↔ HasWitness (legs_from m.rows) c.args.wanted.avoided c.args.wanted.end
    c.args.w c.args.cost c.args.hops.number) c.self.view_is
    ((λ t. at.0 (c.knows.ensures.0 t)), λ w. c.knows.ensures.1 (at.1 w))
