-- A search over the legs from each node learns the costs of chains in the other direction, up to two legs before the end.
use Rattle.std.proofs.Common.{◌≤◌, ◌<◌, sym, subst, ap, ◌∙◌}
use Rattle.std.specs.Prelude.{OnOk}
use Rattle.ch_graph.specs.declared.limits.TheConstants.{MOST_NODES}
use Rattle.ch_contract.specs.Legs.{AreLegsWithin}
use Rattle.ch_contract.specs.KnownCosts.{IsClean, AreLeastCosts, AreLegsUpTo, known_of}
use Rattle.ch_contract.specs.LegLists.{legs_into}
use Rattle.ch_contract.specs.Candidates.{IsKnown}
use Rattle.ch_contract.specs.Remaining.{RemainingLegs, legs_of}
use Rattle.ch_contract.proofs.code.Candidates.{into_within, known_after}
use Rattle.ch_contract.proofs.code.LightLegs.{turned_light}
use Rattle.ch_contract.proofs.remaining.Remaining.reach.Goals as goal

pub reach-requires : goal.reach-requires
unfolding legs_of
reach-requires g c =
    let n = c.self.inside.nodes in
    let outs = c.self.inside.outs.rows in
    let ins = c.self.inside.ins.rows in
    let count = c.self.invariant.0.sizes.0 in
    let nodes = ap (λ (m : RemainingLegs). m.nodes) c.self.view_is in
    record {
      rounds = c.known_legs.ensures.few;
      clean = subst (λ n. IsClean n (known_of g.K.HeldCost.cost c.args.search.now.known)) (sym (count ∙ nodes)) c.requires.clean;
      rows = c.self.invariant.0.rows.0;
      limits = subst (λ n. AreLegsWithin n (legs_into outs)) (sym count) (into_within n outs ins c.self.invariant.0);
      light = turned_light g.K.HeldCost.limit outs (subst (λ (m : RemainingLegs). AreLegsUpTo g.K.HeldCost.limit (legs_of m))
          (sym c.self.view_is) c.requires.light);
      nodes = subst (λ n. n ≤ MOST_NODES) (sym count) c.self.invariant.0.nodes;
      end = (subst (λ n. c.args.wanted.end < n) (sym (count ∙ nodes)) c.requires.end.0, c.requires.end.1);
      most = c.requires.most;
    }

pub returns : goal.returns
returns g c =
    let n = c.self.inside.nodes in
    let outs = c.self.inside.outs.rows in
    let ins = c.self.inside.ins.rows in
    record {
      known = subst (λ (m : RemainingLegs). OnOk c.reach.result
          (IsKnown m c.args.wanted c.args.hops.number (known_of g.K.HeldCost.cost c.reach.new.self.known))) c.self.view_is
          (known_after n outs ins c.self.invariant.0 c.self.inside.outs.aside c.self.inside.ins.aside c.args.wanted c.args.hops.number
          (known_of g.K.HeldCost.cost c.reach.new.self.known) c.reach.result c.reach.ensures.size
          (subst (λ k. OnOk c.reach.result (AreLeastCosts (legs_into outs) c.args.wanted k
          (known_of g.K.HeldCost.cost c.reach.new.self.known))) c.known_legs.ensures.legs c.reach.ensures.least));
      touched = c.reach.ensures.touched;
    }
