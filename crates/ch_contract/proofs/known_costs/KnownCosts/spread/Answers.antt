-- One more leg in front of the chain lowers the known cost of its node, and there is capacity for the legs that follow.
use Rattle.std.proofs.Common.{◌+◌, ◌-◌, [], length, take, get_or, sym, subst, arith}
use Rattle.std.proofs.lemmas.List.{take_more}
use Rattle.ch_contract.specs.KnownCosts.{Lowers, IsOneMore, known_of, chain_start_of}
use Rattle.ch_hierarchy.proofs.theory.NoLeg.{no_leg}
use Rattle.ch_contract.proofs.code.Lowering.{legs_more, lowers_none, no_more}
use Rattle.ch_contract.proofs.known_costs.KnownCosts.spread.Goals as goal

pub loop-leg-init : goal.loop-leg-init
loop-leg-init g c =
    let cost = g.K.HeldCost.cost in
    let step = chain_start_of cost c.args.step in
    let old = known_of cost c.args.self.now in
    let room = c.in_ok-reserve.ensures.room in (
      subst (λ z. Lowers (IsOneMore [] step c.args.wanted) old z) (sym c.reserve.ensures.known)
          (lowers_none _ old (λ x d m. absurd (no_more step c.args.wanted x d m))),
      (omega (arith, room.0), omega (arith, room.1)),
    )

pub spread_leg-requires-clause-room : goal.spread_leg-requires-clause-room
spread_leg-requires-clause-room g c =
    let room = c.loop-leg.invariant.1 in
    let lt = c.loop-leg-test.true in
    (omega (arith, room.0), omega (arith, room.1))

pub loop-leg-preserved : goal.loop-leg-preserved
loop-leg-preserved g c =
    let cost = g.K.HeldCost.cost in
    let legs = c.args.legs.now in
    let i = c.loop-leg.leg-index in
    let lt = c.loop-leg-test.true in
    let room = c.loop-leg.invariant.1 in (
      rw (take_more legs i no_leg lt)
          (legs_more (take i legs) (get_or legs i no_leg) (chain_start_of cost c.args.step) c.args.wanted
          (known_of cost c.args.self.now) (known_of cost c.loop-leg.self) (known_of cost c.spread_leg.new.self)
          c.loop-leg.invariant.0 c.spread_leg.ensures.lowers),
      c.spread_leg.ensures.room (length legs - (i + 1)) (omega (arith, room.0), omega (arith, room.1)),
    )
