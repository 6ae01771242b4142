-- One more step puts each leg of its node in front of its chain.
use Rattle.std.proofs.Common.{◌++◌, ◌∷◌, [], sym, ◌∙◌, ap, subst, take, map, List}
use Rattle.std.proofs.lemmas.List.{take_more, map-append}
use Rattle.ch_contract.specs.KnownCosts.{ChainStart, Lowers, IsOneMore, IsOneMoreOf, known_of, chain_start_of}
use Rattle.ch_contract.proofs.code.Lowering.{one_step_more}
use Rattle.ch_contract.proofs.known_costs.KnownCosts.spread_all.Goals as goal

pub loop-step-preserved : goal.loop-step-preserved
loop-step-preserved g c =
    let cost = g.K.HeldCost.cost in
    let front = c.args.front.now in
    let i = c.loop-step.step-index in
    let f = c.step-item.result in
    let step = chain_start_of cost f in
    let old = known_of cost c.args.self.now in
    let mid = known_of cost c.loop-step.self in
    let new = known_of cost c.spread.new.self in
    let low = subst (λ legs. Lowers (IsOneMore legs step c.args.wanted) mid new) c.at.ensures c.in_ok-spread.ensures in
    let one = take_more front i f c.loop-step-test.true ∙ ap (λ y. take i front ++ y ∷ []) (sym c.step-item.is) in
    let more = ap (map (chain_start_of cost)) one ∙ map-append (chain_start_of cost) (take i front) (f ∷ []) in
    subst (λ (z : List ChainStart). Lowers (IsOneMoreOf c.args.lists.now.rows z c.args.wanted) old new) (sym more)
    (one_step_more c.args.lists.now.rows (map (chain_start_of cost) (take i front)) step c.args.wanted old mid new
    c.loop-step.invariant low)
