-- A clean search into which both ends are put knows no sum yet.
use Rattle.std.proofs.Common.{ap, sym, ◌∙◌, get_or, get_or-set_other, set, None, Some}
use Rattle.ch_hierarchy.specs.Hierarchy.{nodes_of}
use Rattle.ch_hierarchy.specs.declared.side.Side.TheVariants.{Up, Down}
use Rattle.ch_hierarchy.specs.Side.{state_of}
use Rattle.ch_query.proofs.by_weight.States.{state_apart}
use Rattle.ch_query.proofs.by_weight.Unreached.{clean_none}
use Rattle.ch_query.proofs.by_weight.WeighingBegins.{weighing_begun, weighing_fresh}
use Rattle.ch_query.proofs.weights.search.WeightSearch.begin.Goals as goal

pub reach-requires-clause-unkeyed : goal.reach-requires-clause-unkeyed
reach-requires-clause-unkeyed c _ = clean_none (nodes_of c.args.hierarchy.now) c.args.self.now c.requires.clean c.state.result

pub reach-requires-2-clause-unkeyed : goal.reach-requires-2-clause-unkeyed
reach-requires-2-clause-unkeyed c _ =
    let apart = state_apart Up c.rank-2.result c.rank.result in
    ap (λ q. get_or q c.state-2.result None) c.reach.ensures.queue
    ∙ get_or-set_other c.args.self.now.queue c.state.result c.state-2.result (Some 0) None
    (λ same. apart (sym c.state-2.ensures ∙ same ∙ c.state.ensures))
    ∙ clean_none (nodes_of c.args.hierarchy.now) c.args.self.now c.requires.clean c.state-2.result

pub returns-clause-least : goal.returns-clause-least
returns-clause-least c =
    let first = c.reach.ensures in
    let second = c.reach-2.ensures in
    let from = c.state.ensures ∙ ap (state_of Up) c.rank.ensures.rank in
    let to = c.state-2.ensures ∙ ap (state_of Down) c.rank-2.ensures.rank in
    let known = second.known ∙ ap (λ q. set q c.state-2.result 0) first.known
    ∙ (λ i. set (set c.args.self.now.known.items (from i) 0) (to i) 0) in
    let queue = second.queue ∙ ap (λ q. set q c.state-2.result (Some 0)) first.queue
    ∙ (λ i. set (set c.args.self.now.queue (from i) (Some 0)) (to i) (Some 0)) in
    weighing_begun c.args.hierarchy.now c.rank.ensures.levelled c.args.self.now _ c.args.start c.args.end c.requires.clean
    c.requires.start c.requires.end known queue second.touched

pub returns-clause-unsettled : goal.returns-clause-unsettled
returns-clause-unsettled c =
    let first = c.reach.ensures in
    let second = c.reach-2.ensures in
    let from = c.state.ensures ∙ ap (state_of Up) c.rank.ensures.rank in
    let to = c.state-2.ensures ∙ ap (state_of Down) c.rank-2.ensures.rank in
    let known = second.known ∙ ap (λ q. set q c.state-2.result 0) first.known
    ∙ (λ i. set (set c.args.self.now.known.items (from i) 0) (to i) 0) in
    let queue = second.queue ∙ ap (λ q. set q c.state-2.result (Some 0)) first.queue
    ∙ (λ i. set (set c.args.self.now.queue (from i) (Some 0)) (to i) (Some 0)) in
    weighing_fresh c.args.hierarchy.now c.rank.ensures.levelled c.args.self.now c.reach-2.new.self c.args.start c.args.end c.requires.clean
    c.requires.start c.requires.end known queue second.touched
