-- A clean search into which the source is put on one side has reached nothing else.
use Rattle.std.proofs.Common.{ap, ◌∙◌}
use Rattle.ch_hierarchy.specs.Hierarchy.{nodes_of}
use Rattle.ch_hierarchy.specs.Side.{state_of}
use Rattle.ch_query.proofs.by_weight.Unreached.{clean_none}
use Rattle.ch_query.proofs.by_weight.WeighingBegins.{begun_alone}
use Rattle.ch_query.proofs.weights.search.WeightSearch.begin_on.Goals as goal

pub returns : goal.returns
returns c =
    let reached = c.reach.ensures in
    λ ends source most.
    begun_alone c.args.hierarchy.now c.rank.ensures.levelled c.args.self.now c.reach.new.self c.requires.clean ends c.args.side
    c.args.source c.state.result c.requires.source (c.state.ensures ∙ ap (state_of c.args.side) c.rank.ensures.rank) source most
    reached.known reached.queue reached.touched

pub reach-requires-clause-unkeyed : goal.reach-requires-clause-unkeyed
reach-requires-clause-unkeyed c _ = clean_none (nodes_of c.args.hierarchy.now) c.args.self.now c.requires.clean c.state.result
