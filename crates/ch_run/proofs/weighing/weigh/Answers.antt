-- The arcs have their last new weights, and the first new weight whose key no arc has is for no arc.
use Rattle.std.proofs.Common.{◌≡◌, refl, ◌∙◌}
use Rattle.ch_run.proofs.NewWeights.{all_low, arcs_low, first_without, have_all, reweighed_within, weighed_all}
use Rattle.ch_run.proofs.weighing.weigh.Goals as goal

pub from_judged-requires : goal.from_judged-requires
from_judged-requires c =
    let g = c.args.graph.now in
    let listed = c.args.listed.now in
    let limits = c.nodes-nodes.ensures.limits in
    let arcs = rw c.arcs.ensures.arcs at c.in_ok-arcs.ensures.arcs in
    rw (
      c.nodes-nodes.ensures.nodes,
      arcs,
      weighed_all g.arcs listed c.in_ok-found.found c.in_ok-found.ensures
          (all_low g listed limits c.requires.each) (arcs_low g listed limits c.requires.each),
    )
    (reweighed_within g listed limits c.requires.each)

pub returns-clause-graph : goal.returns-clause-graph
returns-clause-graph c =
    let g = c.args.graph.now in
    let listed = c.args.listed.now in
    let limits = c.nodes-nodes.ensures.limits in
    let arcs = rw c.arcs.ensures.arcs at c.in_ok-arcs.ensures.arcs in
    rw (
      c.from_judged.ensures,
      c.nodes-nodes.ensures.nodes,
      arcs,
      weighed_all g.arcs listed c.in_ok-found.found c.in_ok-found.ensures
          (all_low g listed limits c.requires.each) (arcs_low g listed limits c.requires.each),
    ) refl

pub returns-clause-arcs : goal.returns-clause-arcs
returns-clause-arcs c =
    let met = rw c.arcs.ensures.arcs at c.in_ok-arcs.ensures.met in
    have_all c.args.graph.now c.args.listed.now c.nodes-nodes.ensures.limits c.requires.each c.in_ok-found.found c.in_ok-arcs.met
    c.in_ok-found.ensures met c.in-None.ensures

pub returns-in-Some-clause-none : goal.returns-in-Some-clause-none
returns-in-Some-clause-none c = λ line same.
    let met = rw c.arcs.ensures.arcs at c.in_ok-arcs.ensures.met in
    let (place, new, stands, line_is, none, before) = c.in-Some.ensures in
    let at : line ≡ c.in-Some.line = cc in
    first_without c.args.graph.now c.args.listed.now c.nodes-nodes.ensures.limits c.requires.each c.in_ok-found.found c.in_ok-arcs.met
    c.in_ok-found.ensures met line place new stands (at ∙ line_is) none before
