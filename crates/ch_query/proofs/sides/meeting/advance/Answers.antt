-- The node of the least key is settled, and with its sum the searches are still meeting, with one node fewer to settle.
use Rattle.std.proofs.Common.{sym, arith}
use Rattle.ch_query.proofs.one_side.Popping.{key_rank, popped_at, pop_expands, pop_falls}
use Rattle.ch_query.proofs.two_sides.MeetingSteps.{known_arcs, met_then}
use Rattle.ch_query.proofs.sides.meeting.advance.Goals as goal

pub node_at-node-requires : goal.node_at-node-requires
node_at-node-requires c = key_rank _ _ _ _ _ c.requires.meeting.1.here c.in-Some.ensures.least

pub met-requires-clause-there : goal.met-requires-clause-there
met-requires-clause-there c = (_, c.requires.meeting.1.there)

pub met-requires-clause-cost : goal.met-requires-clause-cost
met-requires-clause-cost c =
    let here = c.requires.meeting.1.here in
    let popped = popped_at _ _ _ _ _ _ _ here c.node_at-node.ensures.node c.node_at-node.ensures.rank
    c.in-Some.ensures.least c.in-Some.ensures.rest in
    known_arcs _ _ _ _ _ here (here.search.queued _ _ popped.key.has)

pub settle-requires-clause-expanding : goal.settle-requires-clause-expanding
settle-requires-clause-expanding c =
    let here = c.requires.meeting.1.here in
    let popped = popped_at _ _ _ _ _ _ _ here c.node_at-node.ensures.node c.node_at-node.ensures.rank
    c.in-Some.ensures.least c.in-Some.ensures.rest in
    pop_expands _ _ _ _ _ _ here popped

pub look_ahead-requires-clause-there : goal.look_ahead-requires-clause-there
look_ahead-requires-clause-there c = (_, c.requires.meeting.1.there)

pub look_ahead-requires-clause-rank : goal.look_ahead-requires-clause-rank
look_ahead-requires-clause-rank c = (c.node_at-node.result, c.node_at-node.ensures.node, sym c.node_at-node.ensures.rank)

pub returns-then-not-question-clause-meeting : goal.returns-then-not-question-clause-meeting
returns-then-not-question-clause-meeting c =
    let popped = popped_at _ _ _ _ _ _ _ c.requires.meeting.1.here c.node_at-node.ensures.node c.node_at-node.ensures.rank
    c.in-Some.ensures.least c.in-Some.ensures.rest in
    let after = c.settle.ensures in
    λ other meeting. c.look_ahead.ensures other
    (met_then _ _ _ _ _ _ meeting _ _ _ popped _ c.met.ensures _ after.underway after.settled)

pub returns-else-not-question-clause-meeting : goal.returns-else-not-question-clause-meeting
returns-else-not-question-clause-meeting c =
    let popped = popped_at _ _ _ _ _ _ _ c.requires.meeting.1.here c.node_at-node.ensures.node c.node_at-node.ensures.rank
    c.in-Some.ensures.least c.in-Some.ensures.rest in
    let after = c.settle.ensures in
    λ other meeting. met_then _ _ _ _ _ _ meeting _ _ _ popped _ c.met.ensures _ after.underway after.settled

pub returns-then-not-question-clause-less : goal.returns-then-not-question-clause-less
returns-then-not-question-clause-less c =
    let here = c.requires.meeting.1.here in
    let popped = popped_at _ _ _ _ _ _ _ here c.node_at-node.ensures.node c.node_at-node.ensures.rank
    c.in-Some.ensures.least c.in-Some.ensures.rest in
    let falls = pop_falls _ _ _ _ _ _ here popped in
    let same = c.settle.ensures.measure in
    λ _. omega arith

pub returns-else-not-question-clause-less : goal.returns-else-not-question-clause-less
returns-else-not-question-clause-less c =
    let here = c.requires.meeting.1.here in
    let popped = popped_at _ _ _ _ _ _ _ here c.node_at-node.ensures.node c.node_at-node.ensures.rank
    c.in-Some.ensures.least c.in-Some.ensures.rest in
    let falls = pop_falls _ _ _ _ _ _ here popped in
    let same = c.settle.ensures.measure in
    λ _. omega arith
