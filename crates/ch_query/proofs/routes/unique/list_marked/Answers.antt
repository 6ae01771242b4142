-- Without a tie the ways back from the meet are the route.
use Rattle.ch_query.proofs.routing.MarkedWays.{rank_within, way_down, way_up, marked_legs}
use Rattle.ch_query.proofs.routes.unique.list_marked.Goals as goal

pub node_at-node-requires : goal.node_at-node-requires
node_at-node-requires c =
    let q = c.requires in
    rank_within c.args.hierarchy.now q.kept c.args.start c.args.end c.args.marks.now c.args.least q.way q.end
    c.if-least-eq-UNREACHED.false c.if-least-eq-TIED.false

pub descend_marked-requires-clause-back : goal.descend_marked-requires-clause-back
descend_marked-requires-clause-back c =
    let q = c.requires in
    way_down c.args.hierarchy.now q.kept c.args.start c.args.end c.args.marks.now c.args.least q.way q.end
    c.if-least-eq-UNREACHED.false c.if-least-eq-TIED.false c.node_at-node.result c.node_at-node.ensures.node c.node_at-node.ensures.rank

pub descend_marked-requires-2-clause-back : goal.descend_marked-requires-2-clause-back
descend_marked-requires-2-clause-back c =
    let q = c.requires in
    way_up c.args.hierarchy.now q.kept c.args.start c.args.end c.args.marks.now c.args.least q.way q.end
    c.if-least-eq-UNREACHED.false c.if-least-eq-TIED.false c.node_at-node.result c.node_at-node.ensures.node c.node_at-node.ensures.rank

pub returns-then-least-eq-UNREACHED : goal.returns-then-least-eq-UNREACHED
returns-then-least-eq-UNREACHED c = (c.requires.way.none c.if-least-eq-UNREACHED.true, c.requires.empty)

pub returns : goal.returns
returns c =
    let q = c.requires in
    let turn = c.reverse.ensures in
    marked_legs c.args.hierarchy.now q.kept c.args.start c.args.end c.args.marks.now c.args.least q.way q.end
    c.if-least-eq-UNREACHED.false c.if-least-eq-TIED.false c.node_at-node.result c.node_at-node.ensures.node c.node_at-node.ensures.rank
    c.args.legs.now.items c.descend_marked.new.legs.items c.reverse.new.self.items c.descend_marked-2.new.legs.items q.empty
    (c.in_ok-descend_marked.ensures {u = tt} c.if-not-branch.false) turn.permutation turn.items
    (c.in_ok-descend_marked-2.ensures {u = tt} c.if-not-branch-2.false)
