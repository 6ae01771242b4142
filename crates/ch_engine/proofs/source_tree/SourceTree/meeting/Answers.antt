-- The only branch at the node makes the meeting, unless the cost is too large.
use Rattle.std.proofs.Common.{refl}
use Rattle.ch_engine.proofs.Meetings.{none_fits, none_there, one_meets}
use Rattle.ch_engine.proofs.source_tree.SourceTree.meeting.Goals as goal

pub returns-in_default-own : goal.returns-in_default-own
returns-in_default-own c = λ slots. none_there c.args.self.now.branches.items c.args.branch c.branch-own.result
    (c.branch-own.ensures.all slots) c.in_default-own.is

pub returns-in_default : goal.returns-in_default
returns-in_default c = λ slots. none_fits c.args.self.now.branches.items c.args.branch c.branch-own.result
    (c.branch-own.ensures.all slots) c.in_Some-own.own c.in_Some-own.is c.in_default.ensures

pub returns : goal.returns
returns c = λ slots.
    let some = c.in_Some-own.ensures.some slots in
    one_meets c.args.self.now.branches.items c.args.branch c.branch-own.result (c.branch-own.ensures.all slots) c.in_Some-own.own
    c.in_Some-own.is some.0 some.1 _ refl c.in-Some.ensures c.joined.ensures
