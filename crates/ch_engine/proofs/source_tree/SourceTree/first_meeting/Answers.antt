-- The meeting with one more branch comes first, or the one before it.
use Rattle.std.proofs.Common.{◌∷◌, [], List, get_or, sym, subst, take, arith}
use Rattle.std.proofs.lemmas.List.{take_all, take_more}
use Rattle.ch_engine.specs.declared.sum_trees.Branch.{Branch}
use Rattle.ch_engine.specs.PlaceTrees.{IsFirstMeeting}
use Rattle.ch_engine.proofs.Meetings.{meeting_kept, meeting_more, meeting_none}
use Rattle.ch_engine.proofs.source_tree.SourceTree.first_meeting.Goals as goal

pub loop-branch-init : goal.loop-branch-init
loop-branch-init c = λ slots. meeting_none c.args.self.now.branches.items

pub loop-branch-preserved-in_default : goal.loop-branch-preserved-in_default
loop-branch-preserved-in_default c = λ slots.
    let l = c.loop-branch in
    let own = c.args.self.now.branches.items in
    let far = c.args.branches.now in
    let none : Branch = record { node = 0; cost = record { weight = 0; arcs = 0 }; sum = 0 } in
    let one = get_or far l.branch-index none in
    subst (λ (list : List Branch). IsFirstMeeting own list l.first)
    (sym (take_more far l.branch-index none c.loop-branch-test.true))
    (meeting_kept own (take l.branch-index far) (one ∷ []) l.first c.meeting.result (l.invariant slots) (c.meeting.ensures slots)
    c.in_default.is)

pub loop-branch-preserved : goal.loop-branch-preserved
loop-branch-preserved c = λ slots.
    let l = c.loop-branch in
    let own = c.args.self.now.branches.items in
    let far = c.args.branches.now in
    let none : Branch = record { node = 0; cost = record { weight = 0; arcs = 0 }; sum = 0 } in
    let one = get_or far l.branch-index none in
    let result = c.put_first.new.cell in
    subst (λ (list : List Branch). IsFirstMeeting own list result)
    (sym (take_more far l.branch-index none c.loop-branch-test.true))
    (meeting_more own (take l.branch-index far) (one ∷ []) l.first c.meeting.result (l.invariant slots) (c.meeting.ensures slots)
    c.in-Some.met c.in-Some.is result c.put_first.ensures)

pub returns : goal.returns
returns c = λ slots.
    let l = c.loop-branch in
    let own = c.args.self.now.branches.items in
    let far = c.args.branches.now in
    subst (λ (list : List Branch). IsFirstMeeting own list l.first)
    (take_all l.branch-index far (omega (arith, c.loop-branch-test.false))) (l.invariant slots)
