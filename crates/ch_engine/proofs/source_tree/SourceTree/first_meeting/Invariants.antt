-- The meeting is the first with the branches before the current one.
use Rattle.std.proofs.Common.{take}
use Rattle.ch_engine.specs.PlaceTrees.{AreInSlots, IsFirstMeeting}
use Rattle.ch_engine.proofs.source_tree.SourceTree.first_meeting.Given as goal

abbrev pub invariant-loop-branch : goal.invariant-loop-branch
invariant-loop-branch l = AreInSlots l.self.slots.names l.self.branches.items →
    IsFirstMeeting l.self.branches.items (take l.branch-index l.branches) l.first
