-- The shortcuts before the current one are put in, and the lists set aside stay as they are.
use Rattle.std.proofs.Common.{◌≡◌, take}
use Rattle.ch_contract.specs.LegLists.{AreOverridden, legs_at}
use Rattle.ch_contract.proofs.leg_lists.LegLists.put_at.Given as goal

-- the shortcuts so far were put in, and the lists set aside stay
abbrev pub invariant-loop-shortcut : goal.invariant-loop-shortcut
invariant-loop-shortcut l =
    AreOverridden (legs_at l.end) l.v (take l.shortcut-index l.shortcuts) l.fn.self.rows l.self.rows × (l.self.aside ≡ l.fn.self.aside)
