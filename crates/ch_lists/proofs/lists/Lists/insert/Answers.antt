-- One list gets the value at its place, no other list changes, and the places of the lists still do not overlap.
use Rattle.std.specs.List.{insert}
use Rattle.ch_lists.proofs.Read.{edited_places, edited_lists}
use Rattle.ch_lists.proofs.lists.Lists.insert.Goals as goal

pub invariant_of-self-2 : goal.invariant_of-self-2
invariant_of-self-2 g c = edited_places _ _ _ _ _ c.self.view_is c.requires.list c.index-old.ensures c.self.invariant _ _
    (λ xs. insert xs c.args.place c.args.value) c.in_ok-new.ensures.ok

pub returns-clause-ok : goal.returns-clause-ok
returns-clause-ok g c = edited_lists _ _ _ _ _ c.self.view_is c.requires.list c.index-old.ensures c.self.invariant _ _
    (λ xs. insert xs c.args.place c.args.value) c.in_ok-new.ensures.ok
