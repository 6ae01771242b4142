-- The lists are those of the sections so far, and the sections that are left follow them.
use Rattle.std.proofs.Common.{◌≡◌, ◌++◌}
use Rattle.ch_read.specs.Sections.{AreListsOf}
use Rattle.ch_read.proofs.sections.lists_of.Given as goal

abbrev pub invariant-loop-section : goal.invariant-loop-section
invariant-loop-section g l =
    AreListsOf l.yielded l.firsts.items l.seconds.items × (l.fn.sections.items ≡ l.yielded ++ l.section-iterator.rest.items)
