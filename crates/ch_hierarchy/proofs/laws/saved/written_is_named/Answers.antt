-- The nodes of a hierarchy have one order of level, and written in this order the hierarchy is named, without a fault.
use Rattle.ch_hierarchy.proofs.theory.LevelOrder.{level_order, one_level_order}
use Rattle.ch_hierarchy.proofs.theory.SavedFaults.{no_fault}
use Rattle.ch_hierarchy.proofs.theory.WrittenLegs.{written_names, written_kept}
use Rattle.ch_hierarchy.proofs.laws.saved.written_is_named.Goals as goal

pub returns-clause-order : goal.returns-clause-order
returns-clause-order c = λ H is. let found = level_order H is in (found.0, found.1, λ other by. one_level_order H found.0 other found.1 by)

pub returns-clause-named : goal.returns-clause-named
returns-clause-named c = written_names

pub returns-clause-kept : goal.returns-clause-kept
returns-clause-kept c = λ g H order kept by. let named = written_kept g H order kept by in (named, no_fault g _ H named)
