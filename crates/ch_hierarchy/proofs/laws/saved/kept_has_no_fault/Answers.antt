-- A saved hierarchy that names a right one has no fault, and one that names any has none of the first three.
use Rattle.ch_hierarchy.proofs.theory.SavedFaults.{none_early, no_fault}
use Rattle.ch_hierarchy.proofs.laws.saved.kept_has_no_fault.Goals as goal

pub returns-clause-kept : goal.returns-clause-kept
returns-clause-kept c = no_fault

pub returns-clause-named : goal.returns-clause-named
returns-clause-named c = none_early
