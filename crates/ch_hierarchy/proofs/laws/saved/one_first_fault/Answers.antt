-- Two faults that are both the first are equal.
use Rattle.ch_hierarchy.proofs.theory.SavedFaults.{one_first}
use Rattle.ch_hierarchy.proofs.laws.saved.one_first_fault.Goals as goal

pub returns : goal.returns
returns c = one_first
