-- The texts of the faults of a saved hierarchy.
use Rattle.std.specs.Prelude.{ℕ, List, codes}
use Rattle.ch_hierarchy.specs.declared.fault.CheckFault.{CheckFault}
use Rattle.ch_hierarchy.specs.declared.fault.CheckFault.TheVariants.{Order, Pair, Bound, Base, Middle, Arc, Lower}
use Rattle.ch_hierarchy.specs.declared.fault.CheckError.{CheckError}
use Rattle.ch_hierarchy.specs.declared.fault.CheckError.TheVariants.{Fault, NoMemory}

-- one word for each kind
abbrev pub fault_text : CheckFault → List ℕ
fault_text Order = codes "order"
fault_text (Pair i) = codes "pair"
fault_text (Bound i) = codes "bound"
fault_text (Base i) = codes "base"
fault_text (Middle i) = codes "middle"
fault_text (Arc i) = codes "arc"
fault_text (Lower v) = codes "lower"

abbrev pub error_text : CheckError → List ℕ
error_text (Fault fault) = fault_text fault
error_text NoMemory = codes "out of memory"
