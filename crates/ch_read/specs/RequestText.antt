-- The texts of faults of requests.
use Rattle.std.specs.Prelude.{ℕ, ◌++◌, List, codes, decimal}
use Rattle.ch_read.specs.declared.request_fault.RequestFault.{RequestFault}
use Rattle.ch_read.specs.declared.request_fault.RequestFault.TheVariants.{Line, Cells}
use Rattle.ch_read.specs.declared.request_fault.RequestError.{RequestError}
use Rattle.ch_read.specs.declared.request_fault.RequestError.TheVariants.{Fault, NoMemory}
use Rattle.ch_read.specs.Text.{fault_text}

abbrev pub request_fault_text : RequestFault → List ℕ
request_fault_text (Line fault) = fault_text fault
request_fault_text (Cells line) = codes "line " ++ decimal line ++ codes ": too many cells"

abbrev pub request_error_text : RequestError → List ℕ
request_error_text (Fault fault) = request_fault_text fault
request_error_text NoMemory = codes "out of memory"
