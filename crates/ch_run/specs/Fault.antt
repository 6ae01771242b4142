-- The line and the exit status of each fault.
use Rattle.std.specs.Prelude.{ℕ, ◌+◌, ◌++◌, List, Result, Ok, Err, codes, decimal}
use Rattle.ch_hierarchy.specs.FaultText.{fault_text as check_fault_text}
use Rattle.ch_read.specs.declared.fault.ReadError.{ReadError}
use Rattle.ch_read.specs.declared.fault.ReadError.TheVariants.{Fault, NoMemory}
use Rattle.ch_read.specs.Text.{fault_text as read_fault_text}
use Rattle.ch_run.specs.declared.fault.RunFault.{RunFault}
use Rattle.ch_run.specs.declared.fault.Which.{Which}

-- the word for an input
abbrev pub input_name : Which → List ℕ
input_name Which.Graph = codes "graph"
input_name Which.Saved = codes "saved"
input_name Which.Order = codes "order"
input_name Which.Queries = codes "queries"
input_name Which.Sources = codes "sources"
input_name Which.Targets = codes "targets"
input_name Which.Requests = codes "requests"

-- the first word of a fault of this input
abbrev pub read_heading : Which → List ℕ
read_heading Which.Graph = codes "graph "
read_heading Which.Saved = codes "saved "
read_heading Which.Order = codes "order "
read_heading Which.Queries = codes "queries "
read_heading Which.Sources = codes "sources "
read_heading Which.Targets = codes "targets "
read_heading Which.Requests = codes "request "

-- the words for a fault
abbrev pub fault_words : RunFault → List ℕ
fault_words (RunFault.Read which fault) = read_heading which ++ read_fault_text fault
fault_words RunFault.Cells = codes "too many cells"
fault_words (RunFault.CellsAt line) = codes "request line " ++ decimal line ++ codes ": too many cells"
fault_words (RunFault.NoArcAt line) = codes "request line " ++ decimal line ++ codes ": no such arc"
fault_words (RunFault.FixedAt line) = codes "request line " ++ decimal line ++ codes ": needs --customizable"
fault_words RunFault.Memory = codes "out of memory"
fault_words (RunFault.Device which) = codes "cannot read " ++ input_name which
fault_words (RunFault.Write count) = codes "cannot write after " ++ decimal count ++ codes " bytes"
fault_words (RunFault.Check fault) = codes "saved hierarchy refused: " ++ check_fault_text fault
fault_words RunFault.Order = codes "order refused: a node occurs twice"
fault_words (RunFault.Crowded node) = codes "order refused: too many edges at node " ++ decimal (node + 1)

-- the line that reports a fault, without its line feed
abbrev pub fault_text : RunFault → List ℕ
fault_text fault = codes "chtab: " ++ fault_words fault

-- the exit status of a fault. It is 1 if a file, a request, a saved hierarchy, an order or the size of a table was refused. It is 3 if the
-- system refused something
abbrev pub status_of : RunFault → ℕ
status_of (RunFault.Read _ _) = 1
status_of RunFault.Cells = 1
status_of (RunFault.CellsAt _) = 1
status_of (RunFault.NoArcAt _) = 1
status_of (RunFault.FixedAt _) = 1
status_of RunFault.Memory = 3
status_of (RunFault.Device _) = 3
status_of (RunFault.Write _) = 3
status_of (RunFault.Check _) = 1
status_of RunFault.Order = 1
status_of (RunFault.Crowded _) = 1

-- the fault of a run whose reader refused this input, or had no memory for it
abbrev pub input_fault : Which → ReadError → RunFault
input_fault which (Fault fault) = RunFault.Read which fault
input_fault which NoMemory = RunFault.Memory

-- what a reader made of this input, with its error as the fault of the run
abbrev pub judged : {A : Type 0} → Which → Result A ReadError → Result A RunFault
judged which (Ok value) = Ok value
judged which (Err error) = Err (input_fault which error)
