-- The texts of faults.
use Rattle.std.specs.Prelude.{ℕ, ◌++◌, List, codes, decimal}
use Rattle.ch_read.specs.declared.fault.FaultKind.{FaultKind}
use Rattle.ch_read.specs.declared.fault.FaultKind.TheVariants.{UnknownLine, BadProblem, SecondProblem, NoProblem, BadLine}
use Rattle.ch_read.specs.declared.fault.FaultKind.TheVariants.{NodeRange, Sum, Size, TooMany, TooFew}
use Rattle.ch_read.specs.declared.fault.ReadFault.{ReadFault}
use Rattle.ch_read.specs.declared.fault.ReadError.{ReadError}
use Rattle.ch_read.specs.declared.fault.ReadError.TheVariants.{Fault, NoMemory}

abbrev pub kind_text : FaultKind → List ℕ
kind_text UnknownLine = codes "unknown line"
kind_text BadProblem = codes "bad problem line"
kind_text SecondProblem = codes "second problem line"
kind_text NoProblem = codes "no problem line"
kind_text BadLine = codes "bad line"
kind_text NodeRange = codes "node out of range"
kind_text Sum = codes "weight too large"
kind_text Size = codes "size too large"
kind_text TooMany = codes "too many lines"
kind_text TooFew = codes "too few lines"

abbrev pub fault_text : ReadFault → List ℕ
fault_text f = codes "line " ++ decimal f.line ++ codes ": " ++ kind_text f.kind

abbrev pub error_text : ReadError → List ℕ
error_text (Fault f) = fault_text f
error_text NoMemory = codes "out of memory"
