-- The promises of a run that saves a hierarchy.
use Rattle.std.specs.Prelude.{◌⊎◌, ℕ, List}
use Rattle.ch_run.specs.declared.fault.RunFault.{RunFault}
use Rattle.ch_job.specs.declared.options.Options.{Options}
use Rattle.ch_run.specs.Run.{IsWrite, Reading, SourceReading}
use Rattle.ch_run.specs.Source.{IsOfLoading, IsToSave, WithLoaded}
use Rattle.ch_run.specs.Text.{IsSaveTextOf}

-- the input names a graph within the limits, and the text is that of its hierarchy: the one that was loaded, or one that is built
-- with the options
abbrev pub IsSavedBy : Options → Reading → SourceReading → List ℕ → Type 0
IsSavedBy options graph source text = WithLoaded graph source (λ g h. IsSaveTextOf (IsToSave options g h) text)

-- the faults that the run can end in
abbrev pub IsOfSave : SourceReading → RunFault → Type 0
IsOfSave source fault = IsOfLoading source fault ⊎ IsWrite fault
